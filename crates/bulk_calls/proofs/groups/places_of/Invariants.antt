use Rattle.std.proofs.Common.{◌≡◌, ℕ, ◌<◌, ◌≤◌, get_or}
use Rattle.bulk_calls.proofs.groups.places_of.Given as goal

-- the places so far have their starts, and the others the greatest number
abbrev pub invariant-loop-place : goal.invariant-loop-place
invariant-loop-place l = record {
  front : (i : ℕ) → i < l.place → get_or l.places i 0 ≡ get_or l.starts i 0;
  behind : (i : ℕ) → l.place ≤ i → i < 15 → get_or l.places i 0 ≡ 4294967295;
}
