-- The number of groups, and the group of each key.
use Rattle.std.proofs.Common.{◌≡◌, ℕ, suc, ◌+◌, ◌-◌, ◌*◌, ◌<◌, ◌≤◌, inl, inr, true, false, nat_lt, nat_le, List, [], ◌∷◌, ◌++◌, length, get_or, take, drop, Some, refl, sym, ap, ◌∙◌, append-nil, arith}
use Rattle.std.specs.List.{AllByRecursion}
use Rattle.std.proofs.Math.Nat.{div-eq_of_lt-le, mul-le-mul_right}
use Rattle.std.proofs.lemmas.Bool.Decides.{nat_tests}
use Rattle.std.proofs.lemmas.Grind.{common_steps}
use Rattle.key_sets.specs.Keys.{StrictlyAscends, has}
use Rattle.key_sets.specs.Groups.{AreGroups, AreInRanges, starts_of, is_in, group_of, group_size, group_count}
use Rattle.key_sets.proofs.KeyLemmas.Ascending.{all_map}
use Rattle.key_sets.proofs.KeyLemmas.Beside.{has_low, has_high}
use Rattle.std.proofs.lemmas.Bool.{cases_lt}
use Rattle.key_sets.proofs.GroupLemmas.Cutting.{apart, take_drop, all_take, next_start}

-- the last group has all keys that remain
pub last_whole : (size : ℕ) (keys group : List ℕ) → group ≡ take size keys → drop size keys ≡ [] → group ≡ keys
last_whole size keys group is none = is ∙ sym (append-nil (take size keys)) ∙ ap (λ rest. take size keys ++ rest) (sym none) ∙ take_drop size keys

bounds : (size : ℕ) (keys : List ℕ) (groups : List (List ℕ)) → 0 < size → AreGroups size keys groups
    → (length keys ≤ length groups * size) × (length groups * size < length keys + size)
bounds size keys [] some are = rw are (omega arith, omega (arith, some))
bounds size keys (group ∷ []) some are =
    let left : length (drop size keys) ≡ length keys - size = grind (arith, common_steps) in
    let none : length (drop size keys) ≡ 0 = ap length are.2 in
    (omega (arith, left, none), omega (arith, are.0))
bounds size keys (group ∷ next ∷ groups) some are =
    let left : length (drop size keys) ≡ length keys - size = grind (arith, common_steps) in
    let more : 0 < length (drop size keys) = are.2.0 in
    let rest = bounds size (drop size keys) (next ∷ groups) some are.2 in
    one_more (length (next ∷ groups)) (length keys) (length (drop size keys)) left more rest.0 rest.1 where
      one_more : (count all rest : ℕ) → rest ≡ all - size → 0 < rest → rest ≤ count * size → count * size < rest + size
          → (all ≤ suc count * size) × (suc count * size < all + size)
      one_more count all rest is more low high = (omega (arith, is, more, low), omega (arith, is, more, high))

pub counted_groups : (keys : List ℕ) (groups : List (List ℕ)) → AreGroups (group_size (length keys)) keys groups
    → length groups ≡ group_count (length keys)
counted_groups keys [] are = rw are refl
counted_groups keys (group ∷ groups) are =
    let size = group_size (length keys) in
    let b = bounds size keys (group ∷ groups) (omega (arith, are.0)) are in
    sym (div-eq_of_lt-le size (omega (arith, b.0)) (omega (arith, b.1)))

pub few_groups : (keys : List ℕ) (groups : List (List ℕ)) → AreGroups (group_size (length keys)) keys groups
    → length groups ≤ 16
few_groups keys [] are = omega arith
few_groups keys (group ∷ groups) are =
    let b = bounds (group_size (length keys)) keys (group ∷ groups) (omega (arith, are.0)) are in
    elim (cases_lt 16 (length (group ∷ groups))) [
      | inl more ↦ let many = mul-le-mul_right {m = 17} {n = length (group ∷ groups)} (group_size (length keys)) (omega (arith, more)) in absurd (omega (arith, many, b.1))
      | inr few ↦ few
    ]

pub key_in_group : (size : ℕ) (keys : List ℕ) (groups : List (List ℕ)) (key : ℕ) → 0 < size → StrictlyAscends keys
    → AreGroups size keys groups → has key keys ≡ true
    → has key (get_or groups (group_of key (starts_of groups)) []) ≡ true
key_in_group size keys [] key some up are there = let none = rw are at there in absurd (cc)
key_in_group size keys (group ∷ []) key some up are there = rw (last_whole size keys group are.1 are.2) there
key_in_group size keys (group ∷ next ∷ groups) key some up are there =
    let b = get_or next 0 0 in
    let begins = next_start size keys next some are.2.0 are.2.1 in
    let cut = apart size b keys up begins.1 in
    let whole : has key (take size keys ++ drop size keys) ≡ true = ap (has key) (take_drop size keys) ∙ there in
    elim (cases_lt key b) [
      | inl less ↦
          let test : nat_lt key b ≡ true = grind (arith, nat_tests) in
          let own : has key (take size keys) ≡ true = sym (has_low key b (take size keys) (drop size keys) less cut.up) ∙ whole in
          rw test (ap (has key) are.1 ∙ own)
      | inr le ↦
          let test : nat_lt key b ≡ false = grind (arith, nat_tests) in
          let own : has key (drop size keys) ≡ true = sym (has_high key b (take size keys) (drop size keys) le cut.down) ∙ whole in
          rw test (key_in_group size (drop size keys) (next ∷ groups) key some cut.ascends are.2 own)
    ]

-- the keys of a group lie in its range
both_ends : (start end : ℕ) (keys : List ℕ) → AllByRecursion (λ k. start ≤ k) keys → AllByRecursion (λ k. k < end) keys
    → AllByRecursion (λ k. is_in start (Some end) k ≡ true) keys
both_ends start end [] up down = tt
both_ends start end (k ∷ keys) up down =
    let test : nat_le start k ≡ true = grind (arith, nat_tests, up.0) in
    let test' : nat_lt k end ≡ true = grind (arith, nat_tests, down.0) in
    (rw (test, test') refl, both_ends start end keys up.1 down.1)

pub in_ranges : (size start : ℕ) (keys : List ℕ) (groups : List (List ℕ)) → 0 < size → StrictlyAscends keys
    → AllByRecursion (λ k. start ≤ k) keys → AreGroups size keys groups → AreInRanges start groups
in_ranges size start keys [] some up least are = tt
in_ranges size start keys (group ∷ []) some up least are =
    let each = all_map (λ k. start ≤ k) (λ k. nat_le start k ≡ true) (λ k le. grind (arith, nat_tests, le)) keys least in
    (rw (last_whole size keys group are.1 are.2) each, tt)
in_ranges size start keys (group ∷ next ∷ groups) some up least are =
    let b = get_or next 0 0 in
    let begins = next_start size keys next some are.2.0 are.2.1 in
    let cut = apart size b keys up begins.1 in
    let own = both_ends start b (take size keys) (all_take (λ k. start ≤ k) size keys least) cut.down in
    let rest = in_ranges size b (drop size keys) (next ∷ groups) some cut.ascends cut.up are.2 in
    rw begins.0 (rw are.1 own, rest)
