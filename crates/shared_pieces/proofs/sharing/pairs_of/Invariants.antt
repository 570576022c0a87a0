use Rattle.std.proofs.Common.{◌≡◌, ◌++◌, length}
use Rattle.std.specs.Prelude.{zip}
use Rattle.shared_pieces.proofs.sharing.pairs_of.Given as goal

-- the pairs so far, and those of the items that are left, are all pairs
abbrev pub invariant-loop-first : goal.invariant-loop-first
invariant-loop-first g l = record {
  pairs : l.pairs.items ++ zip l.first-iterator.rest.items l.rest.rest.items ≡ zip l.fn.firsts.items l.fn.seconds.items;
  long : length l.first-iterator.rest.items ≡ length l.rest.rest.items;
}
