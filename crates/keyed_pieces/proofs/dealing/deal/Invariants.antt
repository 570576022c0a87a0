use Rattle.std.proofs.Common.{◌≡◌, [], length, drop, replicate}
use Rattle.keyed_pieces.specs.Dealing.{lists}
use Rattle.keyed_pieces.proofs.DealLemmas.{with_dealt}
use Rattle.keyed_pieces.proofs.dealing.deal.Given as goal

abbrev pub invariant-loop-at : goal.invariant-loop-at
invariant-loop-at g l = record {
  dealt : with_dealt (lists l.all.items) (drop l.at l.groups) (drop l.at l.items) ≡ with_dealt (replicate l.count []) l.groups l.items;
  count : length l.all.items ≡ l.count;
}
