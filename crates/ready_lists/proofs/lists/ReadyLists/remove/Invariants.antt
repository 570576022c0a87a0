use Rattle.std.proofs.Common.{ℕ, ◌≡◌, ◌<◌, [], length}
use Rattle.core_model.specs.Lists.{times}
use Rattle.ready_lists.specs.Places.{at}
use Rattle.ready_lists.proofs.lists.ReadyLists.remove.Given as goal

abbrev pub invariant-loop-other : goal.invariant-loop-other
invariant-loop-other l = record {
  len : length l.self ≡ length l.fn.self;
  same : at l.self [] ≡ at l.fn.self [];
  none : (v : ℕ) → v < l.other → times l.node (at l.fn.self [] v) ≡ 0;
}
