use Rattle.std.proofs.Common.{◌≡◌, ◌++◌, Some}
use Rattle.piece_threads.specs.Code.Bundles.{outs_in}
use Rattle.piece_threads.proofs.bundles.join_outs.Given as goal

abbrev pub invariant-loop-result : goal.invariant-loop-result
invariant-loop-result g l = record {
  met : outs_in l.yielded ≡ Some l.outs.items;
  all : l.yielded ++ l.result-iterator.rest.items ≡ l.initial.result-iterator.rest.items;
}
