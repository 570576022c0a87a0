use Rattle.std.proofs.Common.{◌≡◌, length}
use Rattle.batched_stack.proofs.BeginLemmas.Cutting.{IsCutBelow}
use Rattle.batched_stack.proofs.begin.cut_called.Given as goal

abbrev pub invariant-loop-number : goal.invariant-loop-number
invariant-loop-number l = record {
  cut : IsCutBelow l.fn.stripes.items l.count l.pushes l.pops l.number l.stripes.items l.pieces.items;
  sixteen : length l.stripes.items ≡ 16;
}
