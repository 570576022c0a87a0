use Rattle.std.proofs.Common.{◌≡◌, length}
use Rattle.batched_queue.specs.Code.Stripes.{lists}
use Rattle.batched_queue.proofs.Cutting.{IsCutBelow}
use Rattle.batched_queue.proofs.begin.cut_pieces.Given as goal

abbrev pub invariant-loop-number : goal.invariant-loop-number
invariant-loop-number l = record {
  cut : IsCutBelow (lists l.fn.stripes.items) l.first l.count l.puts l.found l.number (lists l.stripes.items) l.pieces.items;
  sixteen : length l.stripes.items ≡ 16;
}
