use Rattle.std.proofs.Common.{◌≡◌, ◌++◌}
use Rattle.seq_objects.specs.Pieces.{AllMeet}
use Rattle.piece_threads.proofs.pieces.run_in_turn.Given as goal

abbrev pub invariant-loop-input : goal.invariant-loop-input
invariant-loop-input g l = record {
  met : AllMeet g.P.Pieces.meets l.yielded l.outs.items;
  all : l.yielded ++ l.input-iterator.rest.items ≡ l.initial.input-iterator.rest.items;
}
