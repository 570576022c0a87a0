use Rattle.std.proofs.Common.{◌≡◌, ◌++◌}
use Rattle.seq_objects.specs.Pieces.{AllMeet}
use Rattle.seq_objects.proofs.batched.run_in_turn.Given as goal

-- the outs so far meet the pieces that were run
abbrev pub invariant-loop-input : goal.invariant-loop-input
invariant-loop-input g l = record {
  met : AllMeet g.T.Batched.meets l.yielded l.outs.items;
  all : l.yielded ++ l.input-iterator.rest.items ≡ l.initial.input-iterator.rest.items;
}
