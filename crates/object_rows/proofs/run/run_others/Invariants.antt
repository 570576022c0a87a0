use Rattle.std.proofs.Common.{◌≡◌, ◌++◌}
use Rattle.seq_objects.specs.Pieces.{AllMeet}
use Rattle.object_rows.specs.Rows.{MembersMeet}
use Rattle.object_rows.proofs.run.run_others.Given as goal

-- the outs so far meet the pieces of the rows that were run
abbrev pub invariant-loop-row : goal.invariant-loop-row
invariant-loop-row g l = record {
  met : AllMeet (MembersMeet g.T.Batched.meets) l.yielded l.outs.items;
  all : l.yielded ++ l.row-iterator.rest.items ≡ l.initial.row-iterator.rest.items;
}
