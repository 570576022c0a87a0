use Rattle.std.proofs.Common.{◌≡◌, ◌≤◌, length, take}
use Rattle.seq_objects.specs.Batches.{calls_of}
use Rattle.launch_batch.proofs.row.count_of.Given as goal

-- the kind's calls so far
abbrev pub invariant-loop-place : goal.invariant-loop-place
invariant-loop-place g l = record {
  counted : l.count ≡ length (calls_of g.T.Kind.kind (take l.place l.calls));
  few : l.count ≤ l.place;
}
