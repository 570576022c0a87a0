use Rattle.std.proofs.Common.{◌≡◌, take}
use Rattle.seq_objects.specs.Batches.{calls_of}
use Rattle.launch_batch.proofs.row.calls_of.Given as goal

-- the kind's calls so far
abbrev pub invariant-loop-place : goal.invariant-loop-place
invariant-loop-place g l = l.own.items ≡ calls_of g.T.Kind.kind (take l.place l.calls)
