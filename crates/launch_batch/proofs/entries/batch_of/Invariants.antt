use Rattle.std.proofs.Common.{◌≡◌, take}
use Rattle.launch_batch.proofs.Words.{calls_in, replies_in}
use Rattle.launch_batch.proofs.entries.batch_of.Given as goal

-- the entries so far
abbrev pub invariant-loop-place : goal.invariant-loop-place
invariant-loop-place l = record {
  calls : calls_in l.entries.items ≡ take l.place l.calls;
  told : replies_in l.entries.items ≡ take l.place l.replies;
}
