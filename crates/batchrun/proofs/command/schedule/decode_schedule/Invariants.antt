use Rattle.std.proofs.Common.{◌≡◌, ◌++◌}
use Rattle.std.specs.Prelude.{drop}
use Rattle.batchrun.specs.Words.{workers_named}
use Rattle.batchrun.proofs.command.schedule.decode_schedule.Given as goal

-- the workers named so far, and those that are still to come
abbrev pub invariant-loop-byte : goal.invariant-loop-byte
invariant-loop-byte l = record {
  named : l.schedule.items ++ workers_named (drop l.byte-index l.word) ≡ workers_named l.word;
}
