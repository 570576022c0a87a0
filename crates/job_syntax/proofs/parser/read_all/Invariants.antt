use Rattle.std.proofs.Common.{◌≡◌, length}
use Rattle.job_syntax.specs.Code.Machine.{read_from, start}
use Rattle.job_syntax.specs.Code.OpenBlocks.{ShowsLets, view}
use Rattle.job_syntax.proofs.parser.read_all.Given as goal

abbrev pub invariant-loop-token : goal.invariant-loop-token
invariant-loop-token l = record {
  reads : read_from l.last (view l.stack) l.words ≡ read_from l.last start l.fn.words;
  shows : ShowsLets l.stack;
}

abbrev pub decreases-loop-token : goal.decreases-loop-token
decreases-loop-token l = length l.words
