use Rattle.std.proofs.Common.{◌≡◌, length}
use Rattle.job_lang.specs.Code.Searches.{dependents}
use Rattle.job_lang.proofs.text_limits.argument_range.next_dependent.Given as goal

abbrev pub invariant-loop-token : goal.invariant-loop-token
invariant-loop-token l = dependents l.initial.words ≡ dependents l.words

abbrev pub decreases-loop-token : goal.decreases-loop-token
decreases-loop-token l = length l.words
