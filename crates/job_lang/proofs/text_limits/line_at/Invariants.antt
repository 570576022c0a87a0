use Rattle.std.proofs.Common.{◌≡◌, drop}
use Rattle.job_syntax.specs.Words.{words_on_lines}
use Rattle.job_lang.proofs.text_limits.line_at.Given as goal

abbrev pub invariant-loop : goal.invariant-loop
invariant-loop l = l.words ≡ drop l.counter (words_on_lines l.text)
