use Rattle.std.proofs.Common.{◌≡◌, ◌<◌, ◌^◌, drop}
use Rattle.job_syntax.specs.Words.{digits_from}
use Rattle.job_syntax.proofs.lexer.word_of.number_of.Given as goal

abbrev pub invariant-loop-digit : goal.invariant-loop-digit
invariant-loop-digit l = record {
  fits : l.number < 2 ^ 32;
  left : digits_from l.number (drop l.digit-index l.digits) ≡ digits_from 0 l.digits;
}
