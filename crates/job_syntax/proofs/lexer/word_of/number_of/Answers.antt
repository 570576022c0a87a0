use Rattle.std.proofs.Common.{◌∙◌, sym, arith}
use Rattle.job_syntax.proofs.LexerLemmas.Numbers.{none_when_digit_large, some_at_end}
use Rattle.job_syntax.proofs.lexer.word_of.number_of.Goals as goal

pub returns-in_err-checked_mul : goal.returns-in_err-checked_mul
returns-in_err-checked_mul c =
    c.from_residual.ensures
    ∙ sym (none_when_digit_large c.args.digits.now c.loop-digit.digit-index c.loop-digit.number c.loop-digit.invariant.left (omega arith) (omega (arith, c.in_err-checked_mul.ensures)))

pub returns-in_err-number : goal.returns-in_err-number
returns-in_err-number c =
    c.from_residual-in_err-number.ensures
    ∙ sym (none_when_digit_large c.args.digits.now c.loop-digit.digit-index c.loop-digit.number c.loop-digit.invariant.left (omega arith) (omega (arith, c.in_err-number.ensures, c.in_ok-checked_mul.ensures, c.from.ensures)))

pub returns : goal.returns
returns c =
    sym (some_at_end c.args.digits.now c.loop-digit.digit-index c.loop-digit.number c.loop-digit.invariant.left (omega arith) c.loop-digit.invariant.fits c.if-has_leading_zero.ensures)
