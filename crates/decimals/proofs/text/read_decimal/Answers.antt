use Rattle.std.proofs.Common.{◌-◌, ◌^◌, ◌∙◌, arith}
use Rattle.std.specs.Char.{is_ascii_digit}
use Rattle.decimals.proofs.Runs.{run_within}
use Rattle.decimals.proofs.Decimals.{one_way, run_written, run_read}
use Rattle.decimals.proofs.text.read_decimal.Goals as goal

pub split_at-requires : goal.split_at-requires
split_at-requires c = run_within is_ascii_digit c.digit_run.result c.args.text.now c.digit_run.ensures

pub returns-in_err-number-clause-none : goal.returns-in_err-number-clause-none
returns-in_err-number-clause-none c =
    rw c.from_residual.ensures (λ number rest is.
    let is' = run_written c.args.most c.digit_run.result c.args.text.now number rest (omega arith) c.digit_run.ensures is in
    c.in_err-number.ensures.none number (omega (arith, is.within)) (c.split_at.ensures.front ∙ is'))

pub returns-then-number-most-clause-none : goal.returns-then-number-most-clause-none
returns-then-number-most-clause-none c number rest is =
    let read = run_read (2 ^ 64 - 1) c.digit_run.result c.args.text.now c.split_at.result.0.now c.split_at.result.1.now c.in_ok-number.number c.digit_run.ensures c.split_at.ensures.front c.split_at.ensures.back c.in_ok-number.ensures.some (omega arith) in
    let same = one_way (2 ^ 64 - 1) c.args.text.now c.in_ok-number.number number c.split_at.result.1.now rest (omega arith) read (record { written = is.written; ends = is.ends; within = omega (arith, is.within) }) in
    omega (arith, same.0, is.within, c.if-number-most.true)

pub returns-clause-some : goal.returns-clause-some
returns-clause-some c = run_read c.args.most c.digit_run.result c.args.text.now c.split_at.result.0.now c.split_at.result.1.now c.in_ok-number.number c.digit_run.ensures c.split_at.ensures.front c.split_at.ensures.back c.in_ok-number.ensures.some (omega arith)
