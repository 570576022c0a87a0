use Rattle.std.proofs.Common.{◌≡◌, true}
use Rattle.decimals.proofs.Numbers.{plain_decimal, some_number, no_number, utf8_decimal}
use Rattle.decimals.proofs.word.decimal_in.Goals as goal

pub returns-then-not-begins_plain-clause-none : goal.returns-then-not-begins_plain-clause-none
returns-then-not-begins_plain-clause-none c = plain_decimal c.args.word.now (λ plain. let is : c.begins_plain.result ≡ true = c.begins_plain.ensures.1 plain in cc)

pub returns-in-Ok-clause-some : goal.returns-in-Ok-clause-some
returns-in-Ok-clause-some c =
    some_number c.args.word.now c.parse.result c.ok.result (c.begins_plain.ensures.0 c.if-not-begins_plain.false) (rw c.in-Ok.ensures.cases.0 at c.parse.ensures.value.0) c.ok.ensures.value

pub returns-in-Ok-clause-none : goal.returns-in-Ok-clause-none
returns-in-Ok-clause-none c =
    no_number c.args.word.now c.parse.result c.ok.result (rw c.in-Ok.ensures.cases.0 at c.parse.ensures.value.0) c.ok.ensures.value

pub returns-in-Err-clause-none : goal.returns-in-Err-clause-none
returns-in-Err-clause-none c = utf8_decimal c.args.word.now c.in-Err.ensures.cases.0
