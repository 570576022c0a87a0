use Rattle.std.proofs.Common.{sym}
use Rattle.report_reader.proofs.Operations.{no_blank, no_verb_word, no_verb_by, verb_read}
use Rattle.report_reader.proofs.operation.read_verb.Goals as goal

pub returns-in_err-rest-clause-none : goal.returns-in_err-rest-clause-none
returns-in_err-rest-clause-none c = rw c.from_residual.ensures (λ verb rest is. no_blank is c.in_err-rest.ensures.none)

pub returns-in_err-word-clause-none : goal.returns-in_err-word-clause-none
returns-in_err-word-clause-none c = rw c.from_residual-in_err-word.ensures (λ verb rest is. no_verb_word is c.in_ok-rest.ensures.some c.in_err-word.ensures.none)

pub returns-in_err-verb-clause-none : goal.returns-in_err-verb-clause-none
returns-in_err-verb-clause-none c =
    rw c.from_residual-in_err-verb.ensures (λ verb rest is. no_verb_by is c.in_ok-rest.ensures.some c.in_ok-word.word c.in_ok-word.ensures.some (sym c.in_err-verb.ensures))

pub returns-clause-some : goal.returns-clause-some
returns-clause-some c = verb_read c.in_ok-word.word c.in_ok-rest.ensures.some c.in_ok-word.ensures.some (sym c.in_ok-verb.ensures)
