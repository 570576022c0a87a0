use Rattle.std.proofs.Common.{arith}
use Rattle.report_reader.proofs.Operations.{op_read, no_kind, no_mark, no_verb, no_argument, no_arrow, argument_bound}
use Rattle.report_reader.proofs.operation.read_op.Goals as goal

pub returns-in_err-kind-clause-none : goal.returns-in_err-kind-clause-none
returns-in_err-kind-clause-none c = rw c.from_residual.ensures (λ spoken mark rest is. no_kind is c.in_err-kind.ensures.none)

pub returns-in_err-mark-clause-none : goal.returns-in_err-mark-clause-none
returns-in_err-mark-clause-none c = rw c.from_residual-in_err-mark.ensures (λ spoken mark rest is. no_mark is c.in_ok-kind.kind c.in_ok-kind.ensures.some c.in_err-mark.ensures.none)

pub returns-in_err-verb-clause-none : goal.returns-in_err-verb-clause-none
returns-in_err-verb-clause-none c =
    rw c.from_residual-in_err-verb.ensures (λ spoken mark rest is. no_verb is c.in_ok-kind.kind c.in_ok-kind.ensures.some c.in_ok-mark.ensures.some c.in_err-verb.ensures.none)

pub returns-in_err-argument-clause-none : goal.returns-in_err-argument-clause-none
returns-in_err-argument-clause-none c =
    rw c.from_residual-in_err-argument.ensures (λ spoken mark rest is. no_argument is c.in_ok-kind.kind c.in_ok-kind.ensures.some c.in_ok-mark.ensures.some c.in_ok-verb.ensures.some c.in_err-argument.ensures.none)

pub returns-in_err-rest-clause-none : goal.returns-in_err-rest-clause-none
returns-in_err-rest-clause-none c =
    rw c.from_residual-in_err-rest.ensures (λ spoken mark rest is.
    no_arrow is c.in_ok-kind.kind c.in_ok-kind.ensures.some c.in_ok-mark.ensures.some c.in_ok-verb.ensures.some c.in_ok-argument.argument c.in_ok-argument.ensures.some c.in_err-rest.ensures.none)

pub returns-clause-some : goal.returns-clause-some
returns-clause-some c = op_read c.in_ok-kind.ensures.some c.in_ok-mark.ensures.some c.in_ok-verb.ensures.some c.in_ok-argument.ensures.some c.in_ok-rest.ensures.some

pub overflow_cast-spoken : goal.overflow_cast-spoken
overflow_cast-spoken c = omega (arith, argument_bound c.in_ok-verb.verb c.in_ok-verb.rest.now c.in_ok-argument.argument c.in_ok-argument.rest.now c.in_ok-argument.ensures.some)
