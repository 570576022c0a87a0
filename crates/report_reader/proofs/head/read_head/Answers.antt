use Rattle.std.proofs.Common.{arith}
use Rattle.report_reader.proofs.Heads.{head_read, no_workers, some_workers, no_leaves, no_calls, no_batches, no_head_end}
use Rattle.report_reader.proofs.head.read_head.Goals as goal

pub returns-in_err-workers-clause-none : goal.returns-in_err-workers-clause-none
returns-in_err-workers-clause-none c = rw c.from_residual.ensures (λ head rest is. no_workers (omega arith) is c.in_err-workers.ensures.none)

pub returns-then-workers-eq0-clause-none : goal.returns-then-workers-eq0-clause-none
returns-then-workers-eq0-clause-none c = λ head rest is. some_workers (omega arith) is c.in_ok-workers.ensures.some c.if-workers-eq0.true

pub returns-in_err-leaves-clause-none : goal.returns-in_err-leaves-clause-none
returns-in_err-leaves-clause-none c = rw c.from_residual-in_err-leaves.ensures (λ head rest is. no_leaves (omega arith) is c.in_ok-workers.ensures.some c.in_err-leaves.ensures.none)

pub returns-in_err-calls-clause-none : goal.returns-in_err-calls-clause-none
returns-in_err-calls-clause-none c = rw c.from_residual-in_err-calls.ensures (λ head rest is. no_calls (omega arith) is c.in_ok-workers.ensures.some c.in_ok-leaves.ensures.some c.in_err-calls.ensures.none)

pub returns-in_err-batches-clause-none : goal.returns-in_err-batches-clause-none
returns-in_err-batches-clause-none c =
    rw c.from_residual-in_err-batches.ensures (λ head rest is. no_batches (omega arith) is c.in_ok-workers.ensures.some c.in_ok-leaves.ensures.some c.in_ok-calls.ensures.some c.in_err-batches.ensures.none)

pub returns-in_err-rest-clause-none : goal.returns-in_err-rest-clause-none
returns-in_err-rest-clause-none c =
    rw c.from_residual-in_err-rest.ensures (λ head rest is.
    no_head_end (omega arith) is c.in_ok-workers.ensures.some c.in_ok-leaves.ensures.some c.in_ok-calls.ensures.some c.in_ok-batches.ensures.some c.in_err-rest.ensures.none)

pub returns-clause-some : goal.returns-clause-some
returns-clause-some c =
    head_read c.in_ok-workers.ensures.some (omega (arith, c.if-workers-eq0.false)) c.in_ok-leaves.ensures.some c.in_ok-calls.ensures.some c.in_ok-batches.ensures.some c.in_ok-rest.ensures.some
