use Rattle.report_reader.proofs.CallLines.{line_read, no_batch, no_place, no_worker, no_leaf, no_blank, no_op, no_reply}
use Rattle.report_reader.proofs.call.read_line.Goals as goal

pub returns-in_err-batch-clause-none : goal.returns-in_err-batch-clause-none
returns-in_err-batch-clause-none c = rw c.from_residual.ensures (λ line mark rest is. no_batch is c.in_err-batch.ensures.none)

pub returns-in_err-place-clause-none : goal.returns-in_err-place-clause-none
returns-in_err-place-clause-none c = rw c.from_residual-in_err-place.ensures (λ line mark rest is. no_place is c.in_ok-batch.ensures.some c.in_err-place.ensures.none)

pub returns-in_err-worker-clause-none : goal.returns-in_err-worker-clause-none
returns-in_err-worker-clause-none c =
    rw c.from_residual-in_err-worker.ensures (λ line mark rest is. no_worker is c.in_ok-batch.ensures.some c.in_ok-place.ensures.some c.in_err-worker.ensures.none)

pub returns-in_err-leaf-clause-none : goal.returns-in_err-leaf-clause-none
returns-in_err-leaf-clause-none c =
    rw c.from_residual-in_err-leaf.ensures (λ line mark rest is. no_leaf is c.in_ok-batch.ensures.some c.in_ok-place.ensures.some c.in_ok-worker.ensures.some c.in_err-leaf.ensures.none)

pub returns-in_err-rest-clause-none : goal.returns-in_err-rest-clause-none
returns-in_err-rest-clause-none c =
    rw c.from_residual-in_err-rest.ensures (λ line mark rest is.
    no_blank is c.in_ok-batch.ensures.some c.in_ok-place.ensures.some c.in_ok-worker.ensures.some c.in_ok-leaf.ensures.some c.in_err-rest.ensures.none)

pub returns-in_err-spoken-clause-none : goal.returns-in_err-spoken-clause-none
returns-in_err-spoken-clause-none c =
    rw c.from_residual-in_err-spoken.ensures (λ line mark rest is.
    no_op is c.in_ok-batch.ensures.some c.in_ok-place.ensures.some c.in_ok-worker.ensures.some c.in_ok-leaf.ensures.some c.in_ok-rest.ensures.some c.in_err-spoken.ensures.none)

pub returns-in_err-reply-clause-none : goal.returns-in_err-reply-clause-none
returns-in_err-reply-clause-none c =
    rw c.from_residual-in_err-reply.ensures (λ line mark rest is.
    no_reply is c.in_ok-batch.ensures.some c.in_ok-place.ensures.some c.in_ok-worker.ensures.some c.in_ok-leaf.ensures.some c.in_ok-rest.ensures.some c.in_ok-spoken.ensures.some c.in_err-reply.ensures.none)

pub returns-clause-some : goal.returns-clause-some
returns-clause-some c =
    line_read c.in_ok-batch.ensures.some c.in_ok-place.ensures.some c.in_ok-worker.ensures.some c.in_ok-leaf.ensures.some c.in_ok-rest.ensures.some c.in_ok-spoken.ensures.some c.in_ok-reply.ensures.some
