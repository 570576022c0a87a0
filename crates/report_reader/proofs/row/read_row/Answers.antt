use Rattle.report_reader.proofs.Rows.{row_read, no_leaf, no_worker, no_start, no_end, no_value, no_row_end}
use Rattle.report_reader.proofs.row.read_row.Goals as goal

pub returns-in_err-leaf-clause-none : goal.returns-in_err-leaf-clause-none
returns-in_err-leaf-clause-none c = rw c.from_residual.ensures (λ row rest is. no_leaf is c.in_err-leaf.ensures.none)

pub returns-in_err-worker-clause-none : goal.returns-in_err-worker-clause-none
returns-in_err-worker-clause-none c = rw c.from_residual-in_err-worker.ensures (λ row rest is. no_worker is c.in_ok-leaf.ensures.some c.in_err-worker.ensures.none)

pub returns-in_err-start-clause-none : goal.returns-in_err-start-clause-none
returns-in_err-start-clause-none c =
    rw c.from_residual-in_err-start.ensures (λ row rest is. no_start is c.in_ok-leaf.ensures.some c.in_ok-worker.ensures.some c.in_err-start.ensures.none)

pub returns-in_err-end-clause-none : goal.returns-in_err-end-clause-none
returns-in_err-end-clause-none c =
    rw c.from_residual-in_err-end.ensures (λ row rest is. no_end is c.in_ok-leaf.ensures.some c.in_ok-worker.ensures.some c.in_ok-start.ensures.some c.in_err-end.ensures.none)

pub returns-in_err-value-clause-none : goal.returns-in_err-value-clause-none
returns-in_err-value-clause-none c =
    rw c.from_residual-in_err-value.ensures (λ row rest is.
    no_value is c.in_ok-leaf.ensures.some c.in_ok-worker.ensures.some c.in_ok-start.ensures.some c.in_ok-end.ensures.some c.in_err-value.ensures.none)

pub returns-in_err-rest-clause-none : goal.returns-in_err-rest-clause-none
returns-in_err-rest-clause-none c =
    rw c.from_residual-in_err-rest.ensures (λ row rest is.
    no_row_end is c.in_ok-leaf.ensures.some c.in_ok-worker.ensures.some c.in_ok-start.ensures.some c.in_ok-end.ensures.some c.in_ok-value.ensures.some c.in_err-rest.ensures.none)

pub returns-clause-some : goal.returns-clause-some
returns-clause-some c =
    row_read c.in_ok-leaf.ensures.some c.in_ok-worker.ensures.some c.in_ok-start.ensures.some c.in_ok-end.ensures.some c.in_ok-value.ensures.some c.in_ok-rest.ensures.some
