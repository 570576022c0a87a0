use Rattle.std.proofs.Common.{◌+◌, ◌*◌, ◌≤◌, length, arith}
use Rattle.std.proofs.Math.Nat.{mul-le-mul_right}
use Rattle.std.proofs.lemmas.Result.{err_from_is_err_and}
use Rattle.job_uses.proofs.Refusals.{larger}
use Rattle.job_uses.proofs.grids.grid_job.Goals as goal

pub returns-in_err-row-clause-cause : goal.returns-in_err-row-clause-cause
returns-in_err-row-clause-cause c =
    let p = err_from_is_err_and c.from_residual-in_err-row.result c.from_residual-in_err-row.ensures.1 in
    let more = c.loop.invariant.more in
    let rows : (c.loop.counter + 1) * c.args.columns ≤ c.args.rows * c.args.columns = mul-le-mul_right c.args.columns (omega arith) in
    rw (p.1, p.2) (larger (length c.loop.job.acts + c.args.columns) (c.args.rows * c.args.columns) _ (omega (arith, rows, more)) c.in_err-row.ensures.cause)
