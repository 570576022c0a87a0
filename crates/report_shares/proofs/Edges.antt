-- The columns of ticks.
use Rattle.std.proofs.Common.{ℕ, ◌≡◌, ◌+◌, ◌*◌, ◌≤◌, ◌<◌, ◌^◌, suc, refl, arith, suc-mul}
use Rattle.report_shares.specs.Shares.{width_of, edge}
use Rattle.report_shares.specs.Meaning.{TakeEachTick}

next : (column width : ℕ) → (column + 1) * width ≡ column * width + width
next column width = let e : column + 1 ≡ suc column = omega arith in rw (e, suc-mul) refl

-- the next column begins at most a width later
pub next_edge : (leaves column : ℕ) → edge leaves (column + 1) ≤ edge leaves column + width_of leaves
next_edge leaves column = omega (arith, next column (width_of leaves))

-- for fewer than 2^32 leaves that is little
pub narrow : (leaves column : ℕ) → leaves < 2 ^ 32 → edge leaves (column + 1) ≤ edge leaves column + 2 ^ 31
narrow leaves column few = omega (arith, few, next_edge leaves column)

rising : (leaves column : ℕ) → edge leaves column ≤ edge leaves (column + 1)
rising leaves column = omega (arith, next column (width_of leaves))

pub take_each_tick : (leaves : ℕ) → TakeEachTick leaves
take_each_tick leaves = record { first = omega arith; rising = rising leaves; last = omega arith }
