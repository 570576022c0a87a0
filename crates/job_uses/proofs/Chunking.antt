-- How many chunks so many items have.
use Rattle.std.proofs.Common.{ℕ, ◌+◌, ◌*◌, ◌<◌, ◌≤◌, inl, inr, arith}
use Rattle.std.specs.Int.{div_ceil}
use Rattle.std.proofs.Math.Nat.{mul-le-mul_right}
use Rattle.std.proofs.lemmas.Bool.{cases_lt}
use Rattle.std.proofs.lemmas.Grind.{div_ceil_times}

module _ (items width : ℕ) (some : 0 < width) where
  enough : items ≤ div_ceil items width * width
  enough = (div_ceil_times items width some).0

  few : div_ceil items width * width < items + width
  few = (div_ceil_times items width some).1

  -- where some items are behind these chunks
  pub more_behind : (chunks : ℕ) → chunks * width < items → chunks < div_ceil items width
  more_behind chunks some_left = elim (cases_lt chunks (div_ceil items width)) [
    | inl less ↦ less
    | inr most ↦ let all = mul-le-mul_right width most in absurd (omega (arith, all, enough, some_left))
  ]

  -- where the last of these chunks has items
  pub no_more : (chunks : ℕ) → chunks * width < items + width → chunks ≤ div_ceil items width
  no_more chunks last = elim (cases_lt (div_ceil items width) chunks) [
    | inl less ↦ let all = mul-le-mul_right width less in absurd (omega (arith, all, enough, last))
    | inr most ↦ most
  ]

  -- where these chunks have all items
  pub all_in : (chunks : ℕ) → items ≤ chunks * width → div_ceil items width ≤ chunks
  all_in chunks whole = elim (cases_lt chunks (div_ceil items width)) [
    | inl less ↦ let all = mul-le-mul_right width less in absurd (omega (arith, all, few, whole))
    | inr most ↦ most
  ]
