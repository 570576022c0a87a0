-- Lines by replies are the lines of calls that are served one after another.
use Rattle.std.proofs.Common.{◌≡◌, ℕ, ◌+◌, List, [], ◌∷◌, ◌++◌, length, refl, ap, arith}
use Rattle.bulk_calls.specs.Views.{CallView}
use Rattle.bulk_calls.specs.Bulk.{bulk_serve, bulk_replies, operations}
use Rattle.bulkrun.specs.Text.{call_line, served_lines}
use Rattle.bulkrun.specs.Code.{call_lines}

pub lines_served : (batch place : ℕ) (set : List ℕ) (calls : List CallView)
    → call_lines batch place calls (bulk_replies set (operations calls)) ≡ served_lines batch place set calls
lines_served batch place set [] = refl
lines_served batch place set (call ∷ calls) =
    ap (λ lines. call_line batch place call (bulk_serve set call.what).1 ++ lines) (lines_served batch (place + 1) (bulk_serve set call.what).0 calls)

pub replies_counted : (set : List ℕ) (calls : List CallView) → length (bulk_replies set (operations calls)) ≡ length calls
replies_counted set [] = refl
replies_counted set (call ∷ calls) = omega (arith, replies_counted (bulk_serve set call.what).0 calls)
