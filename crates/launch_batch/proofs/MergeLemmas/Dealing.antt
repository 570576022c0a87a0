-- The calls of one kind among those of a batch.
use Rattle.std.proofs.Common.{◌≡◌, ◌+◌, ◌<◌, ◌≤◌, Bool, true, false, cond, List, [], ◌∷◌, length, filter, refl, ap, arith}
use Rattle.launch_batch.proofs.Words.{Call, Kind, Counter, Stack, Tree, Queue, kind_of, same_kind, calls_of}

-- those that pass are at most as many as all together
pub few_pass : (passes : Call → Bool) (calls : List Call) → length (filter passes calls) ≤ length calls
few_pass passes [] = omega arith
few_pass passes (call ∷ calls) = step (passes call) (few_pass passes calls) where
  step : (b : Bool) → length (filter passes calls) ≤ length calls → length (cond b (call ∷ filter passes calls) (filter passes calls)) ≤ length (call ∷ calls)
  step true rest = omega (arith, rest)
  step false rest = omega (arith, rest)

-- where as many pass as there are, all pass
pub all_pass : (passes : Call → Bool) (calls : List Call) → length calls ≡ length (filter passes calls) → calls ≡ filter passes calls
all_pass passes [] long = refl
all_pass passes (call ∷ calls) long = step (passes call) (few_pass passes calls) (all_pass passes calls) long where
  step : (b : Bool) → length (filter passes calls) ≤ length calls → (length calls ≡ length (filter passes calls) → calls ≡ filter passes calls)
      → length (call ∷ calls) ≡ length (cond b (call ∷ filter passes calls) (filter passes calls)) → call ∷ calls ≡ cond b (call ∷ filter passes calls) (filter passes calls)
  step true few rest long = ap (λ others. call ∷ others) (rest (omega (arith, long)))
  step false few rest long = absurd (omega (arith, few, long))

-- each call belongs to one of the four kinds
all_by_kind : (calls : List Call) → length calls ≡ length (calls_of Counter calls) + length (calls_of Stack calls) + length (calls_of Tree calls) + length (calls_of Queue calls)
all_by_kind [] = refl
all_by_kind (call ∷ calls) = step (kind_of call.op) (all_by_kind calls) where
  step : (k : Kind) → length calls ≡ length (calls_of Counter calls) + length (calls_of Stack calls) + length (calls_of Tree calls) + length (calls_of Queue calls)
      → length (call ∷ calls) ≡ length (cond (same_kind Counter k) (call ∷ calls_of Counter calls) (calls_of Counter calls)) + length (cond (same_kind Stack k) (call ∷ calls_of Stack calls) (calls_of Stack calls))
      + length (cond (same_kind Tree k) (call ∷ calls_of Tree calls) (calls_of Tree calls)) + length (cond (same_kind Queue k) (call ∷ calls_of Queue calls) (calls_of Queue calls))
  step Counter rest = omega (arith, rest)
  step _ rest = omega (arith, rest)

-- where there is a call, some kind has one
pub some_by_kind : (calls : List Call) → 0 < length calls
    → 0 < length (calls_of Counter calls) + length (calls_of Stack calls) + length (calls_of Tree calls) + length (calls_of Queue calls)
some_by_kind calls some = let all = all_by_kind calls in omega (arith, some, all)
