-- One batch has at most 32 calls.
use Rattle.std.proofs.Common.{◌≡◌, ◌≢◌, ◌<◌, ◌≤◌, ℕ, false, List, [], ◌∷◌, length, map, eqb-true, arith}
use Rattle.std.specs.List.{AllByRecursion, IsDistinct}
use Rattle.std.proofs.Math.Dec.{eqb}
use Rattle.std.proofs.lemmas.Bool.Decides.{nat_tests}
use Rattle.std.proofs.lemmas.List.{length-map}
use Rattle.std.proofs.lemmas.Map.Steps.{length-le_from_distinct_below}
use Rattle.std.proofs.lemmas.Map.Views.{Contains-from_any}
use Rattle.seq_objects.specs.declared.call.Call.{Call}
use Rattle.seq_objects.specs.Pairs.{AreDistinct}
use Rattle.seq_objects.specs.Batches.{AreOneBatch}
use Rattle.seq_objects.proofs.Elements.{each_so, each_mapped, each_at}

-- distinct numbers are distinct by their test
distinct_tests : (xs : List ℕ) → AreDistinct xs → IsDistinct eqb xs
unfolding IsDistinct
distinct_tests [] distinct = tt
distinct_tests (x ∷ xs) distinct =
    (each_so (λ y. x ≢ y) (λ y. eqb x y ≡ false) (λ y apart. grind (arith, nat_tests)) xs distinct.0, distinct_tests xs distinct.1)

-- the workers of one batch are distinct and below 32
pub few_calls : (calls : List Call) → AreOneBatch calls → length calls ≤ 32
few_calls calls batch =
    let workers = map (λ (call : Call). call.worker) calls in
    let below : AllByRecursion (λ w. w < 32) workers = each_mapped (λ (call : Call). call.worker) (λ (call : Call). call.worker < 32) (λ w. w < 32) (λ call low. low) calls batch.below in
    let few = length-le_from_distinct_below workers 32 (distinct_tests workers batch.workers) (λ q found. each_at (λ w. w < 32) workers q below (Contains-from_any eqb-true q workers found)) in
    omega (arith, few, length-map calls (λ (call : Call). call.worker))
