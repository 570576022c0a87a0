-- Selections of the calls of a batch, in their order.
use Rattle.std.proofs.Common.{◌≡◌, ◌≢◌, ℕ, ◌<◌, Bool, true, false, cond, List, [], ◌∷◌, length, filter, map, refl}
use Rattle.std.specs.List.{AllByRecursion}
use Rattle.seq_objects.specs.declared.call.Call.{Call}
use Rattle.seq_objects.specs.BatchOrder.{ComesFirst}
use Rattle.seq_objects.specs.Batches.{Kind, AreOneBatch, AreOf, kind_of, same_kind, calls_of}
use Rattle.seq_objects.specs.Pairs.{AllPairsByRecursion}
use Rattle.key_sets.proofs.Filters.{all_filter}
-- `same_kind` decides equality of kinds
pub use Rattle.seq_objects.proofs.Verbs.{same_is}

pairs_filter : {A : Type 0} (R : A → A → Type 0) (passes : A → Bool) (xs : List A) → AllPairsByRecursion R xs → AllPairsByRecursion R (filter passes xs)
pairs_filter R passes [] pairs = tt
pairs_filter R passes (x ∷ xs) pairs = step (passes x) (pairs_filter R passes xs pairs.1) where
  step : (b : Bool) → AllPairsByRecursion R (filter passes xs) → AllPairsByRecursion R (cond b (x ∷ filter passes xs) (filter passes xs))
  step true rest = (all_filter (R x) passes xs pairs.0, rest)
  step false rest = rest

-- the same for the images of the elements under a function
each_map_filter : {A B : Type 0} (f : A → B) (P : B → Type 0) (passes : A → Bool) (xs : List A) → AllByRecursion P (map f xs) → AllByRecursion P (map f (filter passes xs))
each_map_filter f P passes [] each = tt
each_map_filter f P passes (x ∷ xs) each = step (passes x) (each_map_filter f P passes xs each.1) where
  step : (b : Bool) → AllByRecursion P (map f (filter passes xs)) → AllByRecursion P (map f (cond b (x ∷ filter passes xs) (filter passes xs)))
  step true rest = (each.0, rest)
  step false rest = rest

pairs_map_filter : {A B : Type 0} (f : A → B) (R : B → B → Type 0) (passes : A → Bool) (xs : List A) → AllPairsByRecursion R (map f xs) → AllPairsByRecursion R (map f (filter passes xs))
pairs_map_filter f R passes [] pairs = tt
pairs_map_filter f R passes (x ∷ xs) pairs = step (passes x) (pairs_map_filter f R passes xs pairs.1) where
  step : (b : Bool) → AllPairsByRecursion R (map f (filter passes xs)) → AllPairsByRecursion R (map f (cond b (x ∷ filter passes xs) (filter passes xs)))
  step true rest = (each_map_filter f (R (f x)) passes xs pairs.0, rest)
  step false rest = rest

pub some_are_a_batch : (passes : Call → Bool) (calls : List Call) → AreOneBatch calls → 0 < length (filter passes calls) → AreOneBatch (filter passes calls)
some_are_a_batch passes calls batch some = record {
  some = some;
  order = pairs_filter (λ (first : Call) (second : Call). ComesFirst first.op first.worker second.op second.worker) passes calls batch.order;
  workers = pairs_map_filter (λ (call : Call). call.worker) (λ (m n : ℕ). m ≢ n) passes calls batch.workers;
  below = all_filter (λ (call : Call). call.worker < 32) passes calls batch.below;
}

-- the calls of one kind are of this kind
pub are_of : (kind : Kind) (calls : List Call) → AreOf kind (calls_of kind calls)
are_of kind [] = tt
are_of kind (call ∷ calls) = step (same_kind kind (kind_of call.op)) refl (are_of kind calls) where
  step : (b : Bool) → same_kind kind (kind_of call.op) ≡ b → AreOf kind (calls_of kind calls) → AreOf kind (cond b (call ∷ calls_of kind calls) (calls_of kind calls))
  step true is rest = (same_is kind (kind_of call.op) is, rest)
  step false is rest = rest
