-- The calls that a shop can serve as one batch, and the batch that serves them.
use Rattle.std.specs.Prelude.{◌≡◌, ◌≢◌, ◌<◌, ◌≤◌, ◌+◌, List, [], ◌∷◌, ◌++◌, length, map}
use Rattle.std.specs.List.{AllByRecursion}
use Rattle.limits.specs.declared.TheConstants.{MOST_WORKERS, MOST_LEAVES}
use Rattle.seq_objects.specs.declared.call.Call.{Call}
use Rattle.seq_objects.specs.Pairs.{AreDistinct}
use Rattle.seq_objects.specs.Batches.{AreInBatchOrder}
use Rattle.batch_history.specs.declared.batch.Entry.{Entry}
use Rattle.batch_history.specs.Book.{flat, IsLegalFrom}
use Rattle.batch_history.specs.Serving.{served_book, calls_in}

-- there is a call; the workers are distinct and below `MOST_WORKERS`; the leaves are distinct and none is in the book;
-- book and calls together have at most `MOST_LEAVES` calls
pub record MayServe (book : List (List Entry)) (calls : List Call) : Type 0 where
  pub some : 0 < length calls
  pub workers : AreDistinct (map (λ call. call.worker) calls)
  pub below : AllByRecursion (λ call. call.worker < MOST_WORKERS) calls
  pub leaves : AreDistinct (map (λ call. call.leaf) calls)
  pub new : AllByRecursion (λ leaf. AllByRecursion (λ other. leaf ≢ other) (map (λ entry. entry.leaf) (flat book)))
      (map (λ call. call.leaf) calls)
  pub most : length (flat book) + length calls ≤ MOST_LEAVES

-- the second list is a permutation of the first
abbrev pub ArePermutations : {X : Type 0} → List X → List X → Type 0
ArePermutations {X} [] others = others ≡ []
ArePermutations {X} (x ∷ xs) others =
    (before : List X) × (later : List X) × (others ≡ before ++ x ∷ later) × ArePermutations xs (before ++ later)

-- the batch has exactly these calls, in batch order, with the replies of serving them one after another after the book
pub record IsServiceOf (book : List (List Entry)) (calls : List Call) (batch : List Entry) : Type 0 where
  pub same : ArePermutations calls (calls_in batch)
  pub order : AreInBatchOrder (calls_in batch)
  pub replies : IsLegalFrom (served_book book) batch
