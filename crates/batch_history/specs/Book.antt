-- A book is a list of batches, and a batch is a list of entries. Batches, and places in a batch, are numbered from 0.
use Rattle.std.specs.Prelude.{◌≡◌, ◌≢◌, ◌<◌, ◌^◌, List, [], ◌∷◌, ◌++◌, map}
use Rattle.std.specs.List.{AllByRecursion}
use Rattle.limits.specs.declared.TheConstants.{MOST_WORKERS}
use Rattle.seq_objects.specs.Stores.{Store, opening_store, store_after, store_reply}
use Rattle.seq_objects.specs.BatchOrder.{ComesFirst}
use Rattle.seq_objects.specs.Pairs.{AllPairsByRecursion, AreDistinct}
use Rattle.batch_history.specs.declared.batch.Entry.{Entry}

-- the entries of a book, one batch after another
abbrev pub flat : List (List Entry) → List Entry
flat [] = []
flat (batch ∷ book) = batch ++ flat book

-- each reply is the serial one: that of serving the operations one after another, from these objects on
abbrev pub IsLegalFrom : Store → List Entry → Type 0
IsLegalFrom store [] = Unit {0}
IsLegalFrom store (entry ∷ entries) = (entry.reply ≡ store_reply store entry.op) × IsLegalFrom (store_after store entry.op) entries

-- the book is legal from the opening objects on
abbrev pub IsLegal : List (List Entry) → Type 0
IsLegal book = IsLegalFrom opening_store (flat book)

-- a batch is not empty, in batch order, and of distinct workers
pub record IsBatch (batch : List Entry) : Type 0 where
  pub some : batch ≢ []
  pub order : AllPairsByRecursion (λ first second. ComesFirst first.op first.worker second.op second.worker) batch
  pub workers : AreDistinct (map (λ entry. entry.worker) batch)

-- the invariant of a `History`: legal batches, workers below `MOST_WORKERS`, distinct leaves, and leaves below 2^32
pub record IsHistory (book : List (List Entry)) : Type 0 where
  pub legal : IsLegal book
  pub batches : AllByRecursion IsBatch book
  pub workers : AllByRecursion (λ entry. entry.worker < MOST_WORKERS) (flat book)
  pub leaves : AreDistinct (map (λ entry. entry.leaf) (flat book))
  pub numbers : AllByRecursion (λ leaf. leaf < 2 ^ 32) (map (λ entry. entry.leaf) (flat book))
