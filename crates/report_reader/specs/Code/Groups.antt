-- Calls with the numbers of their batches and places, and the books that have these calls.
use Rattle.std.specs.Prelude.{◌≡◌, ◌≢◌, ℕ, ◌+◌, List, [], ◌∷◌, ◌++◌, length, ⊤}
use Rattle.std.specs.List.{AllByRecursion}
use Rattle.batch_history.specs.declared.batch.Entry.{Entry}
use Rattle.report_reader.specs.declared.call.Numbered.{Numbered}

-- the calls of a batch, from a place on
abbrev pub numbered_batch : ℕ → ℕ → List Entry → List Numbered
numbered_batch batch place [] = []
numbered_batch batch place (entry ∷ entries) = record { batch = batch; place = place; entry = entry } ∷ numbered_batch batch (place + 1) entries

-- the calls of a book, from a batch on
abbrev pub numbered_book : ℕ → List (List Entry) → List Numbered
numbered_book batch [] = []
numbered_book batch (entries ∷ book) = numbered_batch batch 0 entries ++ numbered_book (batch + 1) book

-- these are the calls of the book, which has no empty batch
pub record AreCallsOf (calls : List Numbered) (from : ℕ) (book : List (List Entry)) : Type 0 where
  pub numbered : numbered_book from book ≡ calls
  pub some : AllByRecursion (λ entries. entries ≢ []) book

-- the first of these calls is not the one at this place of the batch
abbrev pub IsNotNext : ℕ → ℕ → List Numbered → Type 0
IsNotNext batch place [] = ⊤
IsNotNext batch place (call ∷ calls) = call.batch ≡ batch → call.place ≡ place → ⊥

-- the calls begin with all those of a batch, and these are behind them
pub record BeginWith (calls : List Numbered) (batch : ℕ) (entries : List Entry) (rest : List Numbered) : Type 0 where
  pub parts : numbered_batch batch 0 entries ++ rest ≡ calls
  pub ends : IsNotNext batch (length entries) rest
