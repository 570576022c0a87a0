-- When a look at a worker, a publish and a release are due: which batch serves the calls that a hold has taken.
use Rattle.std.specs.Prelude.{ℕ, ◌≡◌, ◌<◌, true, false, Some, List, map, Contains}
use Rattle.std.specs.List.{AllByRecursion}
use Rattle.seq_objects.specs.Stores.{opening_store}
use Rattle.batch_history.specs.declared.batch.Entry.{Entry}
use Rattle.batch_history.specs.Book.{flat, IsBatch, IsLegalFrom}
use Rattle.batch_history.specs.Serving.{served}
use Rattle.table_rule.specs.declared.slot.OpRecord.{OpRecord}
use Rattle.table_rule.specs.declared.view.HoldView.{HoldView}
use Rattle.table_rule.specs.Shows.{took_in, record_in, among}

-- the call that an entry records: its leaf and operation
abbrev pub call_of : Entry → OpRecord
call_of entry = record { leaf = entry.leaf; op = entry.op }

-- A batch that serves a hold: not empty, in batch order, of distinct workers. Each entry is a taken call of its worker,
-- every taken worker has an entry, and the replies are those of the serial objects in the state after the book.
pub record ServesTaken (h : HoldView) (batch : List Entry) : Type 0 where
  pub is_batch : IsBatch batch
  pub only : AllByRecursion (λ entry. record_in h.taken entry.worker ≡ Some (call_of entry)) batch
  pub each : (w : ℕ) → took_in h.taken w ≡ true → Contains (map (λ entry. entry.worker) batch) w
  pub replies : IsLegalFrom (served opening_store (flat h.book)) batch

-- A look at worker u is due: the hold has looked at all workers before it, and there is such a worker.
abbrev pub IsLookDue : ℕ → ℕ → HoldView → Type 0
IsLookDue workers u h = (u ≡ h.looks) × (u < workers)

-- A publish of this batch is due: the hold has looked at all workers, has taken at least one call, has not published,
-- and the batch serves exactly the calls that it took.
pub record IsPublishDue (workers : ℕ) (h : HoldView) (batch : List Entry) : Type 0 where
  pub looked : h.looks ≡ workers
  pub some : (u : ℕ) × (took_in h.taken u ≡ true)
  pub early : h.published ≡ false
  pub serves : ServesTaken h batch

-- A release is due: the hold has looked at all workers and has answered every worker that it took.
pub record IsReleaseDue (workers : ℕ) (h : HoldView) : Type 0 where
  pub looked : h.looks ≡ workers
  pub answered : (u : ℕ) → took_in h.taken u ≡ true → among h.answered u ≡ true
