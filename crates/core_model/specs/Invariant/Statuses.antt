-- The invariant of the workers' statuses, calls and receipts.
use Rattle.core_model.specs.Words.{Entry, Got, NotCalled, Out, Receipt, Executing, Free, Served, Task, Ended, Half, Handed, Idle, Kept, Run, Started, Whole}
use Rattle.core_model.specs.Operations.{IsCall, IsReceipt, leaf_of, place_of}
use Rattle.core_model.specs.State.{CoreJob, Hold, State}
use Rattle.std.specs.Prelude.{Bool, List, None, Option, Some, false, not, true, ℕ, ◌&&◌, ◌↔◌, ◌≡◌, ◌≢◌}

-- the task is a started leaf that calls
abbrev pub IsAtCall : CoreJob → Task → Type 0
IsAtCall job Idle = ⊥
IsAtCall job (Run n) = ⊥
IsAtCall job (Half n) = ⊥
IsAtCall job (Started n s) = IsCall job (leaf_of (job.plan.kind n))
IsAtCall job (Kept n s) = ⊥
IsAtCall job (Ended n s e) = ⊥
IsAtCall job (Whole n) = ⊥
IsAtCall job (Handed n) = ⊥

-- the task is started, and the receipt is that of its leaf's entry
abbrev pub HasReceipt : CoreJob → List (List Entry) → Task → Receipt → Type 0
HasReceipt job book Idle receipt = ⊥
HasReceipt job book (Run n) receipt = ⊥
HasReceipt job book (Half n) receipt = ⊥
HasReceipt job book (Started n s) receipt = IsReceipt (place_of book (leaf_of (job.plan.kind n))) receipt
HasReceipt job book (Kept n s) receipt = ⊥
HasReceipt job book (Ended n s e) receipt = ⊥
HasReceipt job book (Whole n) receipt = ⊥
HasReceipt job book (Handed n) receipt = ⊥

-- the hold has taken the worker's call and not answered it
abbrev pub is_taken_by : Option Hold → ℕ → Bool
is_taken_by None w = false
is_taken_by (Some h) w = h.taken w && not (h.answered w)

-- The statuses of the workers.
pub record StatusesInvariant (job : CoreJob) (s : State) : Type 0 where
  -- a worker's call is out exactly while it is trapped
  pub out : (w : ℕ) → (s.call w ≡ Out) ↔ (s.status w ≢ Free)
  -- a worker whose call is out or got has started a calling leaf
  pub at_call : (w : ℕ) → s.call w ≢ NotCalled → IsAtCall job (s.task w)
  -- a worker is executing exactly while its call is taken and not answered
  pub executing : (w : ℕ) → (s.status w ≡ Executing) ↔ (is_taken_by s.hold w ≡ true)
  -- a served or got receipt is that of the leaf's entry in the book: batch, place and reply
  pub served_receipt : (w : ℕ) (receipt : Receipt) → s.status w ≡ Served receipt → HasReceipt job s.book (s.task w) receipt
  pub got_receipt : (w : ℕ) (receipt : Receipt) → s.call w ≡ Got receipt → HasReceipt job s.book (s.task w) receipt
