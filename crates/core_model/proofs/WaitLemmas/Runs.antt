-- A worker that stays trapped waits for two batches at most.
use Rattle.std.proofs.Common.{ℕ, ◌≡◌, ◌≤◌, ◌+◌, length}
use Rattle.core_model.proofs.Words.{IsPlan, Served, Receipt, CoreJob, State}
use Rattle.core_model.proofs.Inductive.Parts.{InductiveParts}
use Rattle.core_model.specs.Waits.{task_place, WaitsSince, StaysTrapped, at_once, by_event}
use Rattle.core_model.proofs.InvariantLemmas.EachEvent.{event_keeps}
use Rattle.core_model.proofs.Inductive.PartsHold.{parts_stand}
use Rattle.core_model.proofs.WaitLemmas.Places.{receipt_of, receipt_by}
use Rattle.core_model.proofs.WaitLemmas.Keeps.{waits_from_now, waits_kept}

-- the inductive invariant is preserved
pub along_kept : (job : CoreJob) (w : ℕ) (first last : State) → IsPlan job.plan → InductiveParts job first → StaysTrapped job w first last → InductiveParts job last
along_kept job w first last laws h (at_once trapped) = h
along_kept job w first last laws h (by_event {old = old} {new = new} {worker = worker} {event = event} before happens trapped) =
    event_keeps job old new worker event laws (along_kept job w first old laws h before) happens

-- so does what is said of the worker
pub along_waits : (job : CoreJob) (w : ℕ) (first last : State) → IsPlan job.plan → InductiveParts job first → StaysTrapped job w first last → WaitsSince job last w (length first.book)
along_waits job w first last laws h (at_once trapped) = waits_from_now job first w (parts_stand job first h) trapped
along_waits job w first last laws h (by_event {old = old} {new = new} {worker = worker} {event = event} before happens trapped) =
    waits_kept job old new worker event w (length first.book) laws (along_kept job w first old laws h before) happens trapped
    (along_waits job w first old laws h before)

-- and the receipt has the batch of the entry
pub two_at_most : (job : CoreJob) (w : ℕ) (first last : State) (r : Receipt) → IsPlan job.plan → InductiveParts job first → StaysTrapped job w first last → last.status w ≡ Served r
    → r.batch ≤ length first.book + 1
two_at_most job w first last r laws h stays served =
    receipt_by (task_place job last.book (last.task w)) (length first.book + 1) r
    (receipt_of job last.book (last.task w) r ((parts_stand job last (along_kept job w first last laws h stays)).statuses.served_receipt w r served))
    (rw served at (along_waits job w first last laws h stays))
