-- A call that is pending comes into none of the batches that stand.
use Rattle.std.proofs.Common.{ℕ, ◌≡◌, ◌≢◌, ◌≤◌, ◌+◌, ◌⊎◌, Bool, Option, Some, None, List, [], ◌∷◌, ◌++◌, length, arith, refl, inl, inr, ◌∙◌, ap, length-append}
use Rattle.core_model.proofs.Words.{IsPlan, Entry, Progress, Taken, Task, Idle, Run, Half, Started, Kept, Ended, Handed, Status, Free, Pending, Served, CallState, Out, Receipt, Event, Claim, Start, OpenParRight, OpenParLeft, OpenSeqLeft, OpenSeqRight, Publish, Keep, End, FinishLeaf, FinishSeq, FinishPar, ArriveFirst, ArriveSecond, CoreJob, State, names}
use Rattle.core_model.specs.Operations.{Place, place_in, or_else, place_of, IsReceipt}
use Rattle.core_model.specs.Events.{task_after, Happens}
use Rattle.core_model.specs.Invariant.Hold.{is_published}
use Rattle.core_model.proofs.Inductive.Book.{booked_by}
use Rattle.core_model.proofs.Inductive.Parts.{InductiveParts}
use Rattle.core_model.specs.Waits.{IsTrapped, started_leaf, leaf_place, task_place, StaysTrapped, at_once, by_event}
use Rattle.batch_history.proofs.BookLemmas.Books.{place_append, place_in_batch}
use Rattle.core_model.proofs.InvariantLemmas.Publish.{no_entry}
use Rattle.core_model.proofs.Inductive.PartsHold.{parts_stand}
use Rattle.core_model.proofs.WaitLemmas.Places.{TrappedCall, trapped_call, trapped_place, receipt_of}
use Rattle.core_model.proofs.WaitLemmas.Keeps.{other_task}
use Rattle.core_model.proofs.WaitLemmas.Runs.{along_kept, two_at_most}

-- no entry stands here in a batch below this number
abbrev StandsFrom : Option Place → ℕ → Type 0
StandsFrom None k = Unit {0}
StandsFrom (Some p) k = k ≤ p.batch

-- there are this many batches, and the worker's entry stands in none of them
record ComesFrom (job : CoreJob) (s : State) (w since : ℕ) : Type 0 where
  count : since ≤ length s.book
  place : StandsFrom (task_place job s.book (s.task w)) since

-- a worker that is pending is not booked
pub pending_booked : (x : Progress) (o : Option ℕ) (task : ℕ → Task) (status : ℕ → Status) (call : ℕ → CallState) (b : Bool) (w n a : ℕ)
    → x ≡ Taken → o ≡ Some w → task w ≡ Started n a → status w ≡ Pending → call w ≡ Out → booked_by x o task status call b ≡ None
pending_booked x o task status call b w n a taken held started pending out = grind arith

-- so its entry is not in the book
pending_from : (job : CoreJob) (s : State) (w : ℕ) → InductiveParts job s → s.status w ≡ Pending → ComesFrom job s w (length s.book)
pending_from job s w h pending =
    let parts = parts_stand job s h in
    let trapped : s.status w ≢ Free = λ free. cc in
    let c : TrappedCall job s w = trapped_call job s w parts trapped in
    let none : place_of s.book c.leaf ≡ None =
    no_entry (place_of s.book c.leaf)
    (h.booked c.node c.leaf c.kind c.call
    ∙ pending_booked (s.node c.node) (h.holder c.node) s.task s.status s.call (is_published s.hold) w c.node c.start
    c.taken (h.tasks.holders.named w c.node (ap names c.task)) c.task pending ((parts.statuses.out w).1 trapped)) in
    record { count = omega arith; place = rw (trapped_place job s w s.book c, none) tt }

-- the book is the same, or has one batch more
abbrev IsBookAfter : List (List Entry) → List (List Entry) → Type 0
IsBookAfter old new = (new ≡ old) ⊎ ((b : List Entry) × (new ≡ old ++ b ∷ []))

-- what an event changes of a trapped worker's task and of the book
abbrev KeepsTask : State → State → ℕ → Type 0
KeepsTask s new v = (new.task v ≡ s.task v) × IsBookAfter s.book new.book

-- row by row
task_kept : (job : CoreJob) (s new : State) (w : ℕ) (event : Event) (v : ℕ) → Happens job s w event new → IsTrapped s v → KeepsTask s new v
task_kept job s new w (Claim n) v go trapped = rw go.does (other_task s w v (Run n) go.needs.0 trapped, inl refl)
task_kept job s new w (Start n) v go trapped = rw go.does (other_task s w v (Started n s.tick) go.needs.0 trapped, inl refl)
task_kept job s new w (OpenParRight p l r) v go trapped = rw go.does (other_task s w v (Half p) go.needs.0 trapped, inl refl)
task_kept job s new w (OpenParLeft p l r) v go trapped = rw go.does (other_task s w v Idle go.needs.0 trapped, inl refl)
task_kept job s new w (OpenSeqLeft p l r) v go trapped = rw go.does (other_task s w v Idle go.needs.0 trapped, inl refl)
task_kept job s new w (OpenSeqRight p l r) v go trapped = rw go.does (other_task s w v Idle go.needs.0 trapped, inl refl)
task_kept job s new w Publish v go trapped = rw go.does.2 (refl, inr (go.does.0, refl))
task_kept job s new w (Keep n t value) v go trapped = rw go.does (other_task s w v (Kept n t) go.needs.0 trapped, inl refl)
task_kept job s new w (End n t) v go trapped = rw go.does (other_task s w v (Ended n t s.tick) go.needs.0 trapped, inl refl)
task_kept job s new w (FinishLeaf n t e) v go trapped = rw go.does (other_task s w v (task_after n) go.needs.0 trapped, inl refl)
task_kept job s new w (FinishSeq p l r) v go trapped = rw go.does (other_task s w v (task_after p) go.needs.0 trapped, inl refl)
task_kept job s new w (FinishPar p l r) v go trapped = rw go.does (other_task s w v (task_after p) go.needs.0 trapped, inl refl)
task_kept job s new w (ArriveFirst p l r n) v go trapped = rw go.does (other_task s w v Idle go.needs.0 trapped, inl refl)
task_kept job s new w (ArriveSecond p l r n) v go trapped = rw go.does (other_task s w v (Handed p) go.needs.0 trapped, inl refl)
task_kept job s new w _ v go trapped = rw go.does (refl, inl refl)

-- the first of two places, where a new one is past the number
either_from : (p q : Option Place) (k : ℕ) → StandsFrom p k → ((x : Place) → q ≡ Some x → k ≤ x.batch) → StandsFrom (or_else p q) k
either_from (Some p) q k h g = h
either_from None None k h g = tt
either_from None (Some q) k h g = g q refl

-- the entry of a leaf in a longer book
longer_from : (bs : List (List Entry)) (b : List Entry) (o : Option ℕ) (k : ℕ) → k ≤ length bs → StandsFrom (leaf_place bs o) k → StandsFrom (leaf_place (bs ++ b ∷ []) o) k
longer_from bs b None k short h = tt
longer_from bs b (Some u) k short h =
    rw (place_append bs b u)
    (either_from (place_of bs u) (place_in (length bs) 0 b u) k h (λ x e. let at = place_in_batch (length bs) 0 b u x e in omega (arith, at, short)))

-- an event
event_from : (job : CoreJob) (s new : State) (w since : ℕ) → ComesFrom job s w since → KeepsTask s new w → ComesFrom job new w since
event_from job s new w since h (same, inl book) = record { count = rw book h.count; place = rw (same, book) h.place }
event_from job s new w since h (same, inr more) = record {
  count = rw more.1 (omega (arith, h.count, length-append s.book (more.0 ∷ [])));
  place = rw (same, more.1) (longer_from s.book more.0 (started_leaf job (s.task w)) since h.count h.place);
}

-- the worker was trapped before the last event
was_trapped : (job : CoreJob) (w : ℕ) (first last : State) → StaysTrapped job w first last → IsTrapped last w
was_trapped job w first last (at_once trapped) = trapped
was_trapped job w first last (by_event before happens trapped) = trapped

-- all events
along_from : (job : CoreJob) (w : ℕ) (first last : State) → InductiveParts job first → first.status w ≡ Pending → StaysTrapped job w first last → ComesFrom job last w (length first.book)
along_from job w first last h pending (at_once trapped) = pending_from job first w h pending
along_from job w first last h pending (by_event {old = old} {new = new} {worker = worker} {event = event} before happens trapped) =
    event_from job old new w (length first.book) (along_from job w first old h pending before)
    (task_kept job old new worker event w happens (was_trapped job w first old before))

-- the receipt of a place has its batch
receipt_from : (o : Option Place) (k : ℕ) (r : Receipt) → IsReceipt o r → StandsFrom o k → k ≤ r.batch
receipt_from None k r e h = absurd e
receipt_from (Some p) k r e h = rw e h

-- so a call that is pending comes into one of the next two batches
pub one_of_two : (job : CoreJob) (w : ℕ) (first last : State) (r : Receipt) → IsPlan job.plan → InductiveParts job first → first.status w ≡ Pending → StaysTrapped job w first last
    → last.status w ≡ Served r → (r.batch ≡ length first.book) ⊎ (r.batch ≡ length first.book + 1)
one_of_two job w first last r laws h pending stays served =
    let receipt = receipt_of job last.book (last.task w) r ((parts_stand job last (along_kept job w first last laws h stays)).statuses.served_receipt w r served) in
    let least = receipt_from (task_place job last.book (last.task w)) (length first.book) r receipt (along_from job w first last h pending stays).place in
    let most = two_at_most job w first last r laws h stays served in
    grind (arith, least, most)
