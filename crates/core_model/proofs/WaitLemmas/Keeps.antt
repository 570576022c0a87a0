-- Each event keeps what is said of a trapped worker that waits.
use Rattle.std.proofs.Common.{ℕ, ◌≡◌, ◌≢◌, ◌≤◌, ◌+◌, Bool, true, false, if◌then◌else◌, Option, Some, None, List, [], ◌∷◌, ◌++◌, length, arith, refl, inl, inr, subst, sym, ◌∙◌, ap, length-append}
use Rattle.std.proofs.lemmas.Bool.{cases_eq}
use Rattle.core_model.proofs.Words.{IsPlan, Entry, Task, Idle, Run, Half, Started, Kept, Ended, Handed, Status, Free, Pending, Executing, Served, Receipt, Event, Claim, Start, OpenParRight, Post, Win, Take, Publish, Answer, Release, Leave, Keep, End, FinishLeaf, FinishSeq, FinishPar, ArriveSecond, put, CoreJob, Hold, State}
use Rattle.core_model.specs.Operations.{Place}
use Rattle.core_model.specs.Serving.{served}
use Rattle.core_model.specs.Events.{task_after, is_pending, new_hold, looked, published, answered, Needs, IsBatchOf, Happens}
use Rattle.core_model.specs.Invariant.Hold.{HoldInvariant}
use Rattle.core_model.specs.Invariant.{Parts}
use Rattle.core_model.proofs.Inductive.Parts.{InductiveParts}
use Rattle.core_model.specs.Waits.{IsTrapped, started_leaf, task_place, StatusWaits, WaitsSince}
use Rattle.core_model.proofs.InvariantLemmas.Puts.{put_at, put_other}
use Rattle.core_model.proofs.InvariantLemmas.Gate.{no_more}
use Rattle.core_model.proofs.InvariantLemmas.Publish.{publish_keeps}
use Rattle.core_model.proofs.Inductive.PartsHold.{parts_stand}
use Rattle.core_model.proofs.WaitLemmas.Rows.{now_row, win_row, take_row, look_row, publish_row, answer_row, other_row, release_row}
use Rattle.core_model.proofs.WaitLemmas.Places.{executing_stands, receipt_of, receipt_stands, still_stands}

-- a trapped worker waits from now on
pub waits_from_now : (job : CoreJob) (s : State) (w : ℕ) → Parts job s → IsTrapped s w → WaitsSince job s w (length s.book)
waits_from_now job s w h trapped =
    now_row (s.status w) (length s.book) s.hold (task_place job s.book (s.task w)) w trapped
    (λ executing there. executing_stands job s w (length s.book + 1) h executing there (omega arith))
    (λ r served. receipt_stands s.book (started_leaf job (s.task w)) (length s.book + 1) r (receipt_of job s.book (s.task w) r (h.statuses.served_receipt w r served)) (omega arith))

-- a worker that waits is trapped
waits_trapped : (job : CoreJob) (s : State) (w since : ℕ) → WaitsSince job s w since → IsTrapped s w
waits_trapped job s w since waits free = rw free at waits

-- a trapped worker is another than one that is free
other_worker : (s : State) (w v : ℕ) → s.status w ≡ Free → IsTrapped s v → v ≢ w
other_worker s w v free trapped e = trapped (ap s.status e ∙ free)

-- so its task stays, where that one's task changes
pub other_task : (s : State) (w v : ℕ) (t : Task) → s.status w ≡ Free → IsTrapped s v → put s.task w t v ≡ s.task v
other_task s w v t free trapped = put_other s.task w v t (other_worker s w v free trapped)

task_waits : (job : CoreJob) (s : State) (w v since : ℕ) (t : Task) → s.status w ≡ Free → WaitsSince job s v since
    → StatusWaits (s.status v) (length s.book) s.hold (task_place job s.book (put s.task w t v)) v since
task_waits job s w v since t free waits = rw (other_task s w v t free (waits_trapped job s v since waits)) waits

-- another worker's status changes
status_waits : (status : ℕ → Status) (count : ℕ) (o : Option Hold) (p : Option Place) (w v since : ℕ) (st : Status) → v ≢ w
    → StatusWaits (status v) count o p v since → StatusWaits (put status w st v) count o p v since
status_waits status count o p w v since st apart waits = rw (put_other status w v st apart) waits

-- the flag is won
win_waits : (job : CoreJob) (s : State) (w v since : ℕ) → Parts job s → s.hold ≡ None → WaitsSince job s v since
    → WaitsSince job (record s { hold = Some (new_hold w) }) v since
win_waits job s w v since h none waits =
    win_row (s.status v) (length s.book) (task_place job s.book (s.task v)) w v since
    (λ executing. let taken = rw none at ((h.statuses.executing v).0 executing) in cc)
    (rw none at waits)

-- a look
look_waits : (status : ℕ → Status) (count : ℕ) (h : Hold) (p : Option Place) (b : Bool) (u v since : ℕ) → is_pending (status u) ≡ b → u ≡ h.looks → h.published ≡ false
    → StatusWaits (status v) count (Some h) p v since → StatusWaits ((if b then put status u Executing else status) v) count (looked (Some h) b u) p v since
look_waits status count h p true u v since pending at un waits = elim (cases_eq v u) [
  | inl e ↦
      let is : status u ≡ Pending = grind arith in
      rw (put_at status u v Executing e) (take_row count h p u v since un (rw (ap status e ∙ is) at waits))
  | inr e ↦ rw (put_other status u v Executing e) (look_row (status v) count h p true u v since at (λ k. e) waits)
]
look_waits status count h p false u v since pending at un waits =
    look_row (status v) count h p false u v since at (λ k e. let f : true ≡ false = sym (ap is_pending (sym (ap status e) ∙ k)) ∙ pending in cc) waits

take_waits : (job : CoreJob) (s : State) (w u v since : ℕ) → Parts job s → Needs job s w (Take u) → WaitsSince job s v since
    → WaitsSince job (record s { status = if is_pending (s.status u) then put s.status u Executing else s.status; hold = looked s.hold (is_pending (s.status u)) u }) v since
take_waits job s w u v since h needs waits =
    let hd : Hold = needs.0 in
    let there : s.hold ≡ Some hd = needs.1.0 in
    let hold : HoldInvariant job.workers s.status s.call (Some hd) = rw there at h.hold in
    let un : hd.published ≡ false = grind (arith, hold.3, needs.2, needs.3) in
    rw there
    (look_waits s.status (length s.book) hd (task_place job s.book (s.task v)) (is_pending (s.status u)) u v since refl needs.2 un (rw there at waits))

-- a batch is published
publish_waits : (job : CoreJob) (s : State) (w v since : ℕ) (b : List Entry) → IsPlan job.plan → InductiveParts job s → Needs job s w Publish → IsBatchOf job s b → WaitsSince job s v since
    → WaitsSince job (record s { book = s.book ++ b ∷ []; objects = served s.objects b; hold = published s.hold }) v since
publish_waits job s w v since b laws h needs batch waits =
    let hd : Hold = needs.0 in
    let there : s.hold ≡ Some hd = needs.1.0 in
    let new : State = record s { book = s.book ++ b ∷ []; objects = served s.objects b; hold = published s.hold } in
    let one_more : length (s.book ++ b ∷ []) ≡ length s.book + 1 = length-append s.book (b ∷ []) in
    let trapped : s.status v ≢ Free = waits_trapped job s v since waits in
    let inside : (job.workers ≤ v) → ⊥ = λ far. trapped ((parts_stand job s h).beyond v far).1 in
    rw (one_more, there)
    (publish_row (s.status v) (length s.book) hd (task_place job s.book (s.task v)) (task_place job (s.book ++ b ∷ []) (s.task v)) v since job.workers needs.4 needs.2 (omega (arith, inside))
    (λ executing. executing_stands job new v (length s.book) (parts_stand job new (publish_keeps job s w b laws h needs batch)) executing (rw there refl) (omega (arith, one_more)))
    (still_stands s.book b (started_leaf job (s.task v)) (since + 1))
    (rw there at waits))

-- a worker is answered
answer_waits : (status : ℕ → Status) (count : ℕ) (h : Hold) (p : Option Place) (r : Receipt) (u v since : ℕ) → status u ≡ Executing → h.published ≡ true
    → StatusWaits (status v) count (Some h) p v since → StatusWaits (put status u (Served r) v) count (answered (Some h) u) p v since
answer_waits status count h p r u v since executing there waits = elim (cases_eq v u) [
  | inl e ↦ rw (put_at status u v (Served r) e) (answer_row count h p r v since there (rw (ap status e ∙ executing) at waits))
  | inr e ↦ rw (put_other status u v (Served r) e) (other_row (status v) count h p u v since waits)
]

tell_waits : (job : CoreJob) (s : State) (w u v since : ℕ) (r : Receipt) → Parts job s → Needs job s w (Answer u r) → WaitsSince job s v since
    → WaitsSince job (record s { status = put s.status u (Served r); hold = answered s.hold u }) v since
tell_waits job s w u v since r h needs waits =
    let hd : Hold = needs.0 in
    let there : s.hold ≡ Some hd = needs.1.0 in
    let executing : s.status u ≡ Executing = (h.statuses.executing u).1 (rw (there, needs.3, needs.4) refl) in
    rw there
    (answer_waits s.status (length s.book) hd (task_place job s.book (s.task v)) r u v since executing needs.2 (rw there at waits))

-- the flag is released
release_waits : (job : CoreJob) (s : State) (w v since : ℕ) → InductiveParts job s → Needs job s w Release → WaitsSince job s v since
    → WaitsSince job (record s { hold = None }) v since
release_waits job s w v since h needs waits =
    let hd : Hold = needs.0 in
    let there : s.hold ≡ Some hd = needs.1.0 in
    let row = no_more job s.book (s.task v) (s.status v) (s.call v) (hd.taken v) (hd.answered v) (needs.3 v) (rw there at (h.statuses v)) in
    release_row (s.status v) (length s.book) s.hold (task_place job s.book (s.task v)) v since row.1 waits

-- a worker leaves
leave_waits : (job : CoreJob) (s : State) (w v since : ℕ) → put s.status w Free v ≢ Free → WaitsSince job s v since
    → StatusWaits (put s.status w Free v) (length s.book) s.hold (task_place job s.book (s.task v)) v since
leave_waits job s w v since trapped waits =
    status_waits s.status (length s.book) s.hold (task_place job s.book (s.task v)) w v since Free (λ e. trapped (put_at s.status w v Free e)) waits

-- what is said of the state that an event makes is said of the new one
becomes : (job : CoreJob) (v since : ℕ) {new made : State} → new ≡ made → WaitsSince job made v since → WaitsSince job new v since
becomes job v since {new = new} {made = made} e waits = subst (λ (x : State). WaitsSince job x v since) (sym e) waits

-- row by row
pub waits_kept : (job : CoreJob) (s new : State) (w : ℕ) (event : Event) (v since : ℕ) → IsPlan job.plan → InductiveParts job s → Happens job s w event new → IsTrapped new v
    → WaitsSince job s v since → WaitsSince job new v since
waits_kept job s new w (Claim n) v since laws h go trapped waits = becomes job v since go.does (task_waits job s w v since (Run n) go.needs.0 waits)
waits_kept job s new w (Start n) v since laws h go trapped waits = becomes job v since go.does (task_waits job s w v since (Started n s.tick) go.needs.0 waits)
waits_kept job s new w (OpenParRight p l r) v since laws h go trapped waits = becomes job v since go.does (task_waits job s w v since (Half p) go.needs.0 waits)
waits_kept job s new w (Post n t) v since laws h go trapped waits = becomes job v since go.does
    (status_waits s.status (length s.book) s.hold (task_place job s.book (s.task v)) w v since Pending (other_worker s w v go.needs.0 (waits_trapped job s v since waits)) waits)
waits_kept job s new w Win v since laws h go trapped waits = becomes job v since go.does (win_waits job s w v since (parts_stand job s h) go.needs.2 waits)
waits_kept job s new w (Take u) v since laws h go trapped waits = becomes job v since go.does (take_waits job s w u v since (parts_stand job s h) go.needs waits)
waits_kept job s new w Publish v since laws h go trapped waits = becomes job v since go.does.2 (publish_waits job s w v since go.does.0 laws h go.needs go.does.1 waits)
waits_kept job s new w (Answer u r) v since laws h go trapped waits = becomes job v since go.does (tell_waits job s w u v since r (parts_stand job s h) go.needs waits)
waits_kept job s new w Release v since laws h go trapped waits = becomes job v since go.does (release_waits job s w v since h go.needs waits)
waits_kept job s new w (Leave r) v since laws h go trapped waits = becomes job v since go.does
    (leave_waits job s w v since (subst (λ (x : State). IsTrapped x v) go.does trapped) waits)
waits_kept job s new w (Keep n t value) v since laws h go trapped waits = becomes job v since go.does (task_waits job s w v since (Kept n t) go.needs.0 waits)
waits_kept job s new w (End n t) v since laws h go trapped waits = becomes job v since go.does (task_waits job s w v since (Ended n t s.tick) go.needs.0 waits)
waits_kept job s new w (FinishLeaf n t e) v since laws h go trapped waits = becomes job v since go.does (task_waits job s w v since (task_after n) go.needs.0 waits)
waits_kept job s new w (FinishSeq p l r) v since laws h go trapped waits = becomes job v since go.does (task_waits job s w v since (task_after p) go.needs.0 waits)
waits_kept job s new w (FinishPar p l r) v since laws h go trapped waits = becomes job v since go.does (task_waits job s w v since (task_after p) go.needs.0 waits)
waits_kept job s new w (ArriveSecond p l r n) v since laws h go trapped waits = becomes job v since go.does (task_waits job s w v since (Handed p) go.needs.0 waits)
waits_kept job s new w _ v since laws h go trapped waits = becomes job v since go.does (task_waits job s w v since Idle go.needs.0 waits)
