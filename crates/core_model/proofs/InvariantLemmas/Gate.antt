-- The events of the gate, but for the publishing one, keep the inductive invariant.
use Rattle.std.proofs.Common.{ℕ, ◌≡◌, ◌≢◌, ◌<◌, ◌&&◌, not, Bool, true, false, if◌then◌else◌, Option, Some, None, List, arith, refl, inl, inr, subst, sym, ◌∙◌, ap}
use Rattle.std.proofs.lemmas.Bool.Decides.{nat_tests}
use Rattle.std.proofs.lemmas.Bool.{cases_eq}
use Rattle.core_model.proofs.Words.{Entry, Progress, Task, Started, Status, Free, Pending, Executing, Served, CallState, NotCalled, Out, Got, Receipt, Post, Win, Take, Answer, Release, Leave, put, CoreJob, Hold, State}
use Rattle.core_model.specs.Operations.{leaf_of, IsCall, place_of, IsReceipt}
use Rattle.core_model.specs.Serving.{served}
use Rattle.core_model.specs.Events.{Needs, is_pending, new_hold, looked, answered}
use Rattle.core_model.specs.Invariant.Statuses.{IsAtCall, HasReceipt, is_taken_by}
use Rattle.core_model.specs.Invariant.Hold.{is_published, HoldInvariant}
use Rattle.core_model.proofs.Inductive.Book.{StatusFits, booked_by}
use Rattle.core_model.proofs.Inductive.Parts.{InductiveParts}
use Rattle.core_model.proofs.InvariantLemmas.Puts.{put_at, put_other}
use Rattle.core_model.proofs.InvariantLemmas.StatusRows.{call_out, taken_executing}

-- one row, at each event of the gate
post_row : (job : CoreJob) (book : List (List Entry)) (t : Task) (st : Status) (c : CallState) (b : Bool) → IsAtCall job t → st ≡ Free → c ≡ NotCalled → StatusFits job book t st c b → StatusFits job book t Pending Out b
post_row job book t st c b at free called h = grind arith

-- a worker that is served leaves
leave_row : (job : CoreJob) (book : List (List Entry)) (t : Task) (st : Status) (c : CallState) (b : Bool) (r : Receipt) → st ≡ Served r → StatusFits job book t st c b → StatusFits job book t Free (Got r) b
leave_row job book t st c b r served h = grind arith

-- a worker that was taken is answered
answer_row : (job : CoreJob) (book : List (List Entry)) (t : Task) (st : Status) (c : CallState) (took told : Bool) (r : Receipt) → took ≡ true → told ≡ false → HasReceipt job book t r
    → StatusFits job book t st c (took && not told) → StatusFits job book t (Served r) c (took && not true)
answer_row job book t st c took told r has hasnt receipt h = grind arith

-- a worker that is pending is taken
take_row : (job : CoreJob) (book : List (List Entry)) (t : Task) (st : Status) (c : CallState) (b : Bool) → st ≡ Pending → StatusFits job book t st c b → StatusFits job book t Executing c true
take_row job book t st c b pending h = grind arith

-- the rows of all workers, where the status and the call of one change
two_rows : (job : CoreJob) (book : List (List Entry)) (task : ℕ → Task) (status : ℕ → Status) (call : ℕ → CallState) (taken : ℕ → Bool) (w : ℕ) (st : Status) (c : CallState)
    → ((v : ℕ) → StatusFits job book (task v) (status v) (call v) (taken v)) → StatusFits job book (task w) st c (taken w)
    → (v : ℕ) → StatusFits job book (task v) (put status w st v) (put call w c v) (taken v)
two_rows job book task status call taken w st c h here v = elim (cases_eq v w) [
  | inl e ↦ rw (e, put_at status w w st refl, put_at call w w c refl) here
  | inr e ↦ rw (put_other status w v st e, put_other call w v c e) (h v)
]

-- the inductive invariant, after an event that changes only statuses, calls and the hold, and no membership in the book
gate_keeps : (job : CoreJob) (s : State) (status : ℕ → Status) (call : ℕ → CallState) (hold : Option Hold) → InductiveParts job s
    → ((v : ℕ) → StatusFits job s.book (s.task v) (status v) (call v) (is_taken_by hold v)) → HoldInvariant job.workers status call hold
    → ((x : Progress) (o : Option ℕ) → booked_by x o s.task status call (is_published hold) ≡ booked_by x o s.task s.status s.call (is_published s.hold))
    → InductiveParts job (record s { status = status; call = call; hold = hold })
gate_keeps job s status call hold h rows holds same = record {
  holder = h.holder;
  nodes = h.nodes;
  tasks = h.tasks;
  beyond = h.beyond;
  ticks = h.ticks;
  statuses = rows;
  hold = holds;
  book = h.book;
  booked = λ n leaf is call. h.booked n leaf is call ∙ sym (same (s.node n) (h.holder n));
  values = h.values;
}

-- a post does not change which calls are in the book
post_booked : (x : Progress) (o : Option ℕ) (task : ℕ → Task) (status : ℕ → Status) (call : ℕ → CallState) (b : Bool) (w : ℕ) → status w ≡ Free → call w ≡ NotCalled
    → booked_by x o task (put status w Pending) (put call w Out) b ≡ booked_by x o task status call b
post_booked x o task status call b w free called = grind (arith, nat_tests)

-- a task started at a leaf that calls
at_call : (job : CoreJob) (book : List (List Entry)) (t : Task) (n s : ℕ) → t ≡ Started n s → IsCall job (leaf_of (job.plan.kind n)) → IsAtCall job t
at_call job book t n s e call = rw e call

-- the hold, when a worker posts
post_hold : (workers : ℕ) (status : ℕ → Status) (call : ℕ → CallState) (w : ℕ) (o : Option Hold) → call w ≡ NotCalled → HoldInvariant workers status call o → HoldInvariant workers (put status w Pending) (put call w Out) o
post_hold workers status call w None called h = tt
post_hold workers status call w (Some hd) called h = (grind (arith, nat_tests), h.1, h.2, h.3, h.4, h.5, h.6, grind (arith, nat_tests))

-- a post
pub post_keeps : (job : CoreJob) (s : State) (w n t : ℕ) → InductiveParts job s → Needs job s w (Post n t) → InductiveParts job (record s { status = put s.status w Pending; call = put s.call w Out })
post_keeps job s w n t h needs =
    gate_keeps job s (put s.status w Pending) (put s.call w Out) s.hold h
    (two_rows job s.book s.task s.status s.call (is_taken_by s.hold) w Pending Out h.statuses
    (post_row job s.book (s.task w) (s.status w) (s.call w) (is_taken_by s.hold w) (at_call job s.book (s.task w) n t needs.1 needs.2) needs.0 needs.3 (h.statuses w)))
    (post_hold job.workers s.status s.call w s.hold needs.3 h.hold)
    (λ x o. post_booked x o s.task s.status s.call (is_published s.hold) w needs.0 needs.3)

-- a new hold does not change which calls are in the book
win_booked : (x : Progress) (o : Option ℕ) (task : ℕ → Task) (status : ℕ → Status) (call : ℕ → CallState) (h : Option Hold) (w : ℕ) → h ≡ None
    → booked_by x o task status call false ≡ booked_by x o task status call (is_published h)
win_booked x o task status call h w e = grind arith

-- the flag is won
pub win_keeps : (job : CoreJob) (s : State) (w : ℕ) → InductiveParts job s → Needs job s w Win → InductiveParts job (record s { hold = Some (new_hold w) })
win_keeps job s w h needs =
    gate_keeps job s s.status s.call (Some (new_hold w)) h (λ v. rw needs.2 at (h.statuses v))
    (needs.1, omega arith, λ u e. cc, λ e. cc, λ e. cc, λ u e. cc, λ u e. cc, λ l. absurd (omega arith))
    (λ x o. win_booked x o s.task s.status s.call s.hold w needs.2)

-- an answer
answer_booked : (x : Progress) (o : Option ℕ) (task : ℕ → Task) (status : ℕ → Status) (call : ℕ → CallState) (b : Bool) (u : ℕ) (r : Receipt) → status u ≡ Executing → b ≡ true
    → booked_by x o task (put status u (Served r)) call b ≡ booked_by x o task status call b
answer_booked x o task status call b u r ex pub' = grind (arith, nat_tests)

-- the hold, when a worker is answered
answer_hold : (workers : ℕ) (status : ℕ → Status) (call : ℕ → CallState) (h : Hold) (u : ℕ) (r : Receipt) → h.published ≡ true → h.taken u ≡ true
    → HoldInvariant workers status call (Some h) → HoldInvariant workers (put status u (Served r)) call (Some (record h { answered = put h.answered u true }))
answer_hold workers status call h u r there took hf = (
  hf.0,
  hf.1,
  hf.2,
  hf.3,
  hf.4,
  (λ v e. grind (arith, nat_tests, hf.5 v)),
  (λ v e. there),
  grind (arith, nat_tests),
)

-- the receipt of the leaf that a task has started
started_receipt : (job : CoreJob) (book : List (List Entry)) (t : Task) (n s : ℕ) (r : Receipt) → t ≡ Started n s → IsReceipt (place_of book (leaf_of (job.plan.kind n))) r → HasReceipt job book t r
started_receipt job book t n s r e h = rw e h

-- whether another worker is taken and not answered, after an answer
other_answer : (h : Hold) (u v : ℕ) → v ≢ u → (h.taken v && not (put h.answered u true v)) ≡ (h.taken v && not (h.answered v))
other_answer h u v e = grind (arith, nat_tests)

-- and after a look that takes
other_take : (h : Hold) (u v : ℕ) → v ≢ u → (put h.taken u true v && not (h.answered v)) ≡ (h.taken v && not (h.answered v))
other_take h u v e = grind (arith, nat_tests)

-- the rows of all workers, where one status changes
one_row : (job : CoreJob) (book : List (List Entry)) (task : ℕ → Task) (status : ℕ → Status) (call : ℕ → CallState) (taken taken' : ℕ → Bool) (w : ℕ) (st : Status)
    → ((v : ℕ) → StatusFits job book (task v) (status v) (call v) (taken v))
    → StatusFits job book (task w) st (call w) (taken' w) → ((v : ℕ) → v ≢ w → taken' v ≡ taken v)
    → (v : ℕ) → StatusFits job book (task v) (put status w st v) (call v) (taken' v)
one_row job book task status call taken taken' w st h here same v = elim (cases_eq v w) [
  | inl e ↦ rw (e, put_at status w w st refl) here
  | inr e ↦ rw (put_other status w v st e, same v e) (h v)
]

-- a worker that was taken and not answered
taken_yes : (h : Hold) (u : ℕ) → h.taken u ≡ true → h.answered u ≡ false → (h.taken u && not (h.answered u)) ≡ true
taken_yes h u e f = grind arith

-- an answer
pub answer_keeps : (job : CoreJob) (s : State) (w u : ℕ) (r : Receipt) → InductiveParts job s → Needs job s w (Answer u r) → InductiveParts job (record s { status = put s.status u (Served r); hold = answered s.hold u })
answer_keeps job s w u r h needs =
    let hd : Hold = needs.0 in
    let there : s.hold ≡ Some hd = needs.1.0 in
    let hold : HoldInvariant job.workers s.status s.call (Some hd) = rw there at h.hold in
    let rows : (v : ℕ) → StatusFits job s.book (s.task v) (s.status v) (s.call v) (is_taken_by (Some hd) v) = λ v. rw there at (h.statuses v) in
    let ex : s.status u ≡ Executing = taken_executing job s.book (s.task u) (s.status u) (s.call u) (hd.taken u && not (hd.answered u)) (taken_yes hd u needs.3 needs.4) (rows u) in
    gate_keeps job s (put s.status u (Served r)) s.call (answered s.hold u) h
    (rw there (one_row job s.book s.task s.status s.call (is_taken_by (Some hd)) (is_taken_by (answered (Some hd) u)) u (Served r) rows
    (rw (put_at hd.answered u u true refl) (answer_row job s.book (s.task u) (s.status u) (s.call u) (hd.taken u) (hd.answered u) r needs.3 needs.4
    (started_receipt job s.book (s.task u) needs.5.0 needs.5.2.1 r needs.5.2.2 (rw needs.5.2.0 needs.5.3)) (rows u)))
    (other_answer hd u)))
    (rw there (answer_hold job.workers s.status s.call hd u r needs.2 needs.3 hold))
    (λ x o. rw there (answer_booked x o s.task s.status s.call hd.published u r ex needs.2))

-- a look that takes does not change which calls are in the book
take_booked : (x : Progress) (o : Option ℕ) (job : CoreJob) (book : List (List Entry)) (task : ℕ → Task) (status : ℕ → Status) (call : ℕ → CallState) (u : ℕ) (taken : Bool) → status u ≡ Pending
    → StatusFits job book (task u) (status u) (call u) taken
    → booked_by x o task (put status u Executing) call false ≡ booked_by x o task status call false
take_booked x o job book task status call u taken pending row =
    let out : call u ≡ Out = call_out job book (task u) (status u) (call u) taken (λ free. let f = sym pending ∙ free in cc) row in
    grind (arith, nat_tests)

-- the hold, after a look that takes
take_hold : (workers : ℕ) (status : ℕ → Status) (call : ℕ → CallState) (h : Hold) (u : ℕ) → h.looks < workers → u ≡ h.looks
    → HoldInvariant workers status call (Some h) → HoldInvariant workers (put status u Executing) call (looked (Some h) true u)
take_hold workers status call h u below at hf = (
  hf.0,
  omega (arith, hf.1),
  (λ v e. grind (arith, nat_tests, hf.2 v)),
  (λ e. absurd (omega (arith, hf.3 e))),
  (λ e. absurd (omega (arith, hf.3 e))),
  (λ v e. grind (arith, nat_tests, hf.5 v e)),
  hf.6,
  grind (arith, nat_tests),
)

-- the hold, after a look that takes nothing
look_hold : (workers : ℕ) (status : ℕ → Status) (call : ℕ → CallState) (h : Hold) (u : ℕ) → h.looks < workers → u ≡ h.looks → status u ≢ Pending
    → HoldInvariant workers status call (Some h) → HoldInvariant workers status call (looked (Some h) false u)
look_hold workers status call h u below at other hf = (
  hf.0,
  omega (arith, hf.1),
  (λ v e. grind (arith, hf.2 v e)),
  (λ e. absurd (omega (arith, hf.3 e))),
  (λ e. absurd (omega (arith, hf.3 e))),
  hf.5,
  hf.6,
  grind (arith, cases_eq h.worker h.looks),
)

-- the worker to look at next was not answered
not_told : (workers : ℕ) (status : ℕ → Status) (call : ℕ → CallState) (h : Hold) (u : ℕ) → u ≡ h.looks → HoldInvariant workers status call (Some h) → h.answered u ≡ false
not_told workers status call h u at hf = grind (arith, hf.5 u, hf.2 u)

-- so it is taken and not answered
told_row : (took told : Bool) → took ≡ true → told ≡ false → true ≡ (took && not told)
told_row took told e f = grind arith

-- the rows, the hold and which calls are in the book, after a look
pending_row : (job : CoreJob) (s : State) (hd : Hold) (u : ℕ) (b : Bool) → is_pending (s.status u) ≡ b → hd.looks < job.workers → u ≡ hd.looks
    → HoldInvariant job.workers s.status s.call (Some hd)
    → ((v : ℕ) → StatusFits job s.book (s.task v) (s.status v) (s.call v) (is_taken_by (Some hd) v))
    → ((v : ℕ) → StatusFits job s.book (s.task v) ((if b then put s.status u Executing else s.status) v) (s.call v) (is_taken_by (looked (Some hd) b u) v))
    × HoldInvariant job.workers (if b then put s.status u Executing else s.status) s.call (looked (Some hd) b u)
    × ((x : Progress) (o : Option ℕ) → booked_by x o s.task (if b then put s.status u Executing else s.status) s.call (is_published (looked (Some hd) b u)) ≡ booked_by x o s.task s.status s.call hd.published)
pending_row job s hd u true pending below at hold rows =
    let is : s.status u ≡ Pending = grind arith in
    let un : hd.published ≡ false = grind (arith, hold.3) in (
      one_row job s.book s.task s.status s.call (is_taken_by (Some hd)) (is_taken_by (looked (Some hd) true u)) u Executing rows
          (subst (StatusFits job s.book (s.task u) Executing (s.call u)) (told_row (put hd.taken u true u) (hd.answered u) (put_at hd.taken u u true refl) (not_told job.workers s.status s.call hd u at hold))
          (take_row job s.book (s.task u) (s.status u) (s.call u) (hd.taken u && not (hd.answered u)) is (rows u)))
          (other_take hd u),
      take_hold job.workers s.status s.call hd u below at hold,
      λ x o. rw un (take_booked x o job s.book s.task s.status s.call u (is_taken_by (Some hd) u) is (rows u)),
    )
pending_row job s hd u false pending below at hold rows = (rows, look_hold job.workers s.status s.call hd u below at (λ e. let f : true ≡ false = sym (ap is_pending e) ∙ pending in cc) hold, λ x o. refl)

-- a look
pub take_keeps : (job : CoreJob) (s : State) (w u : ℕ) → InductiveParts job s → Needs job s w (Take u) → InductiveParts job (record s { status = if is_pending (s.status u) then put s.status u Executing else s.status; hold = looked s.hold (is_pending (s.status u)) u })
take_keeps job s w u h needs =
    let hd : Hold = needs.0 in
    let there : s.hold ≡ Some hd = needs.1.0 in
    let all = pending_row job s hd u (is_pending (s.status u)) refl (omega (arith, needs.2, needs.3)) needs.2 (rw there at h.hold) (λ v. rw there at (h.statuses v)) in
    gate_keeps job s (if is_pending (s.status u) then put s.status u Executing else s.status) s.call (looked s.hold (is_pending (s.status u)) u) h
    (rw there all.0) (rw there all.1) (λ x o. rw there (all.2 x o))

-- a worker leaves
leave_booked : (x : Progress) (o : Option ℕ) (task : ℕ → Task) (status : ℕ → Status) (call : ℕ → CallState) (b : Bool) (w : ℕ) (r : Receipt) → status w ≡ Served r
    → booked_by x o task (put status w Free) (put call w (Got r)) b ≡ booked_by x o task status call b
leave_booked x o task status call b w r served = grind (arith, nat_tests)

-- the hold, when another worker leaves
leave_hold : (workers : ℕ) (status : ℕ → Status) (call : ℕ → CallState) (w : ℕ) (r : Receipt) (o : Option Hold) → ((h : Hold) → o ≡ Some h → h.worker ≢ w) → HoldInvariant workers status call o
    → HoldInvariant workers (put status w Free) (put call w (Got r)) o
leave_hold workers status call w r None other h = tt
leave_hold workers status call w r (Some hd) other h =
    let apart : hd.worker ≢ w = other hd refl in
    (grind (arith, nat_tests, h.0), h.1, h.2, h.3, h.4, h.5, h.6, grind (arith, nat_tests, h.7))

-- a worker leaves its call
pub leave_keeps : (job : CoreJob) (s : State) (w : ℕ) (r : Receipt) → InductiveParts job s → Needs job s w (Leave r) → InductiveParts job (record s { status = put s.status w Free; call = put s.call w (Got r) })
leave_keeps job s w r h needs =
    gate_keeps job s (put s.status w Free) (put s.call w (Got r)) s.hold h
    (two_rows job s.book s.task s.status s.call (is_taken_by s.hold) w Free (Got r) h.statuses
    (leave_row job s.book (s.task w) (s.status w) (s.call w) (is_taken_by s.hold w) r needs.0 (h.statuses w)))
    (leave_hold job.workers s.status s.call w r s.hold needs.1 h.hold)
    (λ x o. leave_booked x o s.task s.status s.call (is_published s.hold) w r needs.0)

-- the flag is released
pub no_more : (job : CoreJob) (book : List (List Entry)) (t : Task) (st : Status) (c : CallState) (took told : Bool) → (took ≡ true → told ≡ true) → StatusFits job book t st c (took && not told) → StatusFits job book t st c false × (st ≢ Executing)
no_more job book t st c took told same h = grind arith

-- a release does not change which calls are in the book
release_booked : (x : Progress) (o : Option ℕ) (task : ℕ → Task) (status : ℕ → Status) (call : ℕ → CallState) (b : Bool) → ((v : ℕ) → status v ≢ Executing)
    → booked_by x o task status call false ≡ booked_by x o task status call b
release_booked x o task status call b none = grind (arith)

-- the flag is released
pub release_keeps : (job : CoreJob) (s : State) (w : ℕ) → InductiveParts job s → Needs job s w Release → InductiveParts job (record s { hold = None })
release_keeps job s w h needs =
    let hd : Hold = needs.0 in
    let there : s.hold ≡ Some hd = needs.1.0 in
    let rows : (v : ℕ) → StatusFits job s.book (s.task v) (s.status v) (s.call v) false × (s.status v ≢ Executing) =
    λ v. no_more job s.book (s.task v) (s.status v) (s.call v) (hd.taken v) (hd.answered v) (needs.3 v) (rw there at (h.statuses v)) in
    gate_keeps job s s.status s.call None h (λ v. (rows v).0) tt
    (λ x o. release_booked x o s.task s.status s.call (is_published s.hold) (λ v. (rows v).1))
