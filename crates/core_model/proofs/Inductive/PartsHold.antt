-- The inductive invariant of a state implies the parts of the invariant.
use Rattle.std.proofs.Common.{ℕ, ◌≡◌, ◌≢◌, ◌<◌, ◌⊎◌, Bool, true, false, if◌then◌else◌, Option, Some, None, List, arith, refl, inl, inr, subst, sym, ◌∙◌, ap}
use Rattle.core_model.specs.Invariant.Values.{IsKept, ValuesInvariant}
use Rattle.core_model.specs.Invariant.Statuses.{StatusesInvariant}
use Rattle.core_model.specs.Invariant.Book.{BookInvariant}
use Rattle.core_model.specs.Invariant.Membership.{IsBooked, MembershipInvariant}
use Rattle.core_model.specs.Invariant.{Parts}
use Rattle.core_model.proofs.Words.{LeafNode, Nodes, Entry, Progress, Waiting, Ready, Taken, Done, Ran, Task, Started, Kept, Ended, Status, Free, Pending, Executing, Served, CallState, NotCalled, Out, Got, Receipt, CoreJob, State, is_done, names}
use Rattle.core_model.specs.Operations.{Place, place_of}
use Rattle.core_model.specs.Invariant.Tasks.{TaskFits}
use Rattle.core_model.specs.Invariant.Statuses.{IsAtCall, HasReceipt, is_taken_by}
use Rattle.core_model.specs.Invariant.Hold.{is_published}
use Rattle.core_model.proofs.Inductive.Nodes.{HoldersFit, InductiveTasks}
use Rattle.core_model.proofs.Inductive.Book.{StatusFits, IsEarlier, is_booked, booked_by, worker_at, valued_by}
use Rattle.core_model.proofs.Inductive.Parts.{InductiveParts}
use Rattle.core_model.proofs.Inductive.Stamps.{stamped, stamped_end}
use Rattle.core_model.proofs.Inductive.TicksHold.{ticks_stand}
use Rattle.core_model.proofs.Inductive.NodesHold.{nodes_stand, tasks_stand}
use Rattle.core_model.proofs.InvariantLemmas.StatusRows.{call_out, executing_taken, taken_executing, idle_free}

-- one worker's status and call
is_out : (job : CoreJob) (book : List (List Entry)) (t : Task) (st : Status) (c : CallState) (b : Bool) → StatusFits job book t st c b → c ≡ Out → st ≢ Free
is_out job book t st c b h out free = grind arith

-- a worker that has made its call is at a leaf that calls
is_at_call : (job : CoreJob) (book : List (List Entry)) (t : Task) (st : Status) (c : CallState) (b : Bool) → StatusFits job book t st c b → c ≢ NotCalled → IsAtCall job t
is_at_call job book t Free NotCalled b h called = absurd (called refl)
is_at_call job book t Free Out b h called = absurd h
is_at_call job book t Free (Got r) b h called = h.1
is_at_call job book t Pending NotCalled b h called = absurd h
is_at_call job book t Pending Out b h called = h.1
is_at_call job book t Pending (Got r) b h called = absurd h
is_at_call job book t Executing NotCalled b h called = absurd h
is_at_call job book t Executing Out b h called = h.1
is_at_call job book t Executing (Got r) b h called = absurd h
is_at_call job book t (Served q) NotCalled b h called = absurd h
is_at_call job book t (Served q) Out b h called = h.1
is_at_call job book t (Served q) (Got r) b h called = absurd h

-- a worker that is served has its receipt
served_has : (job : CoreJob) (book : List (List Entry)) (t : Task) (st : Status) (c : CallState) (b : Bool) (r : Receipt) → StatusFits job book t st c b → st ≡ Served r → HasReceipt job book t r
served_has job book t st c b r h e = row st c e h where
  row : (x : Status) (y : CallState) → x ≡ Served r → StatusFits job book t x y b → HasReceipt job book t r
  row Free y e g = cc
  row Pending y e g = cc
  row Executing y e g = cc
  row (Served q) NotCalled e g = absurd g
  row (Served q) Out e g = let f : q ≡ r = cc in subst (HasReceipt job book t) f g.2
  row (Served q) (Got z) e g = absurd g

-- a worker that has got its call has its receipt
got_has : (job : CoreJob) (book : List (List Entry)) (t : Task) (st : Status) (c : CallState) (b : Bool) (r : Receipt) → StatusFits job book t st c b → c ≡ Got r → HasReceipt job book t r
got_has job book t st c b r h e = row st c e h where
  row : (x : Status) (y : CallState) → y ≡ Got r → StatusFits job book t x y b → HasReceipt job book t r
  row x NotCalled e g = cc
  row x Out e g = cc
  row Free (Got q) e g = let f : q ≡ r = cc in subst (HasReceipt job book t) f g.2
  row Pending (Got q) e g = absurd g
  row Executing (Got q) e g = absurd g
  row (Served z) (Got q) e g = absurd g

-- the statuses
pub statuses_stand : (job : CoreJob) (s : State) → ((w : ℕ) → StatusFits job s.book (s.task w) (s.status w) (s.call w) (is_taken_by s.hold w)) → StatusesInvariant job s
statuses_stand job s h = record {
  out = λ w. (is_out job s.book (s.task w) (s.status w) (s.call w) (is_taken_by s.hold w) (h w), λ busy. call_out job s.book (s.task w) (s.status w) (s.call w) (is_taken_by s.hold w) busy (h w));
  at_call = λ w. is_at_call job s.book (s.task w) (s.status w) (s.call w) (is_taken_by s.hold w) (h w);
  executing = λ w. (λ e. executing_taken job s.book (s.task w) (s.status w) (s.call w) (is_taken_by s.hold w) e (h w), λ e. taken_executing job s.book (s.task w) (s.status w) (s.call w) (is_taken_by s.hold w) e (h w));
  served_receipt = λ w r. served_has job s.book (s.task w) (s.status w) (s.call w) (is_taken_by s.hold w) r (h w);
  got_receipt = λ w r. got_has job s.book (s.task w) (s.status w) (s.call w) (is_taken_by s.hold w) r (h w);
}

-- an earlier place is there
earlier_place : (p q : Option Place) (later : Place) → IsEarlier p q → q ≡ Some later → (earlier : Place) × (p ≡ Some earlier) × (earlier.batch < later.batch)
earlier_place p None later h e = cc
earlier_place None (Some q) later h e = absurd h
earlier_place (Some p) (Some q) later h e = let f : q ≡ later = cc in (p, refl, subst (λ (x : Place). p.batch < x.batch) f h)

-- the book
pub book_stands : (job : CoreJob) (s : State) → InductiveParts job s → BookInvariant job s
book_stands job s h = record {
  legal = h.book.legal;
  objects_after = h.book.objects_after;
  batches = h.book.batches;
  among = h.book.among;
  leaves = h.book.leaves;
  operations = h.book.operations;
  sources = h.book.sources;
  in_order = λ n m u v w x a b d kind kind' call ends starts less later at.
      let started = stamped job.plan s.node s.mark s.task h.holder h.tasks m x b starts in
      earlier_place (place_of s.book u) (place_of s.book v) later
      (h.book.in_order n m u v w x a b d started.0 kind kind' call (stamped_end job.plan s.node s.mark s.task h.holder h.tasks n w a d ends) started.1 less) at;
}

-- who is booked, by the task of the worker
by_call : (s : State) (n w a : ℕ) (st : Status) (c : CallState) (b : Bool) → s.task w ≡ Started n a → s.status w ≡ st → s.call w ≡ c → is_published s.hold ≡ b
    → is_booked (Started n a) st c b ≡ true → IsBooked s n w
by_call s n w a Free NotCalled b mine f g p e = cc
by_call s n w a Free Out b mine f g p e = cc
by_call s n w a Free (Got r) b mine f g p e = inr (inr (inr (a, mine, inl (r, g))))
by_call s n w a Pending NotCalled b mine f g p e = cc
by_call s n w a Pending Out b mine f g p e = cc
by_call s n w a Pending (Got r) b mine f g p e = inr (inr (inr (a, mine, inl (r, g))))
by_call s n w a Executing NotCalled b mine f g p e = inr (inr (inr (a, mine, inr (inr (f, p ∙ e)))))
by_call s n w a Executing Out b mine f g p e = inr (inr (inr (a, mine, inr (inr (f, p ∙ e)))))
by_call s n w a Executing (Got r) b mine f g p e = inr (inr (inr (a, mine, inl (r, g))))
by_call s n w a (Served r) NotCalled b mine f g p e = inr (inr (inr (a, mine, inr (inl (r, f)))))
by_call s n w a (Served r) Out b mine f g p e = inr (inr (inr (a, mine, inr (inl (r, f)))))
by_call s n w a (Served r) (Got q) b mine f g p e = inr (inr (inr (a, mine, inl (q, g))))

-- and by its task
by_task : (s : State) (n w : ℕ) (t : Task) → s.task w ≡ t → names t ≡ Some n → is_booked t (s.status w) (s.call w) (is_published s.hold) ≡ true → IsBooked s n w
by_task s n w (Kept m a) mine name e = let f : m ≡ n = cc in inr (inl (a, rw (← f) mine))
by_task s n w (Ended m a d) mine name e = let f : m ≡ n = cc in inr (inr (inl (a, d, rw (← f) mine)))
by_task s n w (Started m a) mine name e =
    let f : m ≡ n = cc in
    by_call s n w a (s.status w) (s.call w) (is_published s.hold) (rw (← f) mine) refl refl refl (rw f at e)
by_task s n w _ mine name e = cc

-- a choice that gives a worker
if_true : (b : Bool) (v w : ℕ) → (if b then Some v else None) ≡ Some w → (b ≡ true) × (v ≡ w)
if_true true v w e = (refl, cc)
if_true false v w e = cc

-- and by how far its leaf has come
pub by_node : (s : State) (holder : ℕ → Option ℕ) (n w : ℕ) (x : Progress) (o : Option ℕ) → HoldersFit s.task holder → s.node n ≡ x → holder n ≡ o
    → booked_by x o s.task s.status s.call (is_published s.hold) ≡ Some w → IsBooked s n w
by_node s holder n w Waiting o h at held e = cc
by_node s holder n w Ready o h at held e = cc
by_node s holder n w Done o h at held e = cc
by_node s holder n w (Ran v a d) o h at held e = let f : v ≡ w = cc in inl (a, d, rw (← f) at)
by_node s holder n w Taken None h at held e = cc
by_node s holder n w Taken (Some v) h at held e =
    let f = if_true (is_booked (s.task v) (s.status v) (s.call v) (is_published s.hold)) v w e in
    subst (IsBooked s n) f.1 (by_task s n v (s.task v) refl (h.holds v n held) f.0)

-- and back
pub is_by : (s : State) (plan : Nodes) (holder : ℕ → Option ℕ) (n w : ℕ) → InductiveTasks plan s.node s.mark s.task holder → IsBooked s n w
    → booked_by (s.node n) (holder n) s.task s.status s.call (is_published s.hold) ≡ Some w
is_by s plan holder n w h (inl ran) = rw ran.2 refl
is_by s plan holder n w h (inr (inl kept)) =
    let fits : TaskFits plan s.node s.mark (Kept n kept.0) = rw kept.1 at (h.fits w) in
    rw (fits.1, h.holders.named w n (ap names kept.1), kept.1) refl
is_by s plan holder n w h (inr (inr (inl ended))) =
    let fits : TaskFits plan s.node s.mark (Ended n ended.0 ended.1) = rw ended.2 at (h.fits w) in
    rw (fits.1, h.holders.named w n (ap names ended.2), ended.2) refl
is_by s plan holder n w h (inr (inr (inr started))) =
    let fits : TaskFits plan s.node s.mark (Started n started.0) = rw started.1 at (h.fits w) in
    rw (fits.1, h.holders.named w n (ap names started.1), started.1) (known (s.status w) (s.call w) (is_published s.hold) started.2) where
      known : (st : Status) (c : CallState) (b : Bool) → ((r : Receipt) × (c ≡ Got r)) ⊎ (((r : Receipt) × (st ≡ Served r)) ⊎ ((st ≡ Executing) × (b ≡ true)))
          → (if is_booked (Started n started.0) st c b then Some w else None) ≡ Some w
      known st c b how = grind arith

-- the worker of a place
worker_of : (p : Option Place) (place : Place) → p ≡ Some place → worker_at p ≡ Some place.entry.worker
worker_of p place e = ap worker_at e

-- a place with a worker
has_worker : (p : Option Place) (w : ℕ) → worker_at p ≡ Some w → (place : Place) × (p ≡ Some place) × (place.entry.worker ≡ w)
has_worker None w e = cc
has_worker (Some place) w e = (place, refl, cc)

-- which calls are in the book
pub members_stand : (job : CoreJob) (s : State) → InductiveParts job s → MembershipInvariant job s
members_stand job s h = record {
  only = λ n leaf kind call place at.
      by_node s h.holder n place.entry.worker (s.node n) (h.holder n) h.tasks.holders refl refl
      (sym (h.booked n leaf kind call) ∙ worker_of (place_of s.book leaf) place at);
  each = λ n leaf kind call w is.
      has_worker (place_of s.book leaf) w (h.booked n leaf kind call ∙ is_by s job.plan h.holder n w h.tasks is);
}

-- Values.
valued_ran : (x : Progress) (o : Option ℕ) (task : ℕ → Task) → is_done x ≡ true → x ≢ Done → valued_by x o task ≡ true
valued_ran x o task done leaf = grind arith

-- a leaf that is to have its value has it
is_valued_by : (job : CoreJob) (s : State) (h : InductiveParts job s) (n leaf : ℕ) → job.plan.kind n ≡ Some (LeafNode leaf) → IsKept s.node s.task n → valued_by (s.node n) (h.holder n) s.task ≡ true
is_valued_by job s h n leaf kind (inl done) = valued_ran (s.node n) (h.holder n) s.task done (h.nodes.leaf_ran n leaf kind)
is_valued_by job s h n leaf kind (inr (inl kept)) =
    let fits : TaskFits job.plan s.node s.mark (Kept n kept.1) = rw kept.2 at (h.tasks.fits kept.0) in
    rw (fits.1, h.tasks.holders.named kept.0 n (ap names kept.2), kept.2) refl
is_valued_by job s h n leaf kind (inr (inr ended)) =
    let fits : TaskFits job.plan s.node s.mark (Ended n ended.1 ended.2) = rw ended.3 at (h.tasks.fits ended.0) in
    rw (fits.1, h.tasks.holders.named ended.0 n (ap names ended.3), ended.3) refl

-- the values
pub values_stand : (job : CoreJob) (s : State) → InductiveParts job s → ValuesInvariant job s
values_stand job s h = record {
  values = λ n leaf kind kept. h.values n leaf kind (is_valued_by job s h n leaf kind kept);
}

-- All parts.
pub parts_stand : (job : CoreJob) (s : State) → InductiveParts job s → Parts job s
parts_stand job s h = record {
  nodes = nodes_stand job.plan s.node h.nodes;
  tasks = tasks_stand job.plan s.node s.mark s.task h.holder h.tasks;
  ticks = ticks_stand job.plan job.workers s.node s.mark s.tick s.task h.holder h.tasks h.ticks;
  statuses = statuses_stand job s h.statuses;
  hold = h.hold;
  book = book_stands job s h;
  members = members_stand job s h;
  values = values_stand job s h;
  beyond = λ w far. let idle = h.beyond w far in let row = idle_free job s.book (s.task w) (s.status w) (s.call w) (is_taken_by s.hold w) idle (h.statuses w) in (idle, row.0, row.1);
}
