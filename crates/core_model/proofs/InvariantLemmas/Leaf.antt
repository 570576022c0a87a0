-- A start and an end keep the inductive invariant.
use Rattle.std.proofs.Common.{ℕ, ◌≡◌, ◌≢◌, ◌<◌, ◌+◌, Bool, Option, Some, None, List, arith, refl, inl, inr, subst, sym, ◌∙◌, ap}
use Rattle.std.proofs.lemmas.Bool.Decides.{nat_tests}
use Rattle.std.proofs.lemmas.Bool.{cases_eq}
use Rattle.core_model.proofs.Words.{LeafNode, Nodes, IsPlan, Entry, Progress, Waiting, Taken, Task, Run, Started, Kept, Ended, Status, Free, CallState, NotCalled, Start, End, put, CoreJob, State}
use Rattle.core_model.specs.Operations.{IsCall, Place, place_of}
use Rattle.core_model.specs.Invariant.Tasks.{TaskFits}
use Rattle.core_model.specs.Events.{Needs}
use Rattle.core_model.specs.Invariant.Statuses.{IsAtCall, is_taken_by}
use Rattle.core_model.specs.Invariant.Hold.{is_published}
use Rattle.core_model.proofs.Inductive.Nodes.{HoldersFit}
use Rattle.core_model.proofs.Inductive.Ticks.{Stamp, stamp, stamps, RanBefore, ComesBefore, InductiveTicks}
use Rattle.core_model.proofs.BookLemmas.Operations.{is_call}
use Rattle.core_model.proofs.Inductive.Book.{StatusFits, EntryFits, IsEarlier, InductiveBook, booked_by, worker_at, valued_by}
use Rattle.core_model.proofs.Inductive.Parts.{InductiveParts}
use Rattle.core_model.proofs.InvariantLemmas.Puts.{put_at, put_other}
use Rattle.core_model.proofs.InvariantLemmas.FinishTasks.{go_on}
use Rattle.core_model.proofs.InvariantLemmas.ClaimTasks.{beyond_put}
use Rattle.core_model.proofs.InvariantLemmas.TickSteps.{start_ticks, end_ticks, before_ran}
use Rattle.core_model.proofs.InvariantLemmas.JobSide.{statuses_free}

-- the stamps after a start
start_stamp : (node : ℕ → Progress) (task : ℕ → Task) (holder : ℕ → Option ℕ) (w n t m : ℕ) → HoldersFit task holder → task w ≡ Run n → node n ≡ Taken
    → stamps node (put task w (Started n t)) holder m ≡ put (stamps node task holder) n (Some (stamp w t None)) m
start_stamp node task holder w n t m h mine taken = grind (arith, nat_tests, h.holds w m, h.named w n)

-- the stamps after an end
end_stamp : (node : ℕ → Progress) (task : ℕ → Task) (holder : ℕ → Option ℕ) (w n s t m : ℕ) → HoldersFit task holder → task w ≡ Kept n s → node n ≡ Taken
    → stamps node (put task w (Ended n s t)) holder m ≡ put (stamps node task holder) n (Some (stamp w s (Some t))) m
end_stamp node task holder w n s t m h mine taken = grind (arith, nat_tests, h.holds w m, h.named w n)

-- and after a value is kept
pub keep_stamp : (node : ℕ → Progress) (task : ℕ → Task) (holder : ℕ → Option ℕ) (w n s m : ℕ) → HoldersFit task holder → task w ≡ Started n s
    → stamps node (put task w (Kept n s)) holder m ≡ stamps node task holder m
keep_stamp node task holder w n s m h mine = grind (arith, nat_tests, h.holds w m)

-- whether an entry is in the book, after a start, an end or a leaf's finish
start_booked : (node : ℕ → Progress) (task : ℕ → Task) (status : ℕ → Status) (call : ℕ → CallState) (b : Bool) (holder : ℕ → Option ℕ) (w n t m : ℕ) → HoldersFit task holder → task w ≡ Run n
    → status w ≡ Free → call w ≡ NotCalled
    → booked_by (node m) (holder m) (put task w (Started n t)) status call b ≡ booked_by (node m) (holder m) task status call b
start_booked node task status call b holder w n t m h mine free called = grind (arith, nat_tests, h.holds w m)

-- and after an end
end_booked : (node : ℕ → Progress) (task : ℕ → Task) (status : ℕ → Status) (call : ℕ → CallState) (b : Bool) (holder : ℕ → Option ℕ) (w n s t m : ℕ) → HoldersFit task holder → task w ≡ Kept n s
    → booked_by (node m) (holder m) (put task w (Ended n s t)) status call b ≡ booked_by (node m) (holder m) task status call b
end_booked node task status call b holder w n s t m h mine = grind (arith, nat_tests, h.holds w m)

-- which leaves have their values, after a start
start_valued : (node : ℕ → Progress) (task : ℕ → Task) (holder : ℕ → Option ℕ) (w n t m : ℕ) → HoldersFit task holder → task w ≡ Run n
    → valued_by (node m) (holder m) (put task w (Started n t)) ≡ valued_by (node m) (holder m) task
start_valued node task holder w n t m h mine = grind (arith, nat_tests, h.holds w m)

-- and after an end
end_valued : (node : ℕ → Progress) (task : ℕ → Task) (holder : ℕ → Option ℕ) (w n s t m : ℕ) → HoldersFit task holder → task w ≡ Kept n s
    → valued_by (node m) (holder m) (put task w (Ended n s t)) ≡ valued_by (node m) (holder m) task
end_valued node task holder w n s t m h mine = grind (arith, nat_tests, h.holds w m)

-- a free worker that isn't at a call has no call
not_called : (job : CoreJob) (book : List (List Entry)) (t : Task) (c : CallState) (b : Bool) → (IsAtCall job t → ⊥) → StatusFits job book t Free c b → c ≡ NotCalled
not_called job book t c b away h = grind arith

-- what has no place stands before nothing
no_place : (p : Option Place) → worker_at p ≡ None → (o : Option Place) → IsEarlier o p
no_place None e o = tt
no_place (Some p) e o = cc

-- the leaf that is to start has no stamp
running_none : (node : ℕ → Progress) (task : ℕ → Task) (holder : ℕ → Option ℕ) (w n : ℕ) → HoldersFit task holder → task w ≡ Run n → node n ≡ Taken → stamps node task holder n ≡ None
running_none node task holder w n h mine taken = grind (arith, h.named w n)

-- the other leaves of its worker have ends
running_old : (node : ℕ → Progress) (task : ℕ → Task) (holder : ℕ → Option ℕ) (w n m s : ℕ) (e : Option ℕ) → HoldersFit task holder → task w ≡ Run n → stamps node task holder m ≡ Some (stamp w s e) → e ≢ None
running_old node task holder w n m s e h mine k = grind (arith, h.holds w m)

-- the leaf that is to start is not in the book
running_not_booked : (node : ℕ → Progress) (task : ℕ → Task) (holder : ℕ → Option ℕ) (status : ℕ → Status) (call : ℕ → CallState) (b : Bool) (w n : ℕ) → HoldersFit task holder → task w ≡ Run n → node n ≡ Taken
    → booked_by (node n) (holder n) task status call b ≡ None
running_not_booked node task holder status call b w n h mine taken = grind (arith, h.named w n)

-- what has run is not taken
ran_apart : (x : Progress) (t : ℕ) → RanBefore x t → x ≢ Taken
ran_apart x t h e = grind arith

-- where a leaf that is before another one is taken, the other has no stamp
not_after_at : (plan : Nodes) (workers : ℕ) (node : ℕ → Progress) (tick : ℕ) (old : ℕ → Option Stamp) (n m : ℕ) (o : Option Stamp) → InductiveTicks plan workers node tick old → ComesBefore plan n m → node n ≡ Taken
    → old m ≡ o → o ≡ None
not_after_at plan workers node tick old n m None h b taken e = refl
not_after_at plan workers node tick old n m (Some x) h b taken e = absurd (ran_apart (node n) x.start (h.in_order n m x.worker x.start x.end b e) taken)

-- and so, for its own stamp
not_after : (plan : Nodes) (workers : ℕ) (node : ℕ → Progress) (tick : ℕ) (old : ℕ → Option Stamp) (n m : ℕ) → InductiveTicks plan workers node tick old → ComesBefore plan n m → node n ≡ Taken → old m ≡ None
not_after plan workers node tick old n m h b taken = not_after_at plan workers node tick old n m (old m) h b taken refl

-- a stamp with an end is not the new one
not_new : (old : ℕ → Option Stamp) (n w t k x a d : ℕ) → put old n (Some (stamp w t None)) k ≡ Some (stamp x a (Some d)) → old k ≡ Some (stamp x a (Some d))
not_new old n w t k x a d i = grind (arith, nat_tests)

-- the book, when the leaf n, which isn't in it, has started
start_book : (job : CoreJob) (s : State) (old : ℕ → Option Stamp) (n w : ℕ) → InductiveBook job s.book s.objects old
    → ((u : ℕ) → job.plan.kind n ≡ Some (LeafNode u) → (o : Option Place) → IsEarlier o (place_of s.book u))
    → InductiveBook job s.book s.objects (put old n (Some (stamp w s.tick None)))
start_book job s old n w h out = record {
  legal = h.legal;
  objects_after = h.objects_after;
  batches = h.batches;
  leaves = h.leaves;
  among = h.among;
  operations = h.operations;
  sources = h.sources;
  entries = h.entries;
  in_order = λ k m u v x y a t d e lk lm call i j l. elim (cases_eq m n) [
    | inl q ↦ out v (rw q at lm) (place_of s.book u)
    | inr q ↦ h.in_order k m u v x y a t d e lk lm call (not_new old n w s.tick k x a d i) (sym (put_other old n m (Some (stamp w s.tick None)) q) ∙ j) l
  ];
}

-- a work leaf isn't in the book
out_of_book : (job : CoreJob) (s : State) (u : ℕ) → ((p : Place) → place_of s.book u ≡ Some p → EntryFits job s.book u p)
    → (IsCall job u → worker_at (place_of s.book u) ≡ None) → worker_at (place_of s.book u) ≡ None
out_of_book job s u entries call = elim (place_of s.book u) as (λ o. place_of s.book u ≡ o → worker_at (place_of s.book u) ≡ None) [
  | None ↦ λ e. ap worker_at e
  | Some p ↦ λ e. call (is_call job s.book u p.entry.op (entries p e).0)
] refl

-- the inductive invariant, after a start
pub start_keeps : (job : CoreJob) (s : State) (w n : ℕ) → IsPlan job.plan → w < job.workers → InductiveParts job s → Needs job s w (Start n) → InductiveParts job (record s { tick = s.tick + 1; task = put s.task w (Started n s.tick) })
start_keeps job s w n laws below h needs =
    let mine : s.task w ≡ Run n = needs.1 in
    let fits : TaskFits job.plan s.node s.mark (Run n) = rw mine at (h.tasks.fits w) in
    let taken : s.node n ≡ Taken = fits.0 in
    let old : ℕ → Option Stamp = stamps s.node s.task h.holder in
    let new : ℕ → Option Stamp = stamps s.node (put s.task w (Started n s.tick)) h.holder in
    let away : IsAtCall job (s.task w) → ⊥ = rw mine (λ x. x) in
    let same : put old n (Some (stamp w s.tick None)) ≡ new = λ i m. sym (start_stamp s.node s.task h.holder w n s.tick m h.tasks.holders mine taken) i in
    let none : old n ≡ None = running_none s.node s.task h.holder w n h.tasks.holders mine taken in
    let called : s.call w ≡ NotCalled = not_called job s.book (s.task w) (s.call w) (is_taken_by s.hold w) away (rw needs.0 at (h.statuses w)) in
    let there : s.node n ≢ Waiting = grind arith in
    record {
      holder = h.holder;
      nodes = h.nodes;
      tasks = go_on job.plan s.node s.mark s.task h.holder w laws h.nodes h.tasks n (Started n s.tick) (rw mine refl) refl (needs.2, taken);
      beyond = beyond_put job.workers s.task w (Started n s.tick) below h.beyond;
      ticks = subst (InductiveTicks job.plan job.workers s.node (s.tick + 1)) same
          (start_ticks job.plan job.workers s.node s.tick old w n h.ticks below none
          (λ m t e k. running_old s.node s.task h.holder w n m t e h.tasks.holders mine k)
          (λ m b. before_ran job.plan job.workers s.node s.tick s.task h.holder m n h.nodes h.ticks b there)
          (λ m b. not_after job.plan job.workers s.node s.tick old n m h.ticks b taken)
          (λ m b e. ran_apart (s.node m) s.tick (before_ran job.plan job.workers s.node s.tick s.task h.holder m n h.nodes h.ticks b there) (rw e taken)));
      statuses = statuses_free job s w (Started n s.tick) needs.0 away h.statuses;
      hold = h.hold;
      book = subst (InductiveBook job s.book s.objects) same (start_book job s old n w h.book
          (λ u leaf o. no_place (place_of s.book u) (out_of_book job s u (h.book.entries u) (λ call. h.booked n u leaf call ∙ running_not_booked s.node s.task h.holder s.status s.call (is_published s.hold) w n h.tasks.holders mine taken)) o));
      booked = λ m u leaf call. h.booked m u leaf call ∙ sym (start_booked s.node s.task s.status s.call (is_published s.hold) h.holder w n s.tick m h.tasks.holders mine needs.0 called);
      values = λ m u leaf k. h.values m u leaf (sym (start_valued s.node s.task h.holder w n s.tick m h.tasks.holders mine) ∙ k);
    }

-- no leaf starts after the tick that is drawn now
too_late : (old : ℕ → Option Stamp) (n w t k m y b d : ℕ) (e : Option ℕ) {x a : ℕ} → ((f : Option ℕ) → old m ≡ Some (stamp y b f) → b < k) → t < k
    → Some (stamp w t (Some k)) ≡ Some (stamp x a (Some d)) → put old n (Some (stamp w t (Some k))) m ≡ Some (stamp y b e) → d < b → ⊥
too_late old n w t k m y b d e {x} {a} low low_n i j l = grind (arith, nat_tests, low e)

-- what holds of a stamp without its end holds with it
end_order : (job : CoreJob) (s : State) (old : ℕ → Option Stamp) (n w t m y b : ℕ) (e : Option ℕ) {P Q : Type 0} {l : Type 0} → P → ((f : Option ℕ) → P → old m ≡ Some (stamp y b f) → l → Q)
    → old n ≡ Some (stamp w t None) → put old n (Some (stamp w t (Some s.tick))) m ≡ Some (stamp y b e) → l → Q
end_order job s old n w t m y b e p h was j l = elim (cases_eq m n) [
  | inl q ↦ h None p (rw q (grind (arith, nat_tests))) l
  | inr q ↦ h e p (sym (put_other old n m (Some (stamp w t (Some s.tick))) q) ∙ j) l
]

-- the book, when the leaf n, which is in it, ends
end_book : (job : CoreJob) (s : State) (old : ℕ → Option Stamp) (n w t : ℕ) → InductiveBook job s.book s.objects old
    → ((m v b : ℕ) (e : Option ℕ) → old m ≡ Some (stamp v b e) → b < s.tick) → old n ≡ Some (stamp w t None)
    → InductiveBook job s.book s.objects (put old n (Some (stamp w t (Some s.tick))))
end_book job s old n w t h low was = record {
  legal = h.legal;
  objects_after = h.objects_after;
  batches = h.batches;
  leaves = h.leaves;
  among = h.among;
  operations = h.operations;
  sources = h.sources;
  entries = h.entries;
  in_order = λ k m u v x y a b d e lk lm call i j l. elim (cases_eq k n) [
    | inl q ↦ absurd (too_late old n w t s.tick m y b d e (low m y b) (low n w t None was) (sym (put_at old n k (Some (stamp w t (Some s.tick))) q) ∙ i) j l)
    | inr q ↦ end_order job s old n w t m y b e (sym (put_other old n k (Some (stamp w t (Some s.tick))) q) ∙ i) (λ f. h.in_order k m u v x y a b d f lk lm call) was j l
  ];
}

-- the stamp of the leaf that is to end
kept_stamp : (node : ℕ → Progress) (task : ℕ → Task) (holder : ℕ → Option ℕ) (w n t : ℕ) → HoldersFit task holder → task w ≡ Kept n t → node n ≡ Taken
    → stamps node task holder n ≡ Some (stamp w t None)
kept_stamp node task holder w n t h mine taken = grind (arith, h.named w n)

-- the inductive invariant, after an end
pub end_keeps : (job : CoreJob) (s : State) (w n t : ℕ) → IsPlan job.plan → w < job.workers → InductiveParts job s → Needs job s w (End n t) → InductiveParts job (record s { tick = s.tick + 1; task = put s.task w (Ended n t s.tick) })
end_keeps job s w n t laws below h needs =
    let mine : s.task w ≡ Kept n t = needs.1 in
    let fits : TaskFits job.plan s.node s.mark (Kept n t) = rw mine at (h.tasks.fits w) in
    let old : ℕ → Option Stamp = stamps s.node s.task h.holder in
    let new : ℕ → Option Stamp = stamps s.node (put s.task w (Ended n t s.tick)) h.holder in
    let away : IsAtCall job (s.task w) → ⊥ = rw mine (λ x. x) in
    let same : put old n (Some (stamp w t (Some s.tick))) ≡ new = λ i m. sym (end_stamp s.node s.task h.holder w n t s.tick m h.tasks.holders mine fits.1) i in
    let was : old n ≡ Some (stamp w t None) = kept_stamp s.node s.task h.holder w n t h.tasks.holders mine fits.1 in
    record {
      holder = h.holder;
      nodes = h.nodes;
      tasks = go_on job.plan s.node s.mark s.task h.holder w laws h.nodes h.tasks n (Ended n t s.tick) (rw mine refl) refl fits;
      beyond = beyond_put job.workers s.task w (Ended n t s.tick) below h.beyond;
      ticks = subst (InductiveTicks job.plan job.workers s.node (s.tick + 1)) same (end_ticks job.plan job.workers s.node s.tick old w n t h.ticks was);
      statuses = statuses_free job s w (Ended n t s.tick) needs.0 away h.statuses;
      hold = h.hold;
      book = subst (InductiveBook job s.book s.objects) same (end_book job s old n w t h.book (λ m v b e k. (h.ticks.start_drawn m v b e k).1) was);
      booked = λ m u leaf call. h.booked m u leaf call ∙ sym (end_booked s.node s.task s.status s.call (is_published s.hold) h.holder w n t s.tick m h.tasks.holders mine);
      values = λ m u leaf k. h.values m u leaf (sym (end_valued s.node s.task h.holder w n t s.tick m h.tasks.holders mine) ∙ k);
    }
