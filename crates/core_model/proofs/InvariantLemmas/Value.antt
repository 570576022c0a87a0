-- That a leaf has its value keeps the inductive invariant.
use Rattle.std.proofs.Common.{ℕ, ◌≡◌, ◌≢◌, ◌<◌, Bool, Option, Some, None, List, arith, refl, inl, inr, sym, ◌∙◌}
use Rattle.std.proofs.lemmas.Bool.Decides.{nat_tests}
use Rattle.std.proofs.lemmas.Bool.{cases_eq}
use Rattle.seq_objects.specs.Objects.{value_of}
use Rattle.core_model.proofs.BookLemmas.Operations.{call_value}
use Rattle.core_model.proofs.Words.{Act, Work, Call, LeafNode, IsPlan, Entry, Progress, Task, Started, Kept, Status, Free, CallState, NotCalled, Out, Got, Receipt, Keep, put, CoreJob, Hold, State}
use Rattle.core_model.specs.Operations.{leaf_of, op_in, place_of, reply_at, value_under, IsReceipt, Place}
use Rattle.core_model.specs.Invariant.Tasks.{TaskFits}
use Rattle.core_model.specs.Events.{value_in, Needs}
use Rattle.core_model.specs.Invariant.Statuses.{is_taken_by}
use Rattle.core_model.specs.Invariant.Hold.{is_published, HoldInvariant}
use Rattle.core_model.proofs.Inductive.Nodes.{HoldersFit}
use Rattle.core_model.proofs.Inductive.Ticks.{stamps}
use Rattle.core_model.proofs.Inductive.Book.{StatusFits, booked_by, valued_by}
use Rattle.core_model.proofs.Inductive.Parts.{InductiveParts}
use Rattle.core_model.proofs.InvariantLemmas.Puts.{put_at, put_other}
use Rattle.core_model.proofs.InvariantLemmas.FinishTasks.{go_on}
use Rattle.core_model.proofs.InvariantLemmas.ClaimTasks.{beyond_put}
use Rattle.core_model.proofs.InvariantLemmas.TickSteps.{same_ticks}
use Rattle.core_model.proofs.InvariantLemmas.JobSide.{same_book}
use Rattle.core_model.proofs.InvariantLemmas.Leaf.{keep_stamp}
use Rattle.core_model.proofs.InvariantLemmas.StatusRows.{not_out}

-- a free worker, once its call is over
kept_row : (job : CoreJob) (book : List (List Entry)) (t u : Task) (st : Status) (c : CallState) (b : Bool) → st ≡ Free → StatusFits job book t st c b → StatusFits job book u st NotCalled b
kept_row job book t u st c b free h = grind arith

-- the hold
kept_hold : (workers : ℕ) (status : ℕ → Status) (call : ℕ → CallState) (w : ℕ) (o : Option Hold) → call w ≢ Out → HoldInvariant workers status call o → HoldInvariant workers status (put call w NotCalled) o
kept_hold workers status call w None other h = tt
kept_hold workers status call w (Some hd) other h = (grind (arith, nat_tests, h.0), h.1, h.2, h.3, h.4, h.5, h.6, h.7)

-- a leaf that calls has its value from a call that is got
got : (a : Act) (worked : Option ℕ) (c : CallState) (v : ℕ) → value_in a worked c ≡ Some v → op_in a ≢ None → (r : Receipt) × (c ≡ Got r)
got (Work k) worked c v e f = absurd (f refl)
got (Call op) worked NotCalled v e f = cc
got (Call op) worked Out v e f = cc
got (Call op) worked (Got r) v e f = (r, refl)

-- which calls are in the book
kept_booked : (node : ℕ → Progress) (task : ℕ → Task) (status : ℕ → Status) (call : ℕ → CallState) (b : Bool) (holder : ℕ → Option ℕ) (w n t m : ℕ) → HoldersFit task holder → task w ≡ Started n t
    → (m ≡ n → (r : Receipt) × (call w ≡ Got r))
    → booked_by (node m) (holder m) (put task w (Kept n t)) status (put call w NotCalled) b ≡ booked_by (node m) (holder m) task status call b
kept_booked node task status call b holder w n t m h mine called = grind (arith, nat_tests, h.holds w m)

-- a reply that a receipt tells is that of the entry
told_reply : (p : Option Place) (r : Receipt) → IsReceipt p r → Some (value_of r.reply) ≡ reply_at p
told_reply None r is = absurd is
told_reply (Some place) r is = rw is refl

-- the value that is kept is the one that the leaf has under the book
kept_under : (job : CoreJob) (book : List (List Entry)) (n t v : ℕ) (a : Act) (st : Status) (c : CallState) (b : Bool) → st ≡ Free → job.act (leaf_of (job.plan.kind n)) ≡ a
    → StatusFits job book (Started n t) st c b → value_in a (value_under job book (leaf_of (job.plan.kind n))) c ≡ Some v
    → value_under job book (leaf_of (job.plan.kind n)) ≡ Some v
kept_under job book n t v (Work k) st c b free act h e = e
kept_under job book n t v (Call op) Free NotCalled b free act h e = absurd cc
kept_under job book n t v (Call op) Free Out b free act h e = absurd h
kept_under job book n t v (Call op) Free (Got r) b free act h e =
    call_value job book (leaf_of (job.plan.kind n)) op act ∙ sym (told_reply (place_of book (leaf_of (job.plan.kind n))) r h.2) ∙ e
kept_under job book n t v (Call op) _ c b free act h e = absurd cc

-- and so by the number of the leaf
under_for : (job : CoreJob) (book : List (List Entry)) (n u v : ℕ) → job.plan.kind n ≡ Some (LeafNode u)
    → value_under job book (leaf_of (job.plan.kind n)) ≡ Some v → value_under job book u ≡ Some v
under_for job book n u v leaf e = rw leaf at e

-- which other leaves have their values
kept_valued : (node : ℕ → Progress) (task : ℕ → Task) (holder : ℕ → Option ℕ) (w n t m : ℕ) → HoldersFit task holder → task w ≡ Started n t → m ≢ n
    → valued_by (node m) (holder m) (put task w (Kept n t)) ≡ valued_by (node m) (holder m) task
kept_valued node task holder w n t m h mine other = grind (arith, nat_tests, h.holds w m)

-- the inductive invariant, after a value is kept
pub keep_keeps : (job : CoreJob) (s : State) (w n t v : ℕ) → IsPlan job.plan → w < job.workers → InductiveParts job s → Needs job s w (Keep n t v) → InductiveParts job (record s { value = put s.value n (Some v); call = put s.call w NotCalled; task = put s.task w (Kept n t) })
keep_keeps job s w n t v laws below h needs =
    let mine : s.task w ≡ Started n t = needs.1 in
    let fits : TaskFits job.plan s.node s.mark (Started n t) = rw mine at (h.tasks.fits w) in
    let same = λ (m : ℕ). keep_stamp s.node s.task h.holder w n t m h.tasks.holders mine in
    record {
      holder = h.holder;
      nodes = h.nodes;
      tasks = go_on job.plan s.node s.mark s.task h.holder w laws h.nodes h.tasks n (Kept n t) (rw mine refl) refl fits;
      beyond = beyond_put job.workers s.task w (Kept n t) below h.beyond;
      ticks = same_ticks job.plan job.workers s.node s.node s.tick (stamps s.node s.task h.holder) (stamps s.node (put s.task w (Kept n t)) h.holder) h.ticks same (λ m x a e ran. ran);
      statuses = λ x. elim (cases_eq x w) as (λ _. StatusFits job s.book (put s.task w (Kept n t) x) (s.status x) (put s.call w NotCalled x) (is_taken_by s.hold x)) [
        | inl e ↦ rw (e, put_at s.task w w (Kept n t) refl, put_at s.call w w NotCalled refl) (kept_row job s.book (s.task w) (Kept n t) (s.status w) (s.call w) (is_taken_by s.hold w) needs.0 (h.statuses w))
        | inr e ↦ rw (put_other s.task w x (Kept n t) e, put_other s.call w x NotCalled e) (h.statuses x)
      ];
      hold = kept_hold job.workers s.status s.call w s.hold (not_out job s.book (s.task w) (s.status w) (s.call w) (is_taken_by s.hold w) needs.0 (h.statuses w)) h.hold;
      book = same_book job s (stamps s.node s.task h.holder) (stamps s.node (put s.task w (Kept n t)) h.holder) same h.book;
      booked = λ m u leaf call. h.booked m u leaf call ∙ sym (kept_booked s.node s.task s.status s.call (is_published s.hold) h.holder w n t m h.tasks.holders mine
          (λ e. got (job.act (leaf_of (job.plan.kind n))) (value_under job s.book (leaf_of (job.plan.kind n))) (s.call w) v needs.2 (rw (← e, leaf) call)));
      values = λ m u leaf k. elim (cases_eq m n) [
        | inl q ↦ (v, put_at s.value n m (Some v) q, under_for job s.book n u v (rw q at leaf) (kept_under job s.book n t v (job.act (leaf_of (job.plan.kind n))) (s.status w) (s.call w) (is_taken_by s.hold w) needs.0 refl (rw mine at (h.statuses w)) needs.2))
        | inr q ↦ let is = h.values m u leaf (sym (kept_valued s.node s.task h.holder w n t m h.tasks.holders mine q) ∙ k) in (is.0, put_other s.value n m (Some v) q ∙ is.1, is.2)
      ];
    }
