-- The rest of the inductive invariant, where an event changes nodes, marks and the worker's task.
use Rattle.std.proofs.Common.{ℕ, ◌≡◌, ◌<◌, Bool, false, Option, Some, List, arith, refl, inl, inr, subst, sym, ◌∙◌}
use Rattle.std.proofs.lemmas.Bool.{cases_eq}
use Rattle.std.proofs.lemmas.Bool.Decides.{nat_tests}
use Rattle.core_model.proofs.Words.{LeafNode, Entry, Progress, Ran, Task, Free, CallState, put, CoreJob, State, is_done}
use Rattle.core_model.specs.Invariant.Statuses.{IsAtCall, is_taken_by}
use Rattle.core_model.specs.Invariant.Hold.{is_published}
use Rattle.core_model.proofs.Inductive.Nodes.{InductiveNodes, InductiveTasks}
use Rattle.core_model.proofs.Inductive.Ticks.{Stamp, stamps}
use Rattle.core_model.proofs.Inductive.Book.{StatusFits, InductiveBook, booked_by, valued_by}
use Rattle.core_model.proofs.Inductive.Parts.{InductiveParts}
use Rattle.core_model.proofs.InvariantLemmas.Puts.{put_at, put_other}
use Rattle.core_model.proofs.InvariantLemmas.ClaimTasks.{beyond_put}
use Rattle.core_model.proofs.InvariantLemmas.TickSteps.{same_ticks}

-- a free worker with another task, which is not at a call
free_status : (job : CoreJob) (book : List (List Entry)) (t u : Task) (c : CallState) (b : Bool) → (IsAtCall job t → ⊥)
    → StatusFits job book t Free c b → StatusFits job book u Free c b
free_status job book t u c b away h = grind arith

-- a free worker's row after a change of its task
pub statuses_free : (job : CoreJob) (s : State) (w : ℕ) (t : Task) → s.status w ≡ Free → (IsAtCall job (s.task w) → ⊥)
    → ((v : ℕ) → StatusFits job s.book (s.task v) (s.status v) (s.call v) (is_taken_by s.hold v))
    → (v : ℕ) → StatusFits job s.book (put s.task w t v) (s.status v) (s.call v) (is_taken_by s.hold v)
statuses_free job s w t free away h v = elim (cases_eq v w) as (λ _. StatusFits job s.book (put s.task w t v) (s.status v) (s.call v) (is_taken_by s.hold v)) [
  | inl e ↦ rw (e, put_at s.task w w t refl, free) (free_status job s.book (s.task w) t (s.call w) (is_taken_by s.hold w) away (rw free at (h w)))
  | inr e ↦ rw (put_other s.task w v t e) (h v)
]

-- the book, where each stamp is as it was
pub same_book : (job : CoreJob) (s : State) (old new : ℕ → Option Stamp) → ((n : ℕ) → new n ≡ old n) → InductiveBook job s.book s.objects old → InductiveBook job s.book s.objects new
same_book job s old new same h = subst (InductiveBook job s.book s.objects) (λ i n. sym (same n) i) h

-- a node that has run has not changed, where only one that was not done has
pub still_ran : (node : ℕ → Progress) (n : ℕ) (x : Progress) → is_done (node n) ≡ false → (m v a e : ℕ) → node m ≡ Ran v a e → put node n x m ≡ Ran v a e
still_ran node n x undone m v a e ran = grind (arith, nat_tests)

-- the inductive invariant, after an event that changes nodes, marks and the worker's task, but no stamp and no value
pub job_keeps : (job : CoreJob) (s : State) (w : ℕ) → w < job.workers → (node : ℕ → Progress) (mark : ℕ → ℕ) (t : Task) (h : InductiveParts job s) (holder : ℕ → Option ℕ) → s.status w ≡ Free → (IsAtCall job (s.task w) → ⊥)
    → InductiveNodes job.plan node → InductiveTasks job.plan node mark (put s.task w t) holder
    → ((m : ℕ) → stamps node (put s.task w t) holder m ≡ stamps s.node s.task h.holder m)
    → ((m u : ℕ) → job.plan.kind m ≡ Some (LeafNode u) → booked_by (node m) (holder m) (put s.task w t) s.status s.call (is_published s.hold) ≡ booked_by (s.node m) (h.holder m) s.task s.status s.call (is_published s.hold))
    → ((m : ℕ) → valued_by (node m) (holder m) (put s.task w t) ≡ valued_by (s.node m) (h.holder m) s.task)
    → ((n v a e : ℕ) → s.node n ≡ Ran v a e → node n ≡ Ran v a e)
    → InductiveParts job (record s { node = node; mark = mark; task = put s.task w t })
job_keeps job s w below node mark t h holder free away nodes tasks same_stamp same_booked same_valued ran = record {
  holder = holder;
  nodes = nodes;
  tasks = tasks;
  beyond = beyond_put job.workers s.task w t below h.beyond;
  ticks = same_ticks job.plan job.workers s.node node s.tick (stamps s.node s.task h.holder) (stamps node (put s.task w t) holder) h.ticks same_stamp ran;
  statuses = statuses_free job s w t free away h.statuses;
  hold = h.hold;
  book = same_book job s (stamps s.node s.task h.holder) (stamps node (put s.task w t) holder) same_stamp h.book;
  booked = λ m u leaf call. h.booked m u leaf call ∙ sym (same_booked m u leaf);
  values = λ m u leaf k. h.values m u leaf (sym (same_valued m) ∙ k);
}
