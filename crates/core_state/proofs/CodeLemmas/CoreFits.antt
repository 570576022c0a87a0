-- The invariant of a core implies the preconditions of choosing a turn.
use Rattle.std.proofs.Common.{ℕ, ◌≡◌, ◌≢◌, ◌<◌, Some, arith, refl, sym, ◌∙◌}
use Rattle.core_model.proofs.Words.{Nodes, CoreJob, names}
use Rattle.core_state.specs.Words.{Progress, Task, Idle, Run, Half, Started, Kept, Ended, Whole, Handed, Free, NotCalled, Out}
use Rattle.core_state.specs.declared.state.State.{State as StoredState}
use Rattle.core_model.specs.Settings.{job_of, job_with, HasLeaf, TaskIn}
use Rattle.core_model.specs.Invariant.Statuses.{IsAtCall, is_taken_by}
use Rattle.core_model.specs.declared.setting.Setting.{Setting}
use Rattle.core_model.proofs.ChoiceLemmas.Gate.{taken_row}
use Rattle.core_model.specs.Operations.{IsLeaf}
use Rattle.core_model.specs.Invariant.Tasks.{TaskFits}
use Rattle.core_state.specs.Abstraction.{book_of, state_of}
use Rattle.core_state.specs.Code.Lookups.{CanChoose}
use Rattle.core_state.specs.Code.Representation.{Represents}
use Rattle.core_model.proofs.InvariantLemmas.InRange.{named_in}
use Rattle.core_model.proofs.BookLemmas.Room.{book_room}
use Rattle.core_state.proofs.CodeLemmas.KeptParts.{kept_parts}

task_in : (nodes : ℕ) (task : Task) → ((n : ℕ) → names task ≡ Some n → n < nodes) → TaskIn nodes task
task_in nodes Idle h = tt
task_in nodes (Run n) h = h n refl
task_in nodes (Half n) h = h n refl
task_in nodes (Started n s) h = h n refl
task_in nodes (Kept n s) h = h n refl
task_in nodes (Ended n s e) h = h n refl
task_in nodes (Whole n) h = h n refl
task_in nodes (Handed n) h = h n refl

started_leaf : (plan : Nodes) (node : ℕ → Progress) (mark : ℕ → ℕ) (task : Task) (n start : ℕ) → TaskFits plan node mark task → task ≡ Started n start → IsLeaf (plan.kind n)
started_leaf plan node mark task n start h e = (rw e at h).0

book_is : (t : StoredState) → (state_of t).book ≡ book_of t.shop
unfolding state_of
book_is t = refl

-- a worker that is at a call has started a leaf
has_leaf : (job : CoreJob) (node : ℕ → Progress) (mark : ℕ → ℕ) (task : Task) → TaskFits job.plan node mark task → IsAtCall job task → HasLeaf job.plan task
has_leaf job node mark (Started n s) fits call = fits.0
has_leaf job node mark _ fits call = absurd call

pub looks : {work : ℕ → ℕ} (setting : Setting) (t : StoredState) → Represents work setting t → CanChoose setting t
looks {work} setting t h =
    let kept = kept_parts setting.job setting.workers t h in
    let room = rw (book_is t) at (book_room (job_with work setting) (state_of t) kept h.calls_in) in
    let most = h.most in
    record {
      few = h.few;
      sizes = h.sizes;
      tasks_in = λ w. task_in (job_of setting).plan.count ((state_of t).task w) (λ n name. named_in (job_with work setting) (state_of t) h.laws kept w n name);
      at_leaf = λ w n start e. started_leaf (job_of setting).plan (state_of t).node (state_of t).mark ((state_of t).task w) n start (kept.tasks.fits w) e;
      owed = λ w taken. has_leaf (job_with work setting) (state_of t).node (state_of t).mark ((state_of t).task w) (kept.tasks.fits w)
          (taken_row (job_with work setting) (state_of t).book ((state_of t).task w) ((state_of t).status w) ((state_of t).call w) (is_taken_by (state_of t).hold w) taken (kept.statuses w)).1;
      shop = h.shop;
      leaves = rw (book_is t) at kept.book.leaves;
      few_batches = omega (arith, room.0, room.1, most);
      few_entries = omega (arith, room.0, most);
    }

-- a worker that is trapped has started a leaf
pub trapped_has_leaf : {work : ℕ → ℕ} (setting : Setting) (t : StoredState) → Represents work setting t → (w : ℕ) → (state_of t).status w ≢ Free → HasLeaf (job_of setting).plan ((state_of t).task w)
trapped_has_leaf {work} setting t h w trapped =
    let kept = kept_parts setting.job setting.workers t h in
    let out = (h.inv.parts.statuses.out w).1 trapped in
    has_leaf (job_with work setting) (state_of t).node (state_of t).mark ((state_of t).task w) (kept.tasks.fits w)
    (h.inv.parts.statuses.at_call w (λ none. let clash : NotCalled ≡ Out = sym none ∙ out in cc))
