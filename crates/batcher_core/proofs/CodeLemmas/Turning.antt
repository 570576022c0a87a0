-- A turn preserves the core's invariant, and its result states its effect.
use Rattle.std.proofs.Common.{ℕ, ◌≡◌, ◌<◌, Some, None, refl, ◌∙◌}
use Rattle.sp_order.specs.Jobs.{JobValue, job_tree}
use Rattle.core_model.proofs.Words.{core_job_with}
use Rattle.core_state.specs.Words.{Event}
use Rattle.sp_order.specs.Preorder.{nodes_of}
use Rattle.core_state.specs.declared.state.State.{State as StoredState}
use Rattle.batcher_core.specs.declared.turn.Turn.TheVariants.{Moved, Idle}
use Rattle.core_model.specs.Lists.{ready_after}
use Rattle.core_model.specs.Events.{Does, Happens}
use Rattle.core_model.specs.Choice.{choice}
use Rattle.core_state.specs.Abstraction.{state_of, ready_of, core_state_of}
use Rattle.core_state.specs.Code.Sizes.{Sizes, SameSizes}
use Rattle.core_state.specs.Code.Representation.{RepInvariant}
use Rattle.batcher_core.specs.Cores.{IsTurnResult}
use Rattle.core_model.proofs.ChoiceLemmas.Choices.{none_has_no_event}
use Rattle.core_state.proofs.ChoiceLemmas.Allowed.{chosen_needs}
use Rattle.core_model.proofs.Inductive.FromParts.{event_keeps_all}
use Rattle.core_state.proofs.CodeLemmas.KeptParts.{kept_parts}

sizes_kept : (old new : StoredState) (nodes workers : ℕ) → Sizes old nodes workers → SameSizes old new → Sizes new nodes workers
sizes_kept old new nodes workers h same = record {
  nodes_len = same.nodes_same ∙ h.nodes_len;
  marks_len = same.marks_same ∙ h.marks_len;
  values_len = same.values_same ∙ h.values_len;
  tasks_len = same.tasks_same ∙ h.tasks_len;
  statuses_len = same.statuses_same ∙ h.statuses_len;
  calls_len = same.calls_same ∙ h.calls_len;
  ready_len = same.ready_same ∙ h.ready_len;
}

module _ {work : ℕ → ℕ} (job : JobValue) (workers : ℕ) (old new : StoredState) (w : ℕ) (event : Event) (h : RepInvariant work job workers old) (below : w < workers)
    (chosen : choice (core_job_with work job workers) (core_state_of old) w ≡ Some event) (does : Does (core_job_with work job workers) (state_of old) w event (state_of new))
    (lists : ready_of new ≡ ready_after w event (ready_of old)) where
  happens : Happens (core_job_with work job workers) (state_of old) w event (state_of new)
  happens = record { worker_in = below; needs = chosen_needs job workers old w h below event chosen; does = does }

  -- after the chosen event the stored state satisfies its invariant
  pub fits_after : SameSizes old new → RepInvariant work job workers new
  fits_after same = record {
    some = h.some;
    few = h.few;
    shape = h.shape;
    laws = h.laws;
    most = h.most;
    leaves = h.leaves;
    leaves_in = h.leaves_in;
    calls_in = h.calls_in;
    sources = h.sources;
    sizes = sizes_kept old new (nodes_of (job_tree job)).count workers h.sizes same;
    few_acts = h.few_acts;
    shop = same.shop_same h.shop;
    inv = event_keeps_all (core_job_with work job workers) (core_state_of old) (core_state_of new) w event h.laws h.inv
        (record { happens = happens; lists = lists });
  }

  -- an event was chosen and has happened
  pub makes_event : IsTurnResult Moved (core_job_with work job workers) (core_state_of old) w (core_state_of new)
  makes_event = (event, chosen, record { happens = happens; lists = lists })

-- none was chosen, and none can happen
pub makes_none : {work : ℕ → ℕ} (job : JobValue) (workers : ℕ) (old : StoredState) (w : ℕ)
    → RepInvariant work job workers old → w < workers → choice (core_job_with work job workers) (core_state_of old) w ≡ None
    → IsTurnResult Idle (core_job_with work job workers) (core_state_of old) w (core_state_of old)
makes_none {work} job workers old w h below none =
    (refl, λ event next is. none_has_no_event (core_job_with work job workers) (core_state_of old) w h.laws h.sources below (kept_parts job workers old h) h.inv.lists none event is.happens.needs)
