-- The opening state of a job satisfies the core's invariant.
use Rattle.std.proofs.Common.{ℕ, ◌≡◌, ◌<◌, ◌≤◌, Some, length, ap, refl, sym, subst, ◌∙◌}
use Rattle.core_model.proofs.Words.{Tree, leaves, IsPlan, IsPlanOf, core_job_with}
use Rattle.sp_order.specs.Jobs.{JobValue, IsJob, job_tree}
use Rattle.sp_order.specs.Precedence.{leaf_count}
use Rattle.sp_order.specs.Preorder.{nodes_of}
use Rattle.core_state.specs.declared.state.State.{State as StoredState}
use Rattle.core_model.specs.LeafSources.{HasSources}
use Rattle.core_model.specs.State.{opening_state, opening_core}
use Rattle.core_state.specs.Abstraction.{state_of, ready_of, core_state_of}
use Rattle.core_state.specs.Code.Sizes.{HasShop, Sizes}
use Rattle.core_state.specs.Code.Representation.{RepInvariant}
use Rattle.sp_order.proofs.PlanLemmas.Laws.{has_root}
use Rattle.core_model.proofs.BookLemmas.LeavesIn.{leaves_in}
use Rattle.core_model.proofs.BookLemmas.CallsIn.{calls_in}
use Rattle.core_model.specs.Invariant.{Invariant}
use Rattle.core_model.proofs.InvariantLemmas.Reached.{opening_invariant}

pub root_in : (tree : Tree) → IsPlanOf (nodes_of tree) tree → IsPlan (nodes_of tree) → 0 < (nodes_of tree).count
root_in tree stands laws = laws.within 0 (has_root (nodes_of tree) tree stands)

pub shown_opening : (t : StoredState) → state_of t ≡ opening_state → ready_of t ≡ opening_core.ready → core_state_of t ≡ opening_core
unfolding opening_core
shown_opening t state ready = rw (state, ready) refl

pub opening_fits : (work : ℕ → ℕ) (job : JobValue) (workers : ℕ) (t : StoredState) → 0 < workers → workers ≤ 32 → IsJob job → job.shape ≡ Some (job_tree job)
    → IsPlanOf (nodes_of (job_tree job)) (job_tree job) → IsPlan (nodes_of (job_tree job)) → HasSources (core_job_with work job workers) → (nodes_of (job_tree job)).count < 40000
    → HasShop t → Sizes t (nodes_of (job_tree job)).count workers → state_of t ≡ opening_state → ready_of t ≡ opening_core.ready → RepInvariant work job workers t
opening_fits work job workers t some few is shape stands laws sources most shop sizes state lists =
    let tree = job_tree job in
    let all : leaves tree ≡ length job.acts = sym (ap leaf_count shape) ∙ is.leaves in
    record {
      some = some;
      few = few;
      shape = shape;
      laws = laws;
      most = most;
      leaves = all;
      leaves_in = leaves_in (nodes_of tree) tree (length job.acts) stands all;
      calls_in = calls_in work job workers stands (sym all);
      sources = sources;
      sizes = sizes;
      few_acts = is.most;
      shop = shop;
      inv = subst (Invariant (core_job_with work job workers)) (sym (shown_opening t state lists))
          (opening_invariant (core_job_with work job workers) laws (has_root (nodes_of tree) tree stands) some);
    }
