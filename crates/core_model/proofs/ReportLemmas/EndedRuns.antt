-- What is known of a state whose root is done, of its leaves and its workers.
use Rattle.std.proofs.Common.{ℕ, ◌≡◌, ◌≢◌, ◌<◌, true, None, Some, inl, refl, sym, ◌∙◌}
use Rattle.core_model.proofs.Words.{LeafNode, Tree, leaves, IsPlan, IsPlanOf, Progress, Done, Ran, Idle, CoreJob, State, is_done}
use Rattle.core_model.specs.Ranges.{LeafIn}
use Rattle.core_model.specs.Invariant.{Parts}
use Rattle.core_model.specs.Reports.{HasRun}
use Rattle.core_model.proofs.ReportLemmas.RootDone.{each_done, each_idle}
use Rattle.core_model.proofs.BookLemmas.LeavesIn.{leaves_in}

pub record IsEnded (job : CoreJob) (total : ℕ) (s : State) : Type 0 where
  pub parts : Parts job s
  pub idle : (w : ℕ) → s.task w ≡ Idle
  -- each leaf has its node, and has run
  pub kind : (leaf : ℕ) → leaf < total → job.plan.kind (job.plan.node_of leaf) ≡ Some (LeafNode leaf)
  pub ran : (leaf : ℕ) → leaf < total → HasRun (s.node (job.plan.node_of leaf))
  -- there are no others
  pub below : (n leaf : ℕ) → job.plan.kind n ≡ Some (LeafNode leaf) → leaf < total
  pub only : (n leaf : ℕ) → job.plan.kind n ≡ Some (LeafNode leaf) → n ≡ job.plan.node_of leaf

-- a leaf that is done has run
has_run : (progress : Progress) → is_done progress ≡ true → progress ≢ Done → HasRun progress
has_run Done done not = absurd (not refl)
has_run (Ran w s e) done not = (w, s, e, refl)
has_run _ done not = cc

-- a state whose root is done
pub run_ended : (job : CoreJob) (tree : Tree) (s : State) → IsPlanOf job.plan tree → IsPlan job.plan
    → ((leaf : ℕ) → leaf < leaves tree → job.plan.kind (job.plan.node_of leaf) ≡ Some (LeafNode leaf)) → Parts job s → is_done (s.node 0) ≡ true
    → IsEnded job (leaves tree) s
run_ended job tree s plan laws kind parts done = record {
  parts = parts;
  idle = each_idle job s laws parts done;
  kind = kind;
  ran = λ leaf low.
      has_run (s.node (job.plan.node_of leaf)) (each_done job s laws parts done (job.plan.node_of leaf) (λ none. let e = sym none ∙ kind leaf low in cc))
      (parts.nodes.leaf_ran (job.plan.node_of leaf) (leaf, kind leaf low));
  below = λ n leaf is. let low : LeafIn (leaves tree) (Some (LeafNode leaf)) = rw is at (leaves_in job.plan tree (leaves tree) plan refl n) in low;
  only = laws.one_node;
}

-- and of its leaves
pub leaf_ended : (job : CoreJob) (total : ℕ) (s : State) → IsEnded job total s → (leaf : ℕ) → leaf < total → HasRun (s.node (job.plan.node_of leaf)) × (s.value (job.plan.node_of leaf) ≢ None)
leaf_ended job total s h leaf low =
    let ran = h.ran leaf low in
    let value = h.parts.values.values (job.plan.node_of leaf) leaf (h.kind leaf low) (inl (rw ran.3 refl)) in
    (ran, λ none. let e = sym value.1 ∙ none in cc)
