use Rattle.std.proofs.Common.{ℕ, zero, suc, ◌≡◌, ◌≢◌, ◌<◌, ◌↔◌, Option, Some, None, List, [], ◌∷◌, length, refl, subst, sym, ap, ◌∙◌}
use Rattle.std.specs.Prelude.{slice_get, slice_index_or}
use Rattle.std.proofs.lemmas.Option.{get_or_from_slice_get, slice_get_within}
use Rattle.sp_order.specs.Jobs.{JobValue}
use Rattle.sp_order.specs.PlanOf.{IsPlanOf}
use Rattle.sp_order.specs.Precedence.{Tree, IsBefore, leaf_count, leaves}
use Rattle.sp_order.specs.Preorder.{nodes_of}
use Rattle.sp_order.specs.Sources.{IsSource, MayTake}
use Rattle.core_model.proofs.Words.{Act, Work, Call, LeafNode, IsBySeries, core_job_with}
use Rattle.core_model.specs.LeafSources.{IsSourceAt}
use Rattle.core_model.specs.Operations.{op_in}
use Rattle.core_model.proofs.laws.book.job_has_its_sources.Goals as goal

-- the source of a leaf stands in the list
listed : (sources : List (Option ℕ)) (leaf source : ℕ) → slice_index_or sources leaf None ≡ Some source → slice_get sources leaf ≡ Some (Some source)
listed [] leaf source is = cc
listed (x ∷ xs) zero source is = ap Some is
listed (x ∷ xs) (suc leaf) source is = listed xs leaf source is

-- what holds of the plan of a tree
record Planned (tree : Tree) : Type 0 where
  node : (leaf n : ℕ) → leaf < leaves tree → ((nodes_of tree).kind n ≡ Some (LeafNode leaf)) ↔ (n ≡ (nodes_of tree).node_of leaf)
  series : (u v : ℕ) → u < leaves tree → v < leaves tree → IsBefore (Some tree) u v → IsBySeries (nodes_of tree) ((nodes_of tree).node_of u) ((nodes_of tree).node_of v)

abbrev job_with : Option Tree → JobValue → JobValue
job_with shape job = record job { shape = shape }

-- where the act of a leaf may take the value of another's, and works, the other calls
giver_calls : (act from : Act) → MayTake act from → op_in act ≡ None → op_in from ≢ None
giver_calls (Work steps) (Work other) takes works none = absurd takes.1
giver_calls (Work steps) (Call op) takes works none = cc
giver_calls (Call op) from takes works none = cc

at_source : (work : ℕ → ℕ) → ((tree : Tree) → Planned tree) → (shape : Option Tree) (job : JobValue) (workers n leaf source : ℕ)
    → leaf_count shape ≡ length job.acts → IsSource shape job.acts leaf source → (core_job_with work (job_with shape job) workers).plan.kind n ≡ Some (LeafNode leaf)
    → IsSourceAt (core_job_with work (job_with shape job) workers) n leaf source
at_source work planned None job workers n leaf source fits is kind = absurd is.before
at_source work planned (Some tree) job workers n leaf source fits is kind =
    let plan = planned tree in
    let low : leaf < leaves tree = rw fits (slice_get_within job.acts leaf is.act is.is) in
    let low' : source < leaves tree = rw fits (slice_get_within job.acts source is.from is.stands) in
    let taking = get_or_from_slice_get job.acts leaf is.act (Work 0) is.is in
    let giving = get_or_from_slice_get job.acts source is.from (Work 0) is.stands in
    record {
      calls = λ works none. giver_calls is.act is.from is.takes (ap op_in (sym taking) ∙ works) (ap op_in (sym giving) ∙ none);
      stands = (plan.node source ((nodes_of tree).node_of source) low').1 refl;
      before = subst (IsBySeries (nodes_of tree) ((nodes_of tree).node_of source)) (sym ((plan.node leaf n low).0 kind)) (plan.series source leaf low' low is.before);
    }

pub returns : goal.returns
returns c work job workers is n leaf source kind of =
    at_source work
    (λ tree. let stands : IsPlanOf (nodes_of tree) tree = c.plan_stands_for_tree.ensures tree in record {
      node = λ leaf n low. c.leaf_has_one_node.ensures (nodes_of tree) tree stands leaf n low;
      series = λ u v low low' before. (c.before_is_by_series.ensures (nodes_of tree) tree stands u v low low').0 before;
    })
    job.shape job workers n leaf source is.leaves (is.sources.each leaf source (listed job.sources leaf source of)) kind
