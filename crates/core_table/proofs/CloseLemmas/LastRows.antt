-- The rows that are read from the words of a closed table.
use Rattle.std.proofs.Common.{ℕ, ◌≡◌, ◌≢◌, ◌<◌, ◌≤◌, Option as Maybe, None, Some, List, length, get_or, arith, refl, sym, ap, ◌∙◌}
use Rattle.limits.specs.declared.TheConstants.{MOST_WORKERS}
use Rattle.table_rule.specs.declared.progress.TheConstants.{TICKS}
use Rattle.std.specs.List.{AllByRecursion}
use Rattle.batch_history.specs.declared.row.Row.{Row}
use Rattle.sp_order.specs.declared.node.Kind.TheVariants.{LeafNode}
use Rattle.sp_order.specs.Plans.{Nodes, IsPlan}
use Rattle.core_model.specs.declared.progress.Progress.TheVariants.{Ran}
use Rattle.core_model.specs.State.{CoreJob, State}
use Rattle.core_model.specs.Invariant.Ticks.{start_of as start_of_node}
use Rattle.core_model.specs.Invariant.{Parts}
use Rattle.core_model.specs.Reports.{HasRun, IsRowOf}
use Rattle.table_rule.specs.Words.{node_at, value_at, progress_code, worker_in, start_in, end_in, HasValue, WordsShow}
use Rattle.table_rule.specs.Laws.{Laws}
use Rattle.core_table.specs.Closing.{RowInWords}
use Rattle.table_rule.proofs.TableLemmas.Words.{worker_of, start_of, end_of}
use Rattle.seq_objects.proofs.Elements.{each_so}

value_is : (o : Maybe ℕ) (word : ℕ) → o ≢ None → HasValue o word → o ≡ Some word
value_is None word some_value h = absurd (some_value refl)
value_is (Some v) word some_value h = ap Some (sym h)

-- the row of one leaf
row_told : (job : CoreJob) (laws : Laws job) (s : State) (ws : List ℕ) (leaf_total : ℕ) (kept : Parts job s) → job.workers ≤ MOST_WORKERS
    → WordsShow job.workers job.plan.count ws s.node s.mark s.value s.status s.hold s.tick (length s.book)
    → ((leaf : ℕ) → leaf < leaf_total → job.plan.node_of leaf < job.plan.count)
    → ((leaf : ℕ) → leaf < leaf_total → HasRun (s.node (job.plan.node_of leaf)) × (s.value (job.plan.node_of leaf) ≢ None))
    → (row : Row) → RowInWords job.workers job.plan.count leaf_total job.plan.node_of ws row → IsRowOf job s row
row_told job laws s ws leaf_total kept few shown inside ran row told =
    let n = job.plan.node_of row.leaf in
    let r = (ran row.leaf told.low).0 in
    let below = inside row.leaf told.low in
    let worker_low = kept.ticks.among n r.0 r.1 r.2 r.3 in
    let start_low = kept.ticks.only (start_of_node n) r.1 (r.0, r.2, r.3) in
    let most = laws.ticks s kept in
    let worker_fits : r.0 < MOST_WORKERS = omega (arith, worker_low, few) in
    let start_fits : r.1 < TICKS = omega (arith, start_low, most, laws.few) in
    let word : get_or ws (node_at job.workers n) 0 ≡ progress_code (Ran r.0 r.1 r.2) = shown.progress n below ∙ ap progress_code r.3 in
    let a : row.worker ≡ r.0 = told.worker ∙ (ap worker_in word ∙ worker_of r.0 r.1 r.2 worker_fits) in
    let b : row.start ≡ r.1 = told.start ∙ (ap start_in word ∙ start_of r.0 r.1 r.2 worker_fits start_fits) in
    let c : row.end ≡ r.2 = told.end ∙ (ap end_in word ∙ end_of r.0 r.1 r.2 worker_fits start_fits) in
    let v = value_is (s.value n) (get_or ws (value_at job.workers job.plan.count n) 0) (ran row.leaf told.low).1 (shown.values n below) in
    record {
      ran = r.3 ∙ (λ i. Ran (sym a i) (sym b i) (sym c i));
      value = v ∙ ap Some (sym told.value);
    }

pub rows_told : (job : CoreJob) (laws : Laws job) (s : State) (ws : List ℕ) (leaf_total : ℕ) (kept : Parts job s) → job.workers ≤ MOST_WORKERS
    → WordsShow job.workers job.plan.count ws s.node s.mark s.value s.status s.hold s.tick (length s.book)
    → ((leaf : ℕ) → leaf < leaf_total → job.plan.node_of leaf < job.plan.count)
    → ((leaf : ℕ) → leaf < leaf_total → HasRun (s.node (job.plan.node_of leaf)) × (s.value (job.plan.node_of leaf) ≢ None))
    → (rows : List Row) → AllByRecursion (RowInWords job.workers job.plan.count leaf_total job.plan.node_of ws) rows → AllByRecursion (IsRowOf job s) rows
rows_told job laws s ws leaf_total kept few shown inside ran rows told =
    each_so (RowInWords job.workers job.plan.count leaf_total job.plan.node_of ws) (IsRowOf job s) (row_told job laws s ws leaf_total kept few shown inside ran) rows told

pub leaf_in : (plan : Nodes) (leaf : ℕ) → IsPlan plan → plan.kind (plan.node_of leaf) ≡ Some (LeafNode leaf) → plan.node_of leaf < plan.count
leaf_in plan leaf laws kind = laws.within (plan.node_of leaf) (λ e. let f = sym kind ∙ e in absurd (cc))
