-- A state has one report at most.
use Rattle.std.proofs.Common.{ℕ, ◌≡◌, List, [], ◌∷◌, map, refl, sym, ◌∙◌, ap}
use Rattle.std.specs.List.{AllByRecursion}
use Rattle.batch_history.specs.declared.row.Row.{Row}
use Rattle.batch_history.specs.declared.report.Report.{Report}
use Rattle.core_model.proofs.Words.{Ran, CoreJob, State}
use Rattle.core_model.specs.Reports.{IsRowOf, IsReportOf}
use Rattle.std.proofs.lemmas.Option.{same_Some}

-- a leaf ran once
pub same_ran : (v w s t d e : ℕ) → Ran v s d ≡ Ran w t e → (v ≡ w) × (s ≡ t) × (d ≡ e)
same_ran v w s t d e h = (cc, cc, cc)

module _ (job : CoreJob) (s : State) where
  -- a row is determined by its leaf
  one_row : (a b : Row) → a.leaf ≡ b.leaf → IsRowOf job s a → IsRowOf job s b → a ≡ b
  one_row a b leaf h g =
      let ran = same_ran a.worker b.worker a.start b.start a.end b.end (sym h.ran ∙ ap (λ l. s.node (job.plan.node_of l)) leaf ∙ g.ran) in
      let value = same_Some a.value b.value (sym h.value ∙ ap (λ l. s.value (job.plan.node_of l)) leaf ∙ g.value) in
      λ i. record { leaf = leaf i; worker = ran.0 i; start = ran.1 i; end = ran.2 i; value = value i }

  -- and rows by their leaves
  one_rows : (a b : List Row) → map (λ (row : Row). row.leaf) a ≡ map (λ (row : Row). row.leaf) b → AllByRecursion (IsRowOf job s) a → AllByRecursion (IsRowOf job s) b → a ≡ b
  one_rows [] [] leaves h g = refl
  one_rows [] (y ∷ b) leaves h g = cc
  one_rows (x ∷ a) [] leaves h g = cc
  one_rows (x ∷ a) (y ∷ b) leaves h g =
      let row = one_row x y (cc) h.0 g.0 in
      let rows = one_rows a b (cc) h.1 g.1 in λ i. row i ∷ rows i

  -- the reports of a state
  pub one_report : (leaf_total : ℕ) (a b : Report) → IsReportOf job leaf_total s a → IsReportOf job leaf_total s b → a ≡ b
  one_report leaf_total a b h g =
      let workers = h.workers ∙ sym g.workers in
      let history = h.history ∙ sym g.history in
      let rows = one_rows a.rows b.rows (h.leaves ∙ sym g.leaves) h.rows g.rows in
      λ i. record { workers = workers i; history = history i; rows = rows i }
