-- What the rows of a report say of their leaves, and in what order these ran.
use Rattle.std.proofs.Common.{ℕ, ◌≡◌, ◌≢◌, ◌<◌, ◌⊎◌, inl, inr, Some, arith, sym, ◌∙◌}
use Rattle.std.specs.Prelude.{slice_get}
use Rattle.std.proofs.lemmas.Bool.{cases_lt}
use Rattle.core_model.proofs.Words.{IsBySeries, Ran, CoreJob, State}
use Rattle.batch_history.specs.declared.row.Row.{Row}
use Rattle.batch_history.specs.declared.report.Report.{Report}
use Rattle.core_model.specs.Invariant.Ticks.{start_of, HasEnd}
use Rattle.core_model.specs.Reports.{IsRowOf, IsReportOf}
use Rattle.core_model.proofs.ReportLemmas.EndedRuns.{IsEnded}
use Rattle.core_model.proofs.ReportLemmas.RowLists.{each_got, row_is}
use Rattle.core_model.proofs.ReportLemmas.RowTicks.{one_leaf}
use Rattle.core_model.proofs.ReportLemmas.OneReport.{same_ran}

-- the row is that of the leaf
pub record IsRowAt (job : CoreJob) (total : ℕ) (s : State) (leaf : ℕ) (row : Row) : Type 0 where
  pub low : leaf < total
  pub ran : s.node (job.plan.node_of leaf) ≡ Ran row.worker row.start row.end
  pub value : s.value (job.plan.node_of leaf) ≡ Some row.value

module _ (job : CoreJob) (total : ℕ) (s : State) (report : Report) (h : IsEnded job total s) (r : IsReportOf job total s report) where
  -- the row at the place of a leaf
  pub row_at : (u : ℕ) (row : Row) → slice_get report.rows u ≡ Some row → IsRowAt job total s u row
  row_at u row is =
      let at = row_is report.rows 0 total u row r.leaves is in
      let says = each_got (IsRowOf job s) report.rows u row r.rows is in
      let leaf : row.leaf ≡ u = at.1 ∙ omega arith in
      record { low = at.0; ran = rw leaf at says.ran; value = rw leaf at says.value }

  -- a leaf that is before another one ended before its start
  pub before_ended : (u v : ℕ) (row row' : Row) → slice_get report.rows u ≡ Some row → slice_get report.rows v ≡ Some row'
      → (u < total → v < total → IsBySeries job.plan (job.plan.node_of u) (job.plan.node_of v)) → row.end < row'.start
  before_ended u v row row' is is' before =
      let a = row_at u row is in
      let b = row_at v row' is' in
      let x = h.parts.ticks.in_order (job.plan.node_of u) (job.plan.node_of v) row'.worker row'.start (u, h.kind u a.low) (v, h.kind v b.low) (before a.low b.low) (inl (row'.end, b.ran)) in
      let same = same_ran x.0 row.worker x.1 row.start x.2 row.end (sym x.3 ∙ a.ran) in
      omega (arith, x.4, same.2)

  -- a leaf has one end
  end_is : (n w t e d : ℕ) → s.node n ≡ Ran w t e → HasEnd s.node s.task n w t d → d ≡ e
  end_is n w t e d ran (inl other) = (same_ran w w t t d e (sym other ∙ ran)).2
  end_is n w t e d ran (inr mine) = let no = sym (h.idle w) ∙ mine in cc

  -- of two leaves of one worker, the one with the lower start ended before the other start
  earlier_ended : (u v : ℕ) (row row' : Row) → IsRowAt job total s u row → IsRowAt job total s v row' → row.worker ≡ row'.worker → row.start < row'.start → row.end < row'.start
  earlier_ended u v row row' a b one less =
      let x = h.parts.ticks.alone (job.plan.node_of u) (job.plan.node_of v) row.worker row.start row'.start (inl (row.end, a.ran)) (inl (row'.end, rw one b.ran)) less in
      let same = end_is (job.plan.node_of u) row.worker row.start row.end x.0 a.ran x.1 in
      omega (arith, x.2, same)

  -- two leaves have two starts
  other_start : (u v : ℕ) (row row' : Row) → IsRowAt job total s u row → IsRowAt job total s v row' → u ≢ v → row.start ≢ row'.start
  other_start u v row row' a b apart e =
      let same = h.parts.ticks.distinct (start_of (job.plan.node_of u)) (start_of (job.plan.node_of v)) row'.start (row.worker, row.end, rw (← e) a.ran) (row'.worker, row'.end, b.ran) in
      apart (one_leaf job total s h u v a.low b.low (cc))

  -- of two leaves of one worker, one ended before the other's start
  pub alone_ended : (u v : ℕ) (row row' : Row) → u ≢ v → slice_get report.rows u ≡ Some row → slice_get report.rows v ≡ Some row' → row.worker ≡ row'.worker
      → (row.end < row'.start) ⊎ (row'.end < row.start)
  alone_ended u v row row' apart is is' one =
      let a = row_at u row is in
      let b = row_at v row' is' in
      elim (cases_lt row.start row'.start) [
        | inl less ↦ inl (earlier_ended u v row row' a b one less)
        | inr more ↦ let other = other_start u v row row' a b apart in inr (earlier_ended v u row' row b a (sym one) (omega (arith, more, other)))
      ]
