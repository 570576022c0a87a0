-- The report of a closed table: of the table's own state, and of the steps that lead to it.
use Rattle.std.proofs.Common.{ℕ, ◌≡◌, ◌≢◌, ◌<◌, ◌≤◌, ◌+◌, true, None, List, map, refl, sym, ap, ◌∙◌, subst}
use Rattle.limits.specs.declared.TheConstants.{MOST_WORKERS}
use Rattle.std.specs.List.{AllByRecursion, range_with_len}
use mathlib.Core.Option.{some, some-injective}
use lib.ListN.{get_elem?}
use Rattle.atomic_table.specs.Table.{Final, Seen}
use Rattle.sp_order.specs.Jobs.{job_tree}
use Rattle.sp_order.specs.Precedence.{leaves}
use Rattle.batch_history.specs.declared.batch.Entry.{Entry}
use Rattle.batch_history.specs.declared.row.Row.{Row}
use Rattle.batch_history.specs.declared.report.Report.{Report}
use Rattle.batch_history.specs.Reserved.{ReservedView}
use Rattle.core_model.specs.State.{State}
use Rattle.core_model.specs.Tasks.{is_done}
use Rattle.core_model.specs.Invariant.{Parts}
use Rattle.core_model.specs.Reports.{HasRun, IsRowOf, IsReportOf, IsRunFrom}
use Rattle.table_rule.specs.declared.view.View.{View}
use Rattle.table_rule.specs.declared.slot.Slot.{Slot}
use Rattle.table_rule.specs.declared.slot.Slot.TheVariants as Slots
use Rattle.core_model.specs.declared.setting.Setting.{Setting}
use Rattle.core_model.specs.Settings.{job_with}
use Rattle.core_model.specs.State.{opening_core}
use Rattle.table_rule.specs.Shows.{TableState, ShownWith, IsPrefix, events_by, reserved, room_of}
use Rattle.core_table.specs.Closing.{RowInWords, IsReportOfTable}
use Rattle.table_rule.specs.Laws.{Laws}
use Rattle.core_table.proofs.PassLemmas.PassKept.{books}
use Rattle.core_table.proofs.CloseLemmas.Closes.{Last, closes}
use Rattle.core_table.proofs.CloseLemmas.LastRows.{rows_told}

-- what the report says of the table and of the trace
pub record Reported (work : ℕ → ℕ) (key : Setting) (v : View) (report : Report) : Type 0 where
  pub table : TableState
  pub told : IsReportOfTable work key table report
  pub seat : ℕ
  pub at : get_elem? table.views seat ≡ some v
  pub run : IsRunFrom (job_with work key) (leaves (job_tree key.job)) opening_core report
  pub own : events_by v.own.worker run.trace ≡ v.own.events
  pub parts : Parts (job_with work key) run.last.state
  pub seen : IsPrefix v.own.book_seen report.history

pub reported_last : (work : ℕ → ℕ) (key : Setting) (v : View) (ws : List ℕ) (xs : List Slot) (laws : Laws (job_with work key)) → Last (job_with work key) (room_of key) v ws xs
    → key.workers ≤ MOST_WORKERS → (got : Slot) (book : ReservedView) (history : List (List Entry)) (rows : List Row)
    → get_elem? xs (key.workers + 1) ≡ some got → got ≡ Slots.Book book → history ≡ book.batches
    → map (λ row. row.leaf) rows ≡ range_with_len 0 (leaves (job_tree key.job))
    → AllByRecursion (RowInWords key.workers (job_with work key).plan.count (leaves (job_tree key.job)) (job_with work key).plan.node_of ws) rows
    → ((leaf : ℕ) → leaf < leaves (job_tree key.job) → (job_with work key).plan.node_of leaf < (job_with work key).plan.count)
    → ((s : State) → Parts (job_with work key) s → is_done (s.node 0) ≡ true → (leaf : ℕ) → leaf < leaves (job_tree key.job) → HasRun (s.node ((job_with work key).plan.node_of leaf)) × (s.value ((job_with work key).plan.node_of leaf) ≢ None))
    → Reported work key v (record { workers = key.workers; history = history; rows = rows })
reported_last work key v ws xs laws last few got book history rows there is told_history told_leaves told inside ran =
    let job = job_with work key in
    let s = last.shown.state in
    let parts = last.shown.parts in
    let over : is_done (s.node 0) ≡ true = ap (λ (z : State). is_done (z.node 0)) (sym last.is) ∙ last.over in
    let own : reserved last.state.book (room_of key) ≡ book = books (reserved last.state.book (room_of key)) book (some-injective _ _ (sym last.there ∙ there) ∙ is) in
    let whole : history ≡ s.book = told_history ∙ (ap (λ (b : ReservedView). b.batches) (sym own) ∙ ap (λ (z : State). z.book) last.is) in
    let report : Report = record { workers = key.workers; history = history; rows = rows } in
    let of_last : AllByRecursion (IsRowOf job last.state) rows = rows_told job laws last.state ws (leaves (job_tree key.job)) last.parts few last.words inside (ran last.state last.parts last.over) rows told in
    let reports : IsReportOf job (leaves (job_tree key.job)) s report = record {
      workers = refl;
      leaves = told_leaves;
      rows = subst (λ (z : State). AllByRecursion (IsRowOf job z) rows) last.is of_last;
      history = whole;
    } in
    record {
      table = last.table;
      told = record {
        shown = last.shown;
        over = over;
        rows = subst (λ (l : List ℕ). AllByRecursion (RowInWords key.workers job.plan.count (leaves (job_tree key.job)) job.plan.node_of l) rows) (sym last.same) told;
        reports = reports;
      };
      seat = last.seat;
      at = last.at;
      run = record {
        trace = last.shown.trace;
        last = record { state = s; ready = last.shown.ready };
        reaches = last.shown.reached;
        over = over;
        reports = reports;
      };
      own = last.own;
      parts = parts;
      seen = subst (IsPrefix v.own.book_seen) (sym (told_history ∙ ap (λ (b : ReservedView). b.batches) (sym own))) last.seen;
    }

pub reported : (work : ℕ → ℕ) (key : Setting) (id k : ℕ) (v : View) (ws : List ℕ) (xs : List Slot) (laws : Laws (job_with work key)) → Final (Seen (ShownWith work key) id v) ws xs → v.own.worker ≡ k → v.to ≡ k + 1 → v.saw_done ≡ true
    → key.workers ≤ MOST_WORKERS → (got : Slot) (book : ReservedView) (history : List (List Entry)) (rows : List Row)
    → get_elem? xs (key.workers + 1) ≡ some got → got ≡ Slots.Book book → history ≡ book.batches
    → map (λ row. row.leaf) rows ≡ range_with_len 0 (leaves (job_tree key.job))
    → AllByRecursion (RowInWords key.workers (job_with work key).plan.count (leaves (job_tree key.job)) (job_with work key).plan.node_of ws) rows
    → ((leaf : ℕ) → leaf < leaves (job_tree key.job) → (job_with work key).plan.node_of leaf < (job_with work key).plan.count)
    → ((s : State) → Parts (job_with work key) s → is_done (s.node 0) ≡ true → (leaf : ℕ) → leaf < leaves (job_tree key.job) → HasRun (s.node ((job_with work key).plan.node_of leaf)) × (s.value ((job_with work key).plan.node_of leaf) ≢ None))
    → Reported work key v (record { workers = key.workers; history = history; rows = rows })
reported work key id k v ws xs laws f from to saw few got book history rows there is told_history told_leaves told inside ran =
    reported_last work key v ws xs laws (closes (job_with work key) (room_of key) id k laws v ws xs f from to saw) few got book history rows there is told_history told_leaves told inside ran
