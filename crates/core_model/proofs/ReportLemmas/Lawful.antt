-- The report of a run that has ended is lawful.
use Rattle.std.proofs.Common.{ℕ, ◌≡◌, ◌<◌, Option, Some, None, List, length, map, Contains, refl, sym, ap, ◌∙◌}
use Rattle.std.specs.Prelude.{slice_get, IsSomeAnd}
use Rattle.std.proofs.lemmas.Option.{get_or_from_slice_get, slice_get_within}
use Rattle.seq_objects.specs.Objects.{value_of}
use Rattle.core_model.proofs.Words.{Act, Work, Call, Tree, leaves, IsBySeries, Entry, CoreJob, State, core_job_with}
use Rattle.sp_order.specs.Precedence.{IsBefore}
use Rattle.sp_order.specs.Preorder.{nodes_of}
use Rattle.sp_order.specs.Jobs.{JobValue}
use Rattle.batch_history.specs.declared.row.Row.{Row}
use Rattle.batch_history.specs.declared.report.Report.{Report}
use Rattle.seq_objects.specs.Pairs.{IsEnumerationOf}
use Rattle.batch_history.specs.Book.{flat}
use Rattle.batch_history.specs.Lawful.{HasRows, KeepsOrder, HasCallsWith, KeepsTicks, HasValuesWith, LawfulWith}
use Rattle.batch_history.specs.Operations.{act_of, op_in, op_of, source_of, value_from}
use Rattle.sp_order.specs.Sources.{IsCallLeaf}
use Rattle.batch_history.proofs.ActLemmas.{called_as}
use Rattle.core_model.specs.Reports.{IsRowOf, IsReportOf}
use Rattle.core_model.proofs.ReportLemmas.EndedRuns.{IsEnded}
use Rattle.core_model.proofs.ReportLemmas.RowTicks.{row_starts_first, ticks_each_once}
use Rattle.core_model.proofs.ReportLemmas.RowOrder.{IsRowAt, row_at, before_ended, alone_ended}
use Rattle.core_model.proofs.ReportLemmas.RowCalls.{contained, calls, call_in, worker_is, entry_earlier, row_valued, call_valued}
use Rattle.seq_objects.proofs.Elements.{each_so, each_mapped, each_at}

-- what is found in a choice
in_some : {A : Type 0} (P : A → Type 0) (o : Option A) → IsSomeAnd o P → (x : A) × (o ≡ Some x) × P x
in_some P None h = absurd h
in_some P (Some x) h = (x, refl, h)

-- the job with this tree as its shape
abbrev pub job_with : Tree → JobValue → JobValue
job_with tree job = record job { shape = Some tree }

module _ (work : ℕ → ℕ) (tree : Tree) (given : JobValue) (workers : ℕ) (s : State) (report : Report) (fits : length given.acts ≡ leaves tree)
    (series : (u v : ℕ) → u < leaves tree → v < leaves tree → IsBefore (Some tree) u v → IsBySeries (nodes_of tree) ((nodes_of tree).node_of u) ((nodes_of tree).node_of v))
    (h : IsEnded (core_job_with work (job_with tree given) workers) (leaves tree) s) (r : IsReportOf (core_job_with work (job_with tree given) workers) (leaves tree) s report) where
  -- the job, as reports know it
  abbrev value : JobValue
  value = job_with tree given

  -- and as the core does
  abbrev job : CoreJob
  job = core_job_with work (job_with tree given) workers

  -- the row at the place of a leaf
  row_of : (leaf : ℕ) (row : Row) → slice_get report.rows leaf ≡ Some row → IsRowAt job (leaves tree) s leaf row
  row_of leaf row is = row_at job (leaves tree) s report h r leaf row is

  -- the rows
  has_rows : HasRows value workers report
  has_rows = record {
    names = r.workers;
    leaves = r.leaves;
    among = each_so (IsRowOf job s) (λ row. row.worker < workers)
        (λ row is. h.parts.ticks.among ((nodes_of tree).node_of row.leaf) row.worker row.start row.end is.ran) report.rows r.rows;
    starts_first = each_so (IsRowOf job s) (λ row. row.start < row.end) (row_starts_first job (leaves tree) s h) report.rows r.rows;
    ticks = ticks_each_once job (leaves tree) s h report.rows r.leaves r.rows;
  }

  -- the order
  keeps_order : KeepsOrder value report
  keeps_order = record {
    before = λ u v before row is row' is'. before_ended job (leaves tree) s report h r u v row row' is is' (λ low low'. series u v low low' before);
    alone = λ u v apart row is row' is' one. alone_ended job (leaves tree) s report h r u v row row' apart is is' one;
  }

  -- what a leaf does
  does : (leaf : ℕ) (act : Act) → slice_get given.acts leaf ≡ Some act → act_of given.acts leaf ≡ act
  does leaf act is = get_or_from_slice_get given.acts leaf act (Work 0) is

  -- an entry is that of a leaf that calls
  entry_calls : (e : Entry) → Contains (flat s.book) e → IsCallLeaf given.acts e.leaf
  entry_calls e there =
      let call = called_as work value s.book e.leaf e.op (each_at (λ (x : Entry). op_of work value s.book x.leaf ≡ Some x.op) (flat s.book) e h.parts.book.operations there) in
      (call.0, call.1.0)

  -- the leaves of the book
  calls_each_once : IsEnumerationOf (IsCallLeaf given.acts) (map (λ (e : Entry). e.leaf) (flat s.book))
  calls_each_once = record {
    distinct = h.parts.book.leaves;
    only = each_mapped (λ (e : Entry). e.leaf) (Contains (flat s.book)) (IsCallLeaf given.acts) entry_calls (flat s.book) (contained (flat s.book));
    each = λ leaf call.
        let low = slice_get_within given.acts leaf (Call call.0) call.1 in
        call_in job (leaves tree) s h leaf (rw fits at low)
        (calls job (leaves tree) s h leaf call.0 (ap op_in (does leaf (Call call.0) call.1)));
  }

  -- the calls
  has_calls : HasCallsWith work value report
  has_calls = record {
    leaves = rw r.history calls_each_once;
    operations = rw r.history h.parts.book.operations;
    workers = rw r.history (each_so (Contains (flat s.book)) (λ e. (row : Row) → slice_get report.rows e.leaf ≡ Some row → row.worker ≡ e.worker)
        (λ e there row is. worker_is job (leaves tree) s h e row there (row_of e.leaf row is))
        (flat s.book) (contained (flat s.book)));
  }

  -- the ticks of the calls
  keeps_ticks : KeepsTicks report
  keeps_ticks b c e f in_b in_c row is row' is' less =
      let x = in_some (λ (batch : List Entry). Contains batch e) (slice_get s.book b) (rw r.history at in_b) in
      let y = in_some (λ (batch : List Entry). Contains batch f) (slice_get s.book c) (rw r.history at in_c) in
      entry_earlier job (leaves tree) s h b c x.0 y.0 e f row row' x.1 y.1 x.2 y.2
      (row_of e.leaf row is) (row_of f.leaf row' is') less

  -- the values
  has_values : HasValuesWith work value report
  has_values = record {
    work = λ leaf steps act row is. rw r.history
        (sym (ap (λ (a : Act). value_from work s.book a (source_of given leaf) leaf) (does leaf (Work steps) act))
        ∙ row_valued job (leaves tree) s h leaf row (row_of leaf row is));
    calls = rw r.history (each_so (Contains (flat s.book)) (λ e. (row : Row) → slice_get report.rows e.leaf ≡ Some row → row.value ≡ value_of e.reply)
        (λ e there row is. call_valued job (leaves tree) s h e (entry_calls e there).0 row (does e.leaf (Call (entry_calls e there).0) (entry_calls e there).1) there
        (row_of e.leaf row is))
        (flat s.book) (contained (flat s.book)));
  }

  -- all parts
  pub report_lawful : LawfulWith work value workers report
  report_lawful = record {
    rows = has_rows;
    order = keeps_order;
    calls = has_calls;
    replies = rw r.history h.parts.book.legal;
    ticks = keeps_ticks;
    batches = rw r.history h.parts.book.batches;
    values = has_values;
  }
