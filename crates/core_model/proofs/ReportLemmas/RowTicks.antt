-- The starts and ends of the rows of a run that has ended are the numbers below twice the leaves, each once.
use Rattle.std.proofs.Common.{ℕ, zero, suc, ◌≡◌, ◌≢◌, ◌<◌, ◌≤◌, ◌+◌, ◌*◌, ◌⊎◌, inl, inr, List, [], ◌∷◌, Contains, arith, sym, subst, ◌∙◌, ap, eqb-true}
use Rattle.std.specs.List.{AllByRecursion}
use Rattle.std.proofs.lemmas.Cmp.{nat_eq_equiv}
use Rattle.std.proofs.lemmas.Map.Steps.{length-le_from_distinct_below, le-length_from_below}
use Rattle.std.proofs.lemmas.Map.Views.{Contains-from_any, list_any-from_Contains}
use Rattle.seq_objects.specs.Pairs.{AreDistinct, IsEnumerationOf}
use Rattle.batch_history.specs.Lawful.{ticks_of}
use Rattle.batch_history.specs.declared.row.Row.{Row}
use Rattle.core_model.proofs.Words.{Ran, Idle, CoreJob, State}
use Rattle.core_model.specs.Invariant.Ticks.{IsStartedAs, Draw, start_of, end_of, start_by, end_by, IsDrawn}
use Rattle.core_model.specs.Reports.{IsRowOf}
use Rattle.batch_history.proofs.BookLemmas.EntryLists.{distinct_tests}
use Rattle.core_model.proofs.ReportLemmas.EndedRuns.{IsEnded}
use Rattle.core_model.proofs.ReportLemmas.RowLists.{AreRowsOf, each_got, row_is, row_there, ticks_length, ticks_in}
use Rattle.core_model.proofs.ReportLemmas.OneReport.{same_ran}
use Rattle.seq_objects.proofs.Elements.{each_so, each_at}

module _ (job : CoreJob) (total : ℕ) (s : State) (h : IsEnded job total s) where
  -- the tick is the start or the end of the leaf
  abbrev IsTick : ℕ → ℕ → Type 0
  IsTick leaf t = IsDrawn s.node s.task (start_of (job.plan.node_of leaf)) t ⊎ IsDrawn s.node s.task (end_of (job.plan.node_of leaf)) t

  -- or of one from this leaf on
  abbrev IsTickFrom : ℕ → ℕ → Type 0
  IsTickFrom first t = (leaf : ℕ) × (first ≤ leaf) × (leaf < total) × IsTick leaf t

  -- a node is that of one leaf
  pub one_leaf : (u v : ℕ) → u < total → v < total → job.plan.node_of u ≡ job.plan.node_of v → u ≡ v
  one_leaf u v low low' e = let same = sym (h.kind u low) ∙ ap job.plan.kind e ∙ h.kind v low' in cc

  -- and a tick is that of one leaf
  same_leaf : (u v t : ℕ) → u < total → v < total → IsTick u t → IsTick v t → u ≡ v
  same_leaf u v t low low' (inl a) (inl b) = one_leaf u v low low' (let e = h.parts.ticks.distinct (start_of (job.plan.node_of u)) (start_of (job.plan.node_of v)) t a b in cc)
  same_leaf u v t low low' (inl a) (inr b) = let e = h.parts.ticks.distinct (start_of (job.plan.node_of u)) (end_of (job.plan.node_of v)) t a b in cc
  same_leaf u v t low low' (inr a) (inl b) = let e = h.parts.ticks.distinct (end_of (job.plan.node_of u)) (start_of (job.plan.node_of v)) t a b in cc
  same_leaf u v t low low' (inr a) (inr b) = one_leaf u v low low' (let e = h.parts.ticks.distinct (end_of (job.plan.node_of u)) (end_of (job.plan.node_of v)) t a b in cc)

  -- a row starts before it ends
  pub row_starts_first : (row : Row) → IsRowOf job s row → row.start < row.end
  row_starts_first row is = h.parts.ticks.starts_first (job.plan.node_of row.leaf) row.worker row.start row.end (inl is.ran)

  -- its start is a tick of its leaf
  row_starts : (row : Row) (leaf : ℕ) → row.leaf ≡ leaf → IsRowOf job s row → IsTick leaf row.start
  row_starts row leaf e is = inl (row.worker, row.end, rw e at is.ran)

  -- and so is its end
  row_ends : (row : Row) (leaf : ℕ) → row.leaf ≡ leaf → IsRowOf job s row → IsTick leaf row.end
  row_ends row leaf e is = inr (row.worker, row.start, rw e at is.ran)

  -- the ticks of rows are those of their leaves
  ticks_from : (rows : List Row) (first count : ℕ) → first + count ≡ total → AreRowsOf rows first count → AllByRecursion (IsRowOf job s) rows → AllByRecursion (IsTickFrom first) (ticks_of rows)
  ticks_from [] first count sum of each = tt
  ticks_from (row ∷ rows) first zero sum of each = cc
  ticks_from (row ∷ rows) first (suc count) sum of each =
      let leaf : row.leaf ≡ first = cc in
      let more = ticks_from rows (first + 1) count (omega (arith, sum)) (cc) each.1 in (
        (first, omega arith, omega (arith, sum), row_starts row first leaf each.0),
        (
          (first, omega arith, omega (arith, sum), row_ends row first leaf each.0),
          each_so (IsTickFrom (first + 1)) (IsTickFrom first) (λ t is. (is.0, omega (arith, is.1), is.2, is.3)) (ticks_of rows) more,
        ),
      )

  -- leaves that are apart have ticks that are apart
  other_tick : (first leaf t u : ℕ) → leaf < first → leaf < total → IsTick leaf t → IsTickFrom first u → t ≢ u
  other_tick first leaf t u less low is later e = let same = same_leaf leaf later.0 u low later.2 (subst (IsTick leaf) e is) later.3 in omega (arith, same, less, later.1)

  -- so the ticks of rows are distinct
  ticks_distinct : (rows : List Row) (first count : ℕ) → first + count ≡ total → AreRowsOf rows first count → AllByRecursion (IsRowOf job s) rows → AreDistinct (ticks_of rows)
  ticks_distinct [] first count sum of each = tt
  ticks_distinct (row ∷ rows) first zero sum of each = cc
  ticks_distinct (row ∷ rows) first (suc count) sum of each =
      let leaf : row.leaf ≡ first = cc in
      let low : first < total = omega (arith, sum) in
      let more : AllByRecursion (IsTickFrom (first + 1)) (ticks_of rows) = ticks_from rows (first + 1) count (omega (arith, sum)) (cc) each.1 in
      let starts_first = row_starts_first row each.0 in (
        (
          (λ e. omega (arith, starts_first, e)),
          each_so (IsTickFrom (first + 1)) (λ u. row.start ≢ u) (λ u is. other_tick (first + 1) first row.start u (omega arith) low (row_starts row first leaf each.0) is) (ticks_of rows) more,
        ),
        (
          each_so (IsTickFrom (first + 1)) (λ u. row.end ≢ u) (λ u is. other_tick (first + 1) first row.end u (omega arith) low (row_ends row first leaf each.0) is) (ticks_of rows) more,
          ticks_distinct rows (first + 1) count (omega (arith, sum)) (cc) each.1,
        ),
      )

  module _ (rows : List Row) (of : AreRowsOf rows 0 total) (each : AllByRecursion (IsRowOf job s) rows) where
    -- the ticks of the leaf at a node are among those of the rows
    leaf_in : (n w a e : ℕ) → s.node n ≡ Ran w a e → Contains (ticks_of rows) a × Contains (ticks_of rows) e
    leaf_in n w a e ran =
        let leaf = h.parts.nodes.ran_leaf n w a e ran in
        let row = row_there rows 0 total leaf.0 of (h.below n leaf.0 leaf.1) in
        let at = row_is rows 0 total leaf.0 row.0 of row.1 in
        let is = each_got (IsRowOf job s) rows leaf.0 row.0 each row.1 in
        let node : job.plan.node_of row.0.leaf ≡ n = ap job.plan.node_of (at.1 ∙ omega arith) ∙ sym (h.only n leaf.0 leaf.1) in
        let same = same_ran row.0.worker w row.0.start a row.0.end e (sym is.ran ∙ ap s.node node ∙ ran) in
        let found = ticks_in rows leaf.0 row.0 row.1 in
        (subst (Contains (ticks_of rows)) same.1 found.0, subst (Contains (ticks_of rows)) same.2 found.1)

    -- each tick that was drawn is among them
    drawn_in : (a : Draw) (t : ℕ) → IsDrawn s.node s.task a t → Contains (ticks_of rows) t
    drawn_in (start_of n) t d = (leaf_in n d.0 t d.1 d.2).0
    drawn_in (end_of n) t d = (leaf_in n d.0 d.1 t d.2).1
    drawn_in (start_by w) t d = let no : IsStartedAs Idle d.0 t = rw (h.idle w) at d.1 in absurd no
    drawn_in (end_by w) t d = let e = sym (h.idle w) ∙ d.2 in cc

    -- and so is each below the tick
    tick_in : (t : ℕ) → t < s.tick → Contains (ticks_of rows) t
    tick_in t low = let d = h.parts.ticks.each t low in drawn_in d.0 t d.1

    -- the ticks of a leaf are below the tick
    row_tick_below : (leaf t : ℕ) → IsTick leaf t → t < s.tick
    row_tick_below leaf t (inl d) = h.parts.ticks.only (start_of (job.plan.node_of leaf)) t d
    row_tick_below leaf t (inr d) = h.parts.ticks.only (end_of (job.plan.node_of leaf)) t d

    -- and so are those of the rows
    ticks_below : AllByRecursion (λ t. t < s.tick) (ticks_of rows)
    ticks_below = each_so (IsTickFrom 0) (λ t. t < s.tick) (λ t is. row_tick_below is.0 t is.3) (ticks_of rows) (ticks_from rows 0 total (omega arith) of each)

    -- they are distinct
    distinct : AreDistinct (ticks_of rows)
    distinct = ticks_distinct rows 0 total (omega arith) of each

    -- so there are two for each leaf
    tick_is : s.tick ≡ 2 * total
    tick_is =
        let most = length-le_from_distinct_below (ticks_of rows) s.tick (distinct_tests (ticks_of rows) distinct)
        (λ q found. each_at (λ t. t < s.tick) (ticks_of rows) q ticks_below (Contains-from_any eqb-true q (ticks_of rows) found)) in
        let least = le-length_from_below (ticks_of rows) s.tick (λ q low. list_any-from_Contains nat_eq_equiv q (ticks_of rows) (tick_in q low)) in
        omega (arith, most, least, ticks_length rows 0 total of)

    -- the numbers below twice the leaves
    pub ticks_each_once : IsEnumerationOf (λ t. t < 2 * total) (ticks_of rows)
    ticks_each_once = record {
      distinct = distinct;
      only = rw tick_is at ticks_below;
      each = λ t low. tick_in t (rw tick_is low);
    }
