-- Rows made one after another.
use Rattle.std.proofs.Common.{ℕ, ◌≡◌, ◌<◌, ◌+◌, Option, List, [], ◌∷◌, ◌++◌, length, inl, inr, arith, sym, subst, ◌∙◌, ap}
use Rattle.std.proofs.lemmas.List.{get_or_past, map-id, map_push}
use Rattle.std.proofs.lemmas.List.FromFn.{map-range_with_len_more}
use Rattle.std.proofs.lemmas.Bool.{cases_lt}
use Rattle.batch_history.specs.declared.row.Row.{Row}
use Rattle.core_state.specs.Words.{Progress, Waiting}
use Rattle.core_state.specs.Places.{at}
use Rattle.core_model.specs.Reports.{HasRun, IsRowFor, TellsLeaf}
use Rattle.core_model.proofs.ReportLemmas.RowLists.{AreRowsOf}

-- a node that has run is within the list
pub run_within : (nodes : List Progress) (n : ℕ) → HasRun (at nodes Waiting n) → n < length nodes
run_within nodes n run = elim (cases_lt n (length nodes)) [
  | inl less ↦ less
  | inr more ↦ let none = sym (get_or_past nodes n Waiting more) ∙ run.3 in cc
]

-- one more row, of the next leaf
pub next_row : (rows : List Row) (row : Row) (count : ℕ) → AreRowsOf rows 0 count → row.leaf ≡ count → AreRowsOf (rows ++ row ∷ []) 0 (count + 1)
next_row rows row count of leaf =
    let more = simp map-id at (map-range_with_len_more (λ (k : ℕ). k) 0 count count (omega arith)) in
    rw (map_push (λ (r : Row). r.leaf) rows row, of, leaf) (sym more)

-- the next row has the contents of its leaf's node
pub told_next : (node_of : ℕ → ℕ) (node : ℕ → Progress) (value : ℕ → Option ℕ) (row : Row) (leaf n : ℕ) → row.leaf ≡ leaf → n ≡ node_of leaf
    → IsRowFor (node n) (value n) row → TellsLeaf node_of node value row
told_next node_of node value row leaf n of is told = subst (λ m. IsRowFor (node m) (value m) row) (is ∙ ap node_of (sym of)) told
