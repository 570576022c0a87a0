-- The leaves of a list of rows that has one more row at its end.
use Rattle.std.proofs.Common.{ℕ, zero, suc, ◌≡◌, ◌+◌, List, [], ◌∷◌, ◌++◌, map, arith, refl, ◌∙◌}
use Rattle.batch_history.specs.declared.row.Row.{Row}
use Rattle.std.specs.List.{range_with_len}

next_from : (rows : List Row) (row : Row) (first count : ℕ) → map (λ (r : Row). r.leaf) rows ≡ range_with_len first count → row.leaf ≡ first + count → map (λ (r : Row). r.leaf) (rows ++ row ∷ []) ≡ range_with_len first (count + 1)
next_from [] row first zero of leaf = let e : row.leaf ≡ first = leaf ∙ omega arith in rw e refl
next_from [] row first (suc count) of leaf = cc
next_from (r ∷ rows) row first zero of leaf = cc
next_from (r ∷ rows) row first (suc count) of leaf =
    let head : r.leaf ≡ first = cc in
    let more = next_from rows row (first + 1) count (cc) (leaf ∙ omega arith) in
    let e : suc count + 1 ≡ suc (count + 1) = omega arith in rw (e, head, more) refl

-- the leaves of the rows after the next leaf's row is pushed
pub next_row : (rows : List Row) (row : Row) (count : ℕ) → map (λ (r : Row). r.leaf) rows ≡ range_with_len 0 count → row.leaf ≡ count → map (λ (r : Row). r.leaf) (rows ++ row ∷ []) ≡ range_with_len 0 (count + 1)
next_row rows row count of leaf = next_from rows row 0 count of (leaf ∙ omega arith)
