-- The lines of rows, step by step, and lists of such lines.
use Rattle.std.proofs.Common.{◌≡◌, ℕ, ◌<◌, ◌≤◌, List, [], ◌∷◌, ◌++◌, length, refl, sym, ap, ◌∙◌, append_assoc, append-nil, length-append, codes, arith}
use Rattle.std.specs.List.{flat_map, AllByRecursion}
use Rattle.std.specs.Fmt.{decimal}
use Rattle.std.proofs.lemmas.Fmt.{decimal_injective}
use Rattle.std.proofs.lemmas.List.{append_cancel_left}
use Rattle.batch_history.specs.Text.{row_line}
use Rattle.batch_history.specs.declared.row.Row.{Row}
use Rattle.report_reader.specs.Raw.{FitsRow}
use Rattle.report_reader.specs.Code.Fields.{IsFieldThen}
use Rattle.report_reader.specs.Code.Lines.{IsRowThen, AreRowsOf}
use Rattle.report_reader.proofs.Fields.{small, big, some_length, NoField, NoWords, field_apart, written_of, passes, stops}

-- what stands behind the numbers of a row
abbrev value_from : Row → List ℕ → List ℕ
value_from row rest = codes " value " ++ (decimal row.value ++ (codes "\n" ++ rest))

abbrev end_from : Row → List ℕ → List ℕ
end_from row rest = codes " end " ++ (decimal row.end ++ value_from row rest)

abbrev start_from : Row → List ℕ → List ℕ
start_from row rest = codes " start " ++ (decimal row.start ++ end_from row rest)

abbrev pub worker_from : Row → List ℕ → List ℕ
worker_from row rest = codes " worker " ++ (decimal row.worker ++ start_from row rest)

five : (w1 d1 w2 d2 w3 d3 w4 d4 w5 d5 w6 rest : List ℕ)
    → (w1 ++ d1 ++ w2 ++ d2 ++ w3 ++ d3 ++ w4 ++ d4 ++ w5 ++ d5 ++ w6) ++ rest
    ≡ w1 ++ (d1 ++ (w2 ++ (d2 ++ (w3 ++ (d3 ++ (w4 ++ (d4 ++ (w5 ++ (d5 ++ (w6 ++ rest))))))))))
five w1 d1 w2 d2 w3 d3 w4 d4 w5 d5 w6 rest = simp append_assoc

pub row_whole : (row : Row) (rest : List ℕ) → row_line row ++ rest ≡ codes "leaf " ++ (decimal row.leaf ++ worker_from row rest)
unfolding row_line
row_whole row rest =
    five (codes "leaf ") (decimal row.leaf) (codes " worker ") (decimal row.worker) (codes " start ") (decimal row.start) (codes " end ") (decimal row.end) (codes " value ") (decimal row.value) (codes "\n") rest

-- where one step of a row's line does not read, there is no such line
module _ {text : List ℕ} {row : Row} {rest : List ℕ} (is : IsRowThen text row rest) where
  whole_row : codes "leaf " ++ (decimal row.leaf ++ worker_from row rest) ≡ text
  whole_row = sym (row_whole row rest) ∙ is.written

  pub no_leaf : NoField (codes "leaf ") 4294967295 text → ⊥
  no_leaf none = stops none row.leaf (worker_from row rest) (omega (arith, is.fits.leaf)) refl whole_row

  module _ {l : ℕ} {t1 : List ℕ} (leaf : IsFieldThen (codes "leaf ") 4294967295 text l t1) where
    at_worker : worker_from row rest ≡ t1
    at_worker = (passes leaf small row.leaf (worker_from row rest) (omega (arith, is.fits.leaf)) refl whole_row).1

    pub no_worker : NoField (codes " worker ") 4294967295 t1 → ⊥
    no_worker none = stops none row.worker (start_from row rest) (omega (arith, is.fits.worker)) refl at_worker

    module _ {w : ℕ} {t2 : List ℕ} (worker : IsFieldThen (codes " worker ") 4294967295 t1 w t2) where
      at_start : start_from row rest ≡ t2
      at_start = (passes worker small row.worker (start_from row rest) (omega (arith, is.fits.worker)) refl at_worker).1

      pub no_start : NoField (codes " start ") 18446744073709551615 t2 → ⊥
      no_start none = stops none row.start (end_from row rest) (omega (arith, is.fits.start)) refl at_start

      module _ {s : ℕ} {t3 : List ℕ} (start : IsFieldThen (codes " start ") 18446744073709551615 t2 s t3) where
        at_end : end_from row rest ≡ t3
        at_end = (passes start big row.start (end_from row rest) (omega (arith, is.fits.start)) refl at_start).1

        pub no_end : NoField (codes " end ") 18446744073709551615 t3 → ⊥
        no_end none = stops none row.end (value_from row rest) (omega (arith, is.fits.end)) refl at_end

        module _ {e : ℕ} {t4 : List ℕ} (end : IsFieldThen (codes " end ") 18446744073709551615 t3 e t4) where
          at_value : value_from row rest ≡ t4
          at_value = (passes end big row.end (value_from row rest) (omega (arith, is.fits.end)) refl at_end).1

          pub no_value : NoField (codes " value ") 18446744073709551615 t4 → ⊥
          no_value none = stops none row.value (codes "\n" ++ rest) (omega (arith, is.fits.value)) refl at_value

          pub no_row_end : {v : ℕ} {t5 : List ℕ} → IsFieldThen (codes " value ") 18446744073709551615 t4 v t5 → NoWords (codes "\n") t5 → ⊥
          no_row_end value none = none rest (passes value big row.value (codes "\n" ++ rest) (omega (arith, is.fits.value)) refl at_value).1

nested : (w1 d1 w2 d2 w3 d3 w4 d4 w5 d5 w6 rest text t1 t2 t3 t4 t5 : List ℕ)
    → w1 ++ (d1 ++ t1) ≡ text → w2 ++ (d2 ++ t2) ≡ t1 → w3 ++ (d3 ++ t3) ≡ t2 → w4 ++ (d4 ++ t4) ≡ t3 → w5 ++ (d5 ++ t5) ≡ t4 → w6 ++ rest ≡ t5
    → w1 ++ (d1 ++ (w2 ++ (d2 ++ (w3 ++ (d3 ++ (w4 ++ (d4 ++ (w5 ++ (d5 ++ (w6 ++ rest)))))))))) ≡ text
nested w1 d1 w2 d2 w3 d3 w4 d4 w5 d5 w6 rest text t1 t2 t3 t4 t5 e1 e2 e3 e4 e5 e6 = rw (e6, e5, e4, e3, e2, e1)

-- the steps of a row's line make one
pub row_read : {text : List ℕ} {l w s e v : ℕ} {t1 t2 t3 t4 t5 rest : List ℕ}
    → IsFieldThen (codes "leaf ") 4294967295 text l t1 → IsFieldThen (codes " worker ") 4294967295 t1 w t2 → IsFieldThen (codes " start ") 18446744073709551615 t2 s t3
    → IsFieldThen (codes " end ") 18446744073709551615 t3 e t4 → IsFieldThen (codes " value ") 18446744073709551615 t4 v t5 → codes "\n" ++ rest ≡ t5
    → IsRowThen text (record { leaf = l; worker = w; start = s; end = e; value = v }) rest
row_read {text = text} {l = l} {w = w} {s = s} {e = e} {v = v} {t1 = t1} {t2 = t2} {t3 = t3} {t4 = t4} {t5 = t5} {rest = rest} leaf worker start end value ends = record {
  written = row_whole (record { leaf = l; worker = w; start = s; end = e; value = v }) rest
      ∙ nested (codes "leaf ") (decimal l) (codes " worker ") (decimal w) (codes " start ") (decimal s) (codes " end ") (decimal e) (codes " value ") (decimal v) (codes "\n") rest text t1 t2 t3 t4 t5
      (written_of leaf) (written_of worker) (written_of start) (written_of end) (written_of value) ends;
  fits = record {
    leaf = omega (arith, leaf.read.within);
    worker = omega (arith, worker.read.within);
    start = omega (arith, start.read.within);
    end = omega (arith, end.read.within);
    value = omega (arith, value.read.within);
  };
}

-- rows of the same numbers are one row
same_row : (l l' w w' s s' e e' v v' : ℕ) → l ≡ l' → w ≡ w' → s ≡ s' → e ≡ e' → v ≡ v'
    → ◌≡◌ {A = Row} (record { leaf = l; worker = w; start = s; end = e; value = v }) (record { leaf = l'; worker = w'; start = s'; end = e'; value = v' })
same_row l l' w w' s s' e e' v v' el ew es ee ev = cc

-- two rows at the front of one text are one row, with one rest
pub one_row : (text : List ℕ) (a b : Row) (rest rest' : List ℕ) → IsRowThen text a rest → IsRowThen text b rest' → (a ≡ b) × (rest ≡ rest')
one_row text a b rest rest' is is' =
    let leaf = field_apart (codes "leaf ") a.leaf b.leaf (worker_from a rest) (worker_from b rest') refl refl (whole_row is ∙ sym (whole_row is')) in
    let worker = field_apart (codes " worker ") a.worker b.worker (start_from a rest) (start_from b rest') refl refl leaf.1 in
    let start = field_apart (codes " start ") a.start b.start (end_from a rest) (end_from b rest') refl refl worker.1 in
    let end = field_apart (codes " end ") a.end b.end (value_from a rest) (value_from b rest') refl refl start.1 in
    let value = field_apart (codes " value ") a.value b.value (codes "\n" ++ rest) (codes "\n" ++ rest') refl refl end.1 in (
      same_row a.leaf b.leaf a.worker b.worker a.start b.start a.end b.end a.value b.value
          (decimal_injective a.leaf b.leaf (omega (arith, is.fits.leaf)) (omega (arith, is'.fits.leaf)) leaf.0)
          (decimal_injective a.worker b.worker (omega (arith, is.fits.worker)) (omega (arith, is'.fits.worker)) worker.0)
          (decimal_injective a.start b.start is.fits.start is'.fits.start start.0)
          (decimal_injective a.end b.end is.fits.end is'.fits.end end.0)
          (decimal_injective a.value b.value is.fits.value is'.fits.value value.0),
      append_cancel_left (codes "\n") rest rest' value.1,
    )

-- the line of a row is not empty
some_line : (text : List ℕ) (row : Row) (rest : List ℕ) → IsRowThen text row rest → text ≡ [] → ⊥
some_line text row rest is none =
    let begins : codes "leaf " ++ (decimal row.leaf ++ worker_from row rest) ≡ [] = whole_row is ∙ none in
    cc (begins)

-- the first of several rows, and the others
first_row : (text : List ℕ) (row : Row) (rows : List Row) → AreRowsOf text (row ∷ rows) → IsRowThen text row (flat_map row_line rows)
first_row text row rows are = record { written = are.written; fits = are.fits.0 }

-- two lists of rows of one text are one list
pub one_list : (text : List ℕ) (rows rows' : List Row) → AreRowsOf text rows → AreRowsOf text rows' → rows ≡ rows'
one_list text [] [] a b = refl
one_list text [] (row' ∷ rows') a b = absurd (some_line text row' (flat_map row_line rows') (first_row text row' rows' b) (sym a.written))
one_list text (row ∷ rows) [] a b = absurd (some_line text row (flat_map row_line rows) (first_row text row rows a) (sym b.written))
one_list text (row ∷ rows) (row' ∷ rows') a b =
    let first = one_row text row row' (flat_map row_line rows) (flat_map row_line rows') (first_row text row rows a) (first_row text row' rows' b) in
    let more = one_list (flat_map row_line rows') rows rows' (record { written = first.1; fits = a.fits.1 }) (record { written = refl; fits = b.fits.1 }) in
    cc (first.0, more)

-- behind rows that were read stand those that are left
rows_left : (so_far rows : List Row) (text rest : List ℕ) → flat_map row_line so_far ++ rest ≡ text → AllByRecursion FitsRow so_far → AreRowsOf text rows → (more : List Row) × AreRowsOf rest more
rows_left [] rows text rest is fits are = (rows, record { written = are.written ∙ sym is; fits = are.fits })
rows_left (row ∷ so_far) [] text rest is fits are =
    absurd (some_line text row (flat_map row_line so_far ++ rest) (record { written = sym (append_assoc (row_line row) (flat_map row_line so_far) rest) ∙ is; fits = fits.0 }) (sym are.written))
rows_left (row ∷ so_far) (row' ∷ rows) text rest is fits are =
    let same = one_row text row row' (flat_map row_line so_far ++ rest) (flat_map row_line rows)
    (record { written = sym (append_assoc (row_line row) (flat_map row_line so_far) rest) ∙ is; fits = fits.0 }) (first_row text row' rows are) in
    rows_left so_far rows (flat_map row_line rows) rest same.1 fits.1 (record { written = refl; fits = are.fits.1 })

none_left : (rows : List Row) (rest : List ℕ) → AreRowsOf rest rows → (rest ≡ [] → ⊥) → ((row : Row) (more : List ℕ) → IsRowThen rest row more → ⊥) → ⊥
none_left [] rest are some none = some (sym are.written)
none_left (row ∷ rows) rest are some none = none row (flat_map row_line rows) (first_row rest row rows are)

-- where some text is left and no row is read of it, the text is that of no rows
pub no_rows : (so_far : List Row) (text rest : List ℕ) → flat_map row_line so_far ++ rest ≡ text → AllByRecursion FitsRow so_far → (rest ≡ [] → ⊥) → ((row : Row) (more : List ℕ) → IsRowThen rest row more → ⊥)
    → (rows : List Row) → AreRowsOf text rows → ⊥
no_rows so_far text rest is fits some none rows are = let left = rows_left so_far rows text rest is fits are in none_left left.0 rest left.1 some none

-- each row that is read takes some of the text
pub shorter : (text : List ℕ) (row : Row) (rest : List ℕ) → IsRowThen text row rest → length rest < length text
shorter text row rest is =
    let whole : length (row_line row ++ rest) ≡ length text = ap length is.written in
    let some : row_line row ≡ [] → ⊥ = λ none. some_line (row_line row) row [] (record { written = append-nil (row_line row); fits = is.fits }) none in
    let long : 0 < length (row_line row) = some_length (row_line row) some in
    omega (arith, length-append (row_line row) rest, whole, long)

-- there are at most as many rows as their lines have bytes
pub few_rows : (rows : List Row) → length rows ≤ length (flat_map row_line rows)
few_rows [] = omega arith
few_rows (row ∷ rows) =
    let some : row_line row ≡ [] → ⊥ = λ none. cc (sym (row_whole row []) ∙ append-nil (row_line row) ∙ none) in
    omega (arith, length-append (row_line row) (flat_map row_line rows), some_length (row_line row) some, few_rows rows)
