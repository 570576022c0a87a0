-- The rows of a report, by the leaves that they are of.
use Rattle.std.proofs.Common.{ℕ, zero, suc, ◌≡◌, ◌<◌, ◌+◌, ◌*◌, Some, List, [], ◌∷◌, length, map, Contains, arith, refl, sym, ◌∙◌, ap}
use Rattle.std.specs.Prelude.{slice_get}
use Rattle.std.specs.List.{AllByRecursion, range_with_len}
use Rattle.std.proofs.lemmas.Option.{get_or_from_slice_get, slice_get_within}
use Rattle.std.proofs.lemmas.List.Elements.{Contains-append_right}
use Rattle.batch_history.specs.Lawful.{ticks_of}
use Rattle.batch_history.specs.declared.row.Row.{Row}
use Rattle.seq_objects.proofs.Elements.{each_at}

-- the rows are those of `count` leaves, from leaf `first` on
abbrev pub AreRowsOf : List Row → ℕ → ℕ → Type 0
AreRowsOf rows first count = map (λ (row : Row). row.leaf) rows ≡ range_with_len first count

-- what stands at a place is contained
pub contains_at : {A : Type 0} (xs : List A) (k : ℕ) (x : A) → slice_get xs k ≡ Some x → Contains xs x
contains_at xs k x is = (k, slice_get_within xs k x is, get_or_from_slice_get xs k x x is)

-- what holds of each row holds of that of a leaf
pub each_got : {A : Type 0} (P : A → Type 0) (xs : List A) (k : ℕ) (x : A) → AllByRecursion P xs → slice_get xs k ≡ Some x → P x
each_got P xs k x h is = each_at P xs x h (contains_at xs k x is)

-- the first one is contained
pub first_in : {A : Type 0} (x : A) (xs : List A) → Contains (x ∷ xs) x
first_in x xs = (0, omega arith, refl)

-- and so is what the others contain
pub later_in : {A : Type 0} (y : A) (xs : List A) (x : A) → Contains xs x → Contains (y ∷ xs) x
later_in y xs x h = Contains-append_right (y ∷ []) xs x h

-- the row at a place is that of a leaf
pub row_is : (rows : List Row) (first count u : ℕ) (row : Row) → AreRowsOf rows first count → slice_get rows u ≡ Some row → (u < count) × (row.leaf ≡ first + u)
row_is [] first count u row of is = cc
row_is (r ∷ rows) first zero u row of is = cc
row_is (r ∷ rows) first (suc count) zero row of is = let same : r ≡ row = cc in let leaf : r.leaf ≡ first = cc in (omega arith, ap (λ (x : Row). x.leaf) (sym same) ∙ leaf ∙ omega arith)
row_is (r ∷ rows) first (suc count) (suc u) row of is = let more = row_is rows (first + 1) count u row (cc) is in (omega (arith, more.0), more.1 ∙ omega arith)

-- and each leaf has one
pub row_there : (rows : List Row) (first count u : ℕ) → AreRowsOf rows first count → u < count → (row : Row) × (slice_get rows u ≡ Some row)
row_there rows first zero u of low = absurd (omega (arith, low))
row_there [] first (suc count) u of low = cc
row_there (r ∷ rows) first (suc count) zero of low = (r, refl)
row_there (r ∷ rows) first (suc count) (suc u) of low = row_there rows (first + 1) count u (cc) (omega (arith, low))

-- there are two ticks for each leaf
pub ticks_length : (rows : List Row) (first count : ℕ) → AreRowsOf rows first count → length (ticks_of rows) ≡ 2 * count
ticks_length [] first zero of = refl
ticks_length [] first (suc count) of = cc
ticks_length (r ∷ rows) first zero of = cc
ticks_length (r ∷ rows) first (suc count) of = let more = ticks_length rows (first + 1) count (cc) in omega (arith, more)

-- the ticks of a row are among those of the rows
pub ticks_in : (rows : List Row) (u : ℕ) (row : Row) → slice_get rows u ≡ Some row → Contains (ticks_of rows) row.start × Contains (ticks_of rows) row.end
ticks_in [] u row is = cc
ticks_in (r ∷ rows) zero row is =
    let same : r ≡ row = cc in
    rw (← same) (first_in r.start (r.end ∷ ticks_of rows), later_in r.start (r.end ∷ ticks_of rows) r.end (first_in r.end (ticks_of rows)))
ticks_in (r ∷ rows) (suc u) row is =
    let more = ticks_in rows u row is in (
      later_in r.start (r.end ∷ ticks_of rows) row.start (later_in r.end (ticks_of rows) row.start more.0),
      later_in r.start (r.end ∷ ticks_of rows) row.end (later_in r.end (ticks_of rows) row.end more.1),
    )
