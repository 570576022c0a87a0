-- The boxes of rows, and when they are apart.
use Rattle.std.proofs.Common.{ℕ, zero, suc, ◌≡◌, ◌<◌, ◌⊎◌, inl, inr, List, [], ◌∷◌, Option, Some, None, map, refl, sym, ◌∙◌, subst, arith}
use Rattle.std.specs.Prelude.{slice_get}
use Rattle.std.specs.List.{AllZip, AllByRecursion}
use Rattle.sp_order.specs.Jobs.{JobValue}
use Rattle.batch_history.specs.Lawful.{Lawful}
use Rattle.batch_history.specs.Places.{place_of}
use Rattle.batch_history.specs.declared.batch.Entry.{Entry}
use Rattle.batch_history.specs.declared.place.Place.{Place}
use Rattle.batch_history.specs.declared.row.Row.{Row}
use Rattle.batch_history.specs.declared.report.Report.{Report}
use Rattle.report_picture.specs.Boxes.{Box, box_for, box_of}
use Rattle.report_picture.specs.Meaning.{IsInLane, IsBoxOf, HasBoxes, AreApart, KeepsApart}

box_fits : (names : List (List ℕ)) (found : Option Place) (row : Row) → IsBoxOf row (box_for names found row)
box_fits names None row = record { lane = record { below = omega arith; above = omega arith }; starts = refl; ends = λ le. omega (arith, le) }
box_fits names (Some place) row = record { lane = record { below = omega arith; above = omega arith }; starts = refl; ends = λ le. omega (arith, le) }

boxes_fit : (names : List (List ℕ)) (book : List (List Entry)) (rows : List Row) → AllZip IsBoxOf rows (map (box_of names book) rows)
boxes_fit names book [] = tt
boxes_fit names book (row ∷ rows) = (box_fits names (place_of book row.leaf) row, boxes_fit names book rows)

pub has_boxes : (names : List (List ℕ)) (report : Report) → HasBoxes names report
has_boxes names report = boxes_fit names report.history report.rows

-- the row of a box
record RowOf (rows : List Row) (u : ℕ) (box : Box) : Type 0 where
  row : Row
  at : slice_get rows u ≡ Some row
  starts_first : row.start < row.end
  fits : IsBoxOf row box

row_of : (names : List (List ℕ)) (book : List (List Entry)) (rows : List Row) (u : ℕ) (box : Box) → AllByRecursion (λ row. row.start < row.end) rows
    → slice_get (map (box_of names book) rows) u ≡ Some box → RowOf rows u box
row_of names book [] u box first is = cc
row_of names book (row ∷ rows) zero box first is =
    let same : box_of names book row ≡ box = cc in
    record { row = row; at = refl; starts_first = first.0; fits = subst (λ b. IsBoxOf row b) same (box_fits names (place_of book row.leaf) row) }
row_of names book (row ∷ rows) (suc u) box first is =
    let found = row_of names book rows u box first.1 is in
    record { row = found.row; at = found.at; starts_first = found.starts_first; fits = found.fits }

one_worker : (worker : ℕ) (row : Row) (box : Box) → IsBoxOf row box → IsInLane worker box → row.worker ≡ worker
one_worker worker row box fits lane = omega (arith, fits.lane.below, fits.lane.above, lane.below, lane.above)

apart : (row row' : Row) (box other : Box) → row.start < row.end → row'.start < row'.end → IsBoxOf row box → IsBoxOf row' other
    → (row.end < row'.start) ⊎ (row'.end < row.start) → AreApart box other
apart row row' box other first first' fits fits' (inl before) = inl (omega (arith, before, fits.ends (omega (arith, first)), fits'.starts))
apart row row' box other first first' fits fits' (inr after) = inr (omega (arith, after, fits'.ends (omega (arith, first')), fits.starts))

pub keeps_apart : (job : JobValue) (workers : ℕ) (names : List (List ℕ)) (report : Report) → Lawful job workers report → KeepsApart names report
keeps_apart job workers names report lawful u v worker box other differ is is' lane lane' =
    let a = row_of names report.history report.rows u box lawful.rows.starts_first is in
    let b = row_of names report.history report.rows v other lawful.rows.starts_first is' in
    let same : a.row.worker ≡ b.row.worker = one_worker worker a.row box a.fits lane ∙ sym (one_worker worker b.row other b.fits lane') in
    apart a.row b.row box other a.starts_first b.starts_first a.fits b.fits (lawful.order.alone u v differ a.row a.at b.row b.at same)
