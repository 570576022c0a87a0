-- The drawing that a report has.
use Rattle.std.proofs.Common.{ℕ, ◌≡◌, ◌≢◌, ◌≤◌, true, false, List, [], ◌∷◌, length, refl, ap, ◌∙◌, arith, length-append}
use Rattle.std.specs.Prelude.{nat_le, if◌then◌else◌}
use Rattle.std.specs.List.{AllByRecursion}
use Rattle.batch_history.specs.Book.{flat}
use Rattle.batch_history.specs.declared.batch.Entry.{Entry}
use Rattle.batch_history.specs.declared.report.Report.{Report}
use Rattle.report_picture.specs.Markup.{text_of}
use Rattle.report_picture.specs.Boxes.{span_of, scale_of}
use Rattle.report_picture.specs.Picture.{box_drawing, column_drawing, has_boxes, picture}
use Rattle.report_picture.specs.Code.Texts.{drawing_text, columns_text}
use Rattle.report_picture.proofs.Written.{drawing_is}
use Rattle.report_picture.proofs.ColumnTexts.{columns_are}
use Rattle.std.proofs.lemmas.Bool.{and_parts, leb-true}

pub few_rows : (report : Report) → has_boxes report ≡ true → length report.rows ≤ 2000
few_rows report e = leb-true (length report.rows) 2000 (and_parts (nat_le (length report.rows) 2000) (nat_le (length (flat report.history)) 2000) e).0

pub few_calls : (report : Report) → has_boxes report ≡ true → length (flat report.history) ≤ 2000
few_calls report e = leb-true (length (flat report.history)) 2000 (and_parts (nat_le (length report.rows) 2000) (nat_le (length (flat report.history)) 2000) e).1

-- where no batch is empty, there are no more batches than calls
pub few_batches : (book : List (List Entry)) → AllByRecursion (λ batch. batch ≢ []) book → length book ≤ length (flat book)
few_batches [] some = omega arith
few_batches ([] ∷ book) some = absurd (some.0 refl)
few_batches ((entry ∷ entries) ∷ book) some = let h = few_batches book some.1 in omega (arith, h, length-append entries (flat book))

pub boxed : (names : List (List ℕ)) (report : Report) → has_boxes report ≡ true → picture names report ≡ drawing_text names (span_of (length report.rows)) (scale_of (span_of (length report.rows))) report
unfolding picture
boxed names report e =
    ap (λ b. text_of (if b then box_drawing names (span_of (length report.rows)) (scale_of (span_of (length report.rows))) report else column_drawing report)) e
    ∙ drawing_is names (span_of (length report.rows)) (scale_of (span_of (length report.rows))) report

pub joined : (names : List (List ℕ)) (report : Report) → has_boxes report ≡ false → picture names report ≡ columns_text report
unfolding picture
joined names report e =
    ap (λ b. text_of (if b then box_drawing names (span_of (length report.rows)) (scale_of (span_of (length report.rows))) report else column_drawing report)) e ∙ columns_are report
