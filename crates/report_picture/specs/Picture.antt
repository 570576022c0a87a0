-- The picture of a report: one document, whose text is what a program prints. The names are those of its objects with
-- the numbers 1, 2, and so on.
use Rattle.std.specs.Prelude.{ℕ, ◌+◌, ◌<◌, ◌^◌, ◌&&◌, Bool, List, [], ◌∷◌, length, codes, nat_le, if◌then◌else◌}
use Rattle.std.specs.List.{range_with_len}
use Rattle.batch_history.specs.Book.{flat}
use Rattle.batch_history.specs.declared.report.Report.{Report}
use Rattle.report_shares.specs.Shares.{width_of, shares_of}
use Rattle.report_picture.specs.Markup.{Part, Say, Number, Svg, Group, Namespace, Version, Width, Height, ViewBox, Transform, Fill, Family, Size, Markup, Nothing, Element, text_of, each}
use Rattle.report_picture.specs.Boxes.{lane_top, span_of, scale_of, across, boxes_of, brackets_of}
use Rattle.report_picture.specs.Drawing.{number, word, draw_box, draw_plain, draw_words, draw_lane, draw_ticks, draw_bracket, draw_legend, draw_bars}
use Rattle.report_picture.specs.Columns.{draw_share, draw_edges, draw_keys}

-- the document with this width and height, and this markup on a white ground
abbrev pub sheet : ℕ → ℕ → Markup → Markup
sheet width height inside =
    Element Svg (word Namespace (codes "http://www.w3.org/2000/svg") ∷ word Version (codes "1.1") ∷ number Width width ∷ number Height height
    ∷ record { key = ViewBox; value = Say (codes "0 0 ") ∷ Number width ∷ Say (codes " ") ∷ Number height ∷ [] }
    ∷ word Fill (codes "#1b1f24") ∷ word Family (codes "sans-serif") ∷ word Size (codes "13") ∷ [])
    (draw_plain 0 0 width height (codes "#ffffff") inside) Nothing

-- the caption: what the head line of the report states
abbrev pub caption : Report → List Part
caption report =
    Say (codes "workers ") ∷ Number report.workers ∷ Say (codes " leaves ") ∷ Number (length report.rows)
    ∷ Say (codes " calls ") ∷ Number (length (flat report.history)) ∷ Say (codes " batches ") ∷ Number (length report.history) ∷ []

-- the lanes with their boxes, where a tick takes `scale` pixels: all is drawn in ticks from the left end of the lanes
-- on
abbrev pub draw_boxes : List (List ℕ) → ℕ → Report → Markup → Markup
draw_boxes names scale report behind =
    Element Group (record { key = Transform; value = Say (codes "translate(96 0) scale(") ∷ Number scale ∷ Say (codes " 1)") ∷ [] } ∷ [])
    (each draw_box (boxes_of names report) Nothing) behind

-- the drawing of a report with a box for each row, where `span` ticks take `scale` pixels each
abbrev pub box_drawing : List (List ℕ) → ℕ → ℕ → Report → Markup
box_drawing names span scale report =
    let foot = lane_top report.workers in
    let right = across scale span in
    sheet (right + 24) (foot + 140)
    (draw_words 16 28 (caption report)
    (draw_ticks scale foot (length report.rows)
    (each (draw_lane right) (range_with_len 0 report.workers)
    (draw_boxes names scale report
    (draw_words 16 (foot + 59) (Say (codes "batches") ∷ [])
    (each (draw_bracket names scale foot) (brackets_of report)
    (draw_legend foot Nothing)))))))

-- the drawing of a report without boxes: what each worker does in each column of ticks, and how many batches have how
-- many calls
abbrev pub column_drawing : Report → Markup
column_drawing report =
    let foot = lane_top report.workers in
    let width = width_of (length report.rows) in
    sheet 1080 (foot + 752)
    (draw_words 16 28 (caption report)
    (draw_edges foot width (length report.rows)
    (each (draw_lane 1056) (range_with_len 0 report.workers)
    (each (draw_share width) (shares_of report)
    (draw_keys foot width
    (draw_words 16 (foot + 84) (Say (codes "batches by their number of calls (past 2000 leaves no box is drawn for a leaf)") ∷ [])
    (draw_bars (foot + 96) report.history Nothing)))))))

-- whether a box is drawn for each row: where there are at most 2000 rows, and at most 2000 calls
abbrev pub has_boxes : Report → Bool
has_boxes report = nat_le (length report.rows) 2000 && nat_le (length (flat report.history)) 2000

-- the numbers of rows and of calls that can be drawn
pub record CanBeDrawn (report : Report) : Type 0 where
  pub rows : length report.rows < 2 ^ 32
  pub calls : length (flat report.history) < 2 ^ 32

abbrev pub drawing : List (List ℕ) → Report → Markup
drawing names report =
    if has_boxes report then box_drawing names (span_of (length report.rows)) (scale_of (span_of (length report.rows))) report
    else column_drawing report

-- the picture of a report
unfoldable pub picture : List (List ℕ) → Report → List ℕ
picture names report = text_of (drawing names report)
