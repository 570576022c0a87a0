-- The attributes of each element of a drawing have different names.
use Rattle.std.proofs.Common.{ℕ, ◌+◌, ◌*◌, Bool, true, false, List, [], ◌∷◌, length, refl}
use Rattle.std.specs.Prelude.{codes, if◌then◌else◌}
use Rattle.std.specs.List.{range_with_len}
use Rattle.batch_history.specs.declared.batch.Entry.{Entry}
use Rattle.batch_history.specs.declared.report.Report.{Report}
use Rattle.report_shares.specs.Shares.{width_of, shares_of}
use Rattle.report_shares.specs.declared.share.Share.{Share}
use Rattle.report_picture.specs.Markup.{Say, Number, Markup, Nothing, each}
use Rattle.report_picture.specs.Names.{NamesDiffer}
use Rattle.report_picture.specs.Boxes.{lane_top, span_of, scale_of, across, marks_of, Box, boxes_of, Bracket, brackets_of, sized}
use Rattle.report_picture.specs.Drawing.{draw_box, draw_words, draw_lane, draw_tick, draw_calls, draw_bracket, draw_legend, draw_bar, draw_bars}
use Rattle.report_picture.specs.Columns.{column_left, edges_of, draw_share, draw_keys}
use Rattle.report_picture.specs.Picture.{box_drawing, column_drawing, has_boxes, drawing, draw_boxes}

each_differs : {A : Type 0} (draw : A → Markup → Markup) → ((x : A) (behind : Markup) → NamesDiffer behind → NamesDiffer (draw x behind))
    → (xs : List A) (behind : Markup) → NamesDiffer behind → NamesDiffer (each draw xs behind)
each_differs draw one [] behind differ = differ
each_differs draw one (x ∷ xs) behind differ = one x (each draw xs behind) (each_differs draw one xs behind differ)

box_differs : (box : Box) (behind : Markup) → NamesDiffer behind → NamesDiffer (draw_box box behind)
box_differs box behind differ = (refl, (refl, tt, tt), differ)

lane_differs : (right worker : ℕ) (behind : Markup) → NamesDiffer behind → NamesDiffer (draw_lane right worker behind)
lane_differs right worker behind differ = (refl, (refl, tt, (refl, tt, tt)), differ)

tick_differs : (left foot tick : ℕ) (behind : Markup) → NamesDiffer behind → NamesDiffer (draw_tick left foot tick behind)
tick_differs left foot tick behind differ = (refl, (refl, tt, (refl, tt, tt)), differ)

calls_differ : (names : List (List ℕ)) (scale foot batch place serial : ℕ) (entries : List Entry) (behind : Markup) → NamesDiffer behind → NamesDiffer (draw_calls names scale foot batch place serial entries behind)
calls_differ names scale foot batch place serial [] behind differ = differ
calls_differ names scale foot batch place serial (entry ∷ entries) behind differ =
    (refl, (refl, tt, tt), calls_differ names scale foot batch (place + 1) (serial + 1) entries behind differ)

number_differs : (wide : Bool) (left base batch : ℕ) → NamesDiffer (if wide then draw_words left base (Number batch ∷ []) Nothing else Nothing)
number_differs true left base batch = (refl, tt, tt)
number_differs false left base batch = tt

bracket_differs : (names : List (List ℕ)) (scale foot : ℕ) (bracket : Bracket) (behind : Markup) → NamesDiffer behind → NamesDiffer (draw_bracket names scale foot bracket behind)
bracket_differs names scale foot bracket behind differ =
    (refl, (refl, tt, calls_differ names scale foot bracket.batch 0 bracket.first bracket.entries _ (refl, tt, number_differs _ _ _ bracket.batch)), differ)

share_differs : (width : ℕ) (share : Share) (behind : Markup) → NamesDiffer behind → NamesDiffer (draw_share width share behind)
share_differs width share behind differ = (refl, (refl, tt, (refl, tt, (refl, tt, (refl, tt, tt)))), differ)

keys_differ : (foot width : ℕ) (behind : Markup) → NamesDiffer behind → NamesDiffer (draw_keys foot width behind)
keys_differ foot width behind differ = (refl, (refl, tt, (refl, tt, (refl, tt, (refl, tt, (refl, tt, (refl, tt, tt)))))), differ)

bar_differs : (top mark count batches : ℕ) (behind : Markup) → NamesDiffer behind → NamesDiffer (draw_bar top mark count batches behind)
bar_differs top mark count batches behind differ = (refl, (refl, tt, (refl, tt, (refl, tt, tt))), differ)

legend_differs : (foot : ℕ) → NamesDiffer (draw_legend foot Nothing)
legend_differs foot = (refl, (refl, tt, (refl, tt, (refl, tt, (refl, tt, tt)))), tt)

boxes_differ : (names : List (List ℕ)) (span scale : ℕ) (report : Report) → NamesDiffer (box_drawing names span scale report)
boxes_differ names span scale report =
    let foot = lane_top report.workers in
    let right = across scale span in
    let legend : Markup = draw_legend foot Nothing in
    let brackets : Markup = each (draw_bracket names scale foot) (brackets_of report) legend in
    let named : Markup = draw_words 16 (foot + 59) (Say (codes "batches") ∷ []) brackets in
    let boxed : Markup = draw_boxes names scale report named in
    let lanes : Markup = each (draw_lane right) (range_with_len 0 report.workers) boxed in
    let h : NamesDiffer brackets = each_differs (draw_bracket names scale foot) (bracket_differs names scale foot) (brackets_of report) legend (legend_differs foot) in
    let i : NamesDiffer boxed = (refl, each_differs draw_box box_differs (boxes_of names report) Nothing tt, (refl, tt, h)) in
    let j : NamesDiffer lanes = each_differs (draw_lane right) (lane_differs right) (range_with_len 0 report.workers) boxed i in (
      refl,
      (
        refl,
        tt,
        (
          refl,
          tt,
          each_differs (λ tick. draw_tick (across scale tick) foot tick) (λ tick. tick_differs (across scale tick) foot tick) (marks_of (length report.rows)) lanes j,
        ),
      ),
      tt,
    )

columns_differ : (report : Report) → NamesDiffer (column_drawing report)
columns_differ report =
    let foot = lane_top report.workers in
    let width = width_of (length report.rows) in
    let note = Say (codes "batches by their number of calls (past 2000 leaves no box is drawn for a leaf)") ∷ [] in
    let bars : Markup = draw_bars (foot + 96) report.history Nothing in
    let noted : Markup = draw_words 16 (foot + 84) note bars in
    let keys : Markup = draw_keys foot width noted in
    let shares : Markup = each (draw_share width) (shares_of report) keys in
    let lanes : Markup = each (draw_lane 1056) (range_with_len 0 report.workers) shares in
    let h : NamesDiffer bars =
    each_differs (λ mark. draw_bar (foot + 96) mark (sized (mark + 1) report.history) (length report.history))
    (λ mark. bar_differs (foot + 96) mark (sized (mark + 1) report.history) (length report.history)) (range_with_len 0 32) Nothing tt in
    let i : NamesDiffer noted = (refl, tt, h) in
    let j : NamesDiffer shares = each_differs (draw_share width) (share_differs width) (shares_of report) keys (keys_differ foot width noted i) in
    let k : NamesDiffer lanes = each_differs (draw_lane 1056) (lane_differs 1056) (range_with_len 0 report.workers) shares j in (
      refl,
      (
        refl,
        tt,
        (
          refl,
          tt,
          each_differs (λ column. draw_tick (column_left column) foot (column * width)) (λ column. tick_differs (column_left column) foot (column * width))
              (edges_of width (length report.rows)) lanes k,
        ),
      ),
      tt,
    )

either : (boxed : Bool) (drawn joined : Markup) → NamesDiffer drawn → NamesDiffer joined → NamesDiffer (if boxed then drawn else joined)
either true drawn joined differ differ' = differ
either false drawn joined differ differ' = differ'

pub names_differ : (names : List (List ℕ)) (report : Report) → NamesDiffer (drawing names report)
names_differ names report =
    let span = span_of (length report.rows) in
    either (has_boxes report) (box_drawing names span (scale_of span) report) (column_drawing report) (boxes_differ names span (scale_of span) report) (columns_differ report)
