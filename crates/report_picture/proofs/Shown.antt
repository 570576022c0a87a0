-- The elements of a drawing: one `svg`, and in the group of the boxes a rectangle for each.
use Rattle.std.proofs.Common.{ℕ, ◌≡◌, ◌+◌, ◌-◌, ◌*◌, Bool, true, false, List, [], ◌∷◌, ◌++◌, length, Some, refl, ap, subst, ◌∙◌, append-nil}
use Rattle.std.specs.Prelude.{codes, is_some, nat_le, if◌then◌else◌}
use Rattle.std.specs.Fmt.{decimal}
use Rattle.std.specs.List.{filter, range_with_len, AllZip}
use Rattle.std.proofs.lemmas.List.Elements.{filter-append}
use Rattle.batch_history.specs.declared.batch.Entry.{Entry}
use Rattle.batch_history.specs.declared.report.Report.{Report}
use Rattle.report_picture.specs.Markup.{Say, Number, Markup, Nothing, each}
use Rattle.report_picture.specs.Elements.{Elements, Found, all_in, value_of, all_called}
use Rattle.report_picture.specs.WellFormed.{AreContents}
use Rattle.report_picture.specs.Boxes.{lane_top, span_of, scale_of, across, marks_of, Box, boxes_of, Bracket, brackets_of}
use Rattle.report_picture.specs.Drawing.{draw_box, draw_line, draw_words, draw_lane, draw_tick, draw_calls, draw_number, draw_bracket, draw_legend}
use Rattle.report_picture.specs.Picture.{box_drawing, column_drawing, has_boxes, drawing, draw_boxes, picture}
use Rattle.report_picture.specs.Shown.{IsSvg, HasNumbers, ShowsBoxes}
use Rattle.report_picture.proofs.WellFormed.{elements_in, pictures_are_contents}
use Rattle.report_picture.proofs.Reading.{one_reading}

-- the elements that are moved
abbrev moves : Found → Bool
moves found = is_some (value_of (codes "transform") found.attributes)

abbrev moved : Markup → List Found
moved markup = filter moves (all_in (elements_in markup))

-- what is drawn of several things moves nothing, where what is drawn of each moves nothing
each_still : {A : Type 0} (draw : A → Markup → Markup) → ((x : A) (behind : Markup) → moved (draw x behind) ≡ moved behind)
    → (xs : List A) (behind : Markup) → moved (each draw xs behind) ≡ moved behind
each_still draw still [] behind = refl
each_still draw still (x ∷ xs) behind = still x (each draw xs behind) ∙ each_still draw still xs behind

box_still : (box : Box) (behind : Markup) → moved (draw_box box behind) ≡ moved behind
box_still box behind = refl

lane_still : (right worker : ℕ) (behind : Markup) → moved (draw_lane right worker behind) ≡ moved behind
lane_still right worker behind = refl

tick_still : (left foot tick : ℕ) (behind : Markup) → moved (draw_tick left foot tick behind) ≡ moved behind
tick_still left foot tick behind = refl

calls_still : (names : List (List ℕ)) (scale foot batch place serial : ℕ) (entries : List Entry) (behind : Markup)
    → moved (draw_calls names scale foot batch place serial entries behind) ≡ moved behind
calls_still names scale foot batch place serial [] behind = refl
calls_still names scale foot batch place serial (entry ∷ entries) behind = calls_still names scale foot batch (place + 1) (serial + 1) entries behind

number_still : (wide : Bool) (left base batch : ℕ) → moved (if wide then draw_words left base (Number batch ∷ []) Nothing else Nothing) ≡ []
number_still true left base batch = refl
number_still false left base batch = refl

bracket_still : (names : List (List ℕ)) (scale foot : ℕ) (bracket : Bracket) (behind : Markup) → moved (draw_bracket names scale foot bracket behind) ≡ moved behind
bracket_still names scale foot bracket behind =
    let left = across (2 * scale) bracket.first in
    let right = across (2 * scale) (bracket.first + length bracket.entries) - 3 in
    let under : Markup = draw_line (Say (codes "M") ∷ Number left ∷ Say (codes " ") ∷ Number (foot + 67) ∷ Say (codes "v6H") ∷ Number right ∷ Say (codes "v-6") ∷ []) (codes "#57606a")
    (draw_number left (right - left) (foot + 89) bracket.batch Nothing) in
    filter-append moves (all_in (elements_in (draw_calls names scale foot bracket.batch 0 bracket.first bracket.entries under))) (all_in (elements_in behind))
    ∙ ap (λ found. found ++ moved behind) (calls_still names scale foot bracket.batch 0 bracket.first bracket.entries under ∙ number_still (nat_le 32 (right - left)) left (foot + 89) bracket.batch)

-- a rectangle for each box, and no other
rects_shown : (boxes : List Box) → AllZip HasNumbers boxes (all_called (codes "rect") (elements_in (each draw_box boxes Nothing)))
rects_shown [] = tt
rects_shown (box ∷ boxes) = (
  record {
    x = ap Some (append-nil (decimal box.left));
    y = ap Some (append-nil (decimal box.top));
    width = ap Some (append-nil (decimal box.width));
    height = ap Some (append-nil (decimal box.height));
  },
  rects_shown boxes,
)

-- what stands in the drawing with boxes is not moved, but for the group of the boxes
module _ (names : List (List ℕ)) (span scale : ℕ) (report : Report) where
  abbrev behind_boxes : Markup
  behind_boxes = draw_words 16 (lane_top report.workers + 59) (Say (codes "batches") ∷ [])
      (each (draw_bracket names scale (lane_top report.workers)) (brackets_of report) (draw_legend (lane_top report.workers) Nothing))

  abbrev group_of : Found
  group_of = record {
    name = codes "g";
    attributes = record { name = codes "transform"; value = codes "translate(96 0) scale(" ++ (decimal scale ++ codes " 1)") } ∷ [];
    inside = elements_in (each draw_box (boxes_of names report) Nothing);
  }

  behind_still : moved behind_boxes ≡ []
  behind_still = each_still (draw_bracket names scale (lane_top report.workers)) (bracket_still names scale (lane_top report.workers)) (brackets_of report) (draw_legend (lane_top report.workers) Nothing)

  boxes_moved : moved (draw_boxes names scale report behind_boxes) ≡ group_of ∷ []
  boxes_moved =
      ap (λ found. group_of ∷ found) (filter-append moves (all_in (elements_in (each draw_box (boxes_of names report) Nothing))) (all_in (elements_in behind_boxes))
      ∙ ap (λ found. found ++ moved behind_boxes) (each_still draw_box box_still (boxes_of names report) Nothing) ∙ behind_still)

  lanes_moved : moved (each (draw_lane (across scale span)) (range_with_len 0 report.workers) (draw_boxes names scale report behind_boxes)) ≡ group_of ∷ []
  lanes_moved = each_still (draw_lane (across scale span)) (lane_still (across scale span)) (range_with_len 0 report.workers) (draw_boxes names scale report behind_boxes) ∙ boxes_moved

  abbrev inner : Markup
  inner = each (draw_lane (across scale span)) (range_with_len 0 report.workers) (draw_boxes names scale report behind_boxes)

  ticks_moved : moved (each (λ tick. draw_tick (across scale tick) (lane_top report.workers) tick) (marks_of (length report.rows)) inner) ≡ group_of ∷ []
  ticks_moved =
      each_still (λ tick. draw_tick (across scale tick) (lane_top report.workers) tick) (λ tick. tick_still (across scale tick) (lane_top report.workers) tick) (marks_of (length report.rows)) inner ∙ lanes_moved

  pub drawing_shows : ShowsBoxes (boxes_of names report) scale (elements_in (box_drawing names span scale report))
  drawing_shows = record {
    group = group_of;
    one = ap (filter moves) (append-nil (all_in (elements_in (each (λ tick. draw_tick (across scale tick) (lane_top report.workers) tick) (marks_of (length report.rows)) inner)))) ∙ ticks_moved;
    moved = refl;
    rects = rects_shown (boxes_of names report);
  }

svg_of : (boxed : Bool) (names : List (List ℕ)) (span scale : ℕ) (report : Report) → IsSvg (elements_in (if boxed then box_drawing names span scale report else column_drawing report))
svg_of true names span scale report = record { attributes = _; inside = _; is = refl }
svg_of false names span scale report = record { attributes = _; inside = _; is = refl }

pub one_svg : (names : List (List ℕ)) (report : Report) (elements : Elements) → AreContents (picture names report) elements → IsSvg elements
one_svg names report elements are =
    let span = span_of (length report.rows) in
    subst IsSvg (one_reading (picture names report) (elements_in (drawing names report)) elements (pictures_are_contents names report) are)
    (svg_of (has_boxes report) names span (scale_of span) report)

shows_where : (boxed : Bool) (names : List (List ℕ)) (span scale : ℕ) (report : Report) → boxed ≡ true
    → ShowsBoxes (boxes_of names report) scale (elements_in (if boxed then box_drawing names span scale report else column_drawing report))
shows_where true names span scale report is = drawing_shows names span scale report
shows_where false names span scale report is = cc (is)

pub boxes_shown : (names : List (List ℕ)) (report : Report) (elements : Elements) → has_boxes report ≡ true → AreContents (picture names report) elements
    → ShowsBoxes (boxes_of names report) (scale_of (span_of (length report.rows))) elements
boxes_shown names report elements boxed are =
    let span = span_of (length report.rows) in
    subst (ShowsBoxes (boxes_of names report) (scale_of span)) (one_reading (picture names report) (elements_in (drawing names report)) elements (pictures_are_contents names report) are)
    (shows_where (has_boxes report) names span (scale_of span) report boxed)
