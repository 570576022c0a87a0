-- The text of markup, part by part.
use Rattle.std.proofs.Common.{ℕ, ◌≡◌, ◌+◌, ◌*◌, ◌/◌, ◌-◌, List, [], ◌∷◌, ◌++◌, length, map, refl, ap, sym, ◌∙◌, append_assoc, Option, Some, None, Bool, true, false}
use Rattle.std.specs.Prelude.{codes, nat_le, nat_lt, if◌then◌else◌}
use Rattle.std.specs.Fmt.{decimal}
use Rattle.std.specs.List.{filter, flat_map, range_with_len}
use Rattle.seq_objects.specs.Words.{op_words}
use Rattle.batch_history.specs.Book.{flat}
use Rattle.batch_history.specs.Places.{place_of}
use Rattle.batch_history.specs.declared.batch.Entry.{Entry}
use Rattle.batch_history.specs.declared.place.Place.{Place}
use Rattle.batch_history.specs.declared.row.Row.{Row}
use Rattle.batch_history.specs.declared.report.Report.{Report}
use Rattle.report_picture.specs.Markup.{Part, Say, Number, Attribute, Markup, Nothing, Words, Element, escaped, key_name, tag_name, parts_onto, attributes_onto, markup_onto, text_of, each}
use Rattle.report_picture.specs.Boxes.{lane_top, span_of, across, batch_colour, box_for, box_of, Bracket, brackets_of}
use Rattle.report_picture.specs.Drawing.{draw_box, draw_line, draw_words, draw_lane, draw_tick, draw_ticks, draw_rect, call_title, draw_calls, draw_number, draw_bracket, draw_legend}
use Rattle.report_picture.specs.Code.Texts.{rect_front, ticks_text, work_text, called_text, box_text, words_front, light_end, lane_text, tick_text, call_front, served_text, call_text, calls_text, number_text, line_text, under_text, bracket_line, bracket_text, legend_text, lanes_text, marks_text, boxes_text, group_text, strip_name, brackets_text, sheet_top, sheet_front, caption_text, drawing_text}
use Rattle.report_picture.specs.Picture.{sheet, caption, draw_boxes, box_drawing}

-- what is drawn of each of several things is one text behind another
pub each_drawn : {A : Type 0} (draw : A → Markup → Markup) (line : A → List ℕ)
    → ((x : A) (behind : Markup) (rest : List ℕ) → markup_onto (draw x behind) rest ≡ line x ++ markup_onto behind rest)
    → (xs : List A) (behind : Markup) (rest : List ℕ) → markup_onto (each draw xs behind) rest ≡ flat_map line xs ++ markup_onto behind rest
each_drawn draw line one [] behind rest = refl
each_drawn draw line one (x ∷ xs) behind rest =
    one x (each draw xs behind) rest
    ∙ (ap (λ t. line x ++ t) (each_drawn draw line one xs behind rest) ∙ sym (append_assoc (line x) (flat_map line xs) (markup_onto behind rest)))

-- what is drawn of those of several numbers that are kept is the text of each of these, one behind another
module _ (draw : ℕ → Markup → Markup) (line : ℕ → List ℕ) (one : (n : ℕ) (behind : Markup) (rest : List ℕ) → markup_onto (draw n behind) rest ≡ line n ++ markup_onto behind rest) where
  one_kept : (kept : Bool) (n : ℕ) (ns more : List ℕ) (behind : Markup) (rest : List ℕ) → markup_onto (each draw ns behind) rest ≡ more ++ markup_onto behind rest
      → markup_onto (each draw (if kept then n ∷ ns else ns) behind) rest ≡ ((if kept then line n else []) ++ more) ++ markup_onto behind rest
  one_kept true n ns more behind rest is = one n (each draw ns behind) rest ∙ (ap (λ t. line n ++ t) is ∙ sym (append_assoc (line n) more (markup_onto behind rest)))
  one_kept false n ns more behind rest is = is

  pub kept_drawn : (keeps : ℕ → Bool) (number : ℕ → ℕ) (marks : List ℕ) (behind : Markup) (rest : List ℕ)
      → markup_onto (each draw (filter keeps (map number marks)) behind) rest ≡ flat_map (λ mark. if keeps (number mark) then line (number mark) else []) marks ++ markup_onto behind rest
  kept_drawn keeps number [] behind rest = refl
  kept_drawn keeps number (mark ∷ marks) behind rest =
      one_kept (keeps (number mark)) (number mark) (filter keeps (map number marks)) (flat_map (λ m. if keeps (number m) then line (number m) else []) marks) behind rest
      (kept_drawn keeps number marks behind rest)

pub parts_behind : (parts : List Part) (front rest : List ℕ) → parts_onto parts (front ++ rest) ≡ parts_onto parts front ++ rest
parts_behind [] front rest = refl
parts_behind (Say bytes ∷ parts) front rest =
    ap (λ t. escaped bytes ++ t) (parts_behind parts front rest) ∙ sym (append_assoc (escaped bytes) (parts_onto parts front) rest)
parts_behind (Number number ∷ parts) front rest =
    ap (λ t. decimal number ++ t) (parts_behind parts front rest) ∙ sym (append_assoc (decimal number) (parts_onto parts front) rest)

pub attributes_behind : (attributes : List Attribute) (front rest : List ℕ) → attributes_onto attributes (front ++ rest) ≡ attributes_onto attributes front ++ rest
attributes_behind [] front rest = refl
attributes_behind (attribute ∷ attributes) front rest =
    let more = codes "\"" ++ attributes_onto attributes front in
    let value : parts_onto attribute.value (codes "\"" ++ attributes_onto attributes (front ++ rest)) ≡ parts_onto attribute.value more ++ rest =
    ap (λ t. parts_onto attribute.value (codes "\"" ++ t)) (attributes_behind attributes front rest) ∙ parts_behind attribute.value more rest in
    ap (λ t. codes " " ++ (key_name attribute.key ++ (codes "=\"" ++ t))) value
    ∙ ap (λ t. codes " " ++ t) (sym (append_assoc (key_name attribute.key) (codes "=\"" ++ parts_onto attribute.value more) rest))

pub markup_behind : (markup : Markup) (front rest : List ℕ) → markup_onto markup (front ++ rest) ≡ markup_onto markup front ++ rest
markup_behind Nothing front rest = refl
markup_behind (Words parts behind) front rest =
    ap (parts_onto parts) (markup_behind behind front rest) ∙ parts_behind parts (markup_onto behind front) rest
markup_behind (Element tag attributes inside behind) front rest =
    let close = codes "</" ++ (tag_name tag ++ (codes ">\n" ++ markup_onto behind front)) in
    let closed : codes "</" ++ (tag_name tag ++ (codes ">\n" ++ markup_onto behind (front ++ rest))) ≡ close ++ rest =
    ap (λ t. codes "</" ++ (tag_name tag ++ (codes ">\n" ++ t))) (markup_behind behind front rest)
    ∙ ap (λ t. codes "</" ++ t) (sym (append_assoc (tag_name tag) (codes ">\n" ++ markup_onto behind front) rest)) in
    let filled = codes ">" ++ markup_onto inside close in
    let inner : codes ">" ++ markup_onto inside (close ++ rest) ≡ filled ++ rest = ap (λ t. codes ">" ++ t) (markup_behind inside close rest) in
    ap (λ t. codes "<" ++ (tag_name tag ++ attributes_onto attributes (codes ">" ++ markup_onto inside t))) closed
    ∙ (ap (λ t. codes "<" ++ (tag_name tag ++ attributes_onto attributes t)) inner
    ∙ (ap (λ t. codes "<" ++ (tag_name tag ++ t)) (attributes_behind attributes filled rest)
    ∙ ap (λ t. codes "<" ++ t) (sym (append_assoc (tag_name tag) (attributes_onto attributes filled) rest))))

-- a rectangle with this text behind its front
abbrev rect_text : ℕ → ℕ → ℕ → ℕ → List ℕ → List ℕ → List ℕ
rect_text left top width height colour rest =
    codes "<rect x=\"" ++ (decimal left ++ (codes "\" y=\"" ++ (decimal top ++ (codes "\" width=\"" ++ (decimal width ++ (codes "\" height=\"" ++ (decimal height
    ++ (codes "\" fill=\"" ++ (escaped colour ++ (codes "\">" ++ rest))))))))))

pub rect_behind : (left top width height : ℕ) (colour rest : List ℕ) → rect_front left top width height colour ++ rest ≡ rect_text left top width height colour rest
unfolding rect_front
rect_behind left top width height colour rest = simp append_assoc refl

top_behind : (width height : ℕ) (rest : List ℕ) → sheet_top width height ++ rest
    ≡ codes "<svg xmlns=\"http://www.w3.org/2000/svg\" version=\"1.1\" width=\"" ++ (decimal width ++ (codes "\" height=\"" ++ (decimal height ++ (codes "\" viewBox=\"0 0 " ++ (decimal width ++ (codes " " ++ (decimal height ++ (codes "\" fill=\"#1b1f24\" font-family=\"sans-serif\" font-size=\"13\">" ++ rest))))))))
unfolding sheet_top
top_behind width height rest = simp append_assoc refl

pub words_behind : (left base : ℕ) (rest : List ℕ) → words_front left base ++ rest ≡ codes "<text x=\"" ++ (decimal left ++ (codes "\" y=\"" ++ (decimal base ++ (codes "\">" ++ rest))))
unfolding words_front
words_behind left base rest = simp append_assoc refl

work_is : (row : Row) → work_text row ≡ markup_onto (draw_box (box_for [] None row) Nothing) []
unfolding ticks_text work_text
work_is row = rect_behind row.start (lane_top row.worker + 9) (row.end - row.start) 10 (codes "#6e7781") (codes "<title>leaf " ++ (decimal row.leaf ++ (codes ": work" ++ ticks_text row)))

pub lane_drawn : (right worker : ℕ) (behind : Markup) (rest : List ℕ) → markup_onto (draw_lane right worker behind) rest ≡ lane_text right worker ++ markup_onto behind rest
unfolding words_front light_end lane_text
lane_drawn right worker behind rest = simp append_assoc refl

pub tick_drawn : (left foot tick : ℕ) (behind : Markup) (rest : List ℕ) → markup_onto (draw_tick left foot tick behind) rest ≡ tick_text left foot tick ++ markup_onto behind rest
unfolding words_front light_end tick_text
tick_drawn left foot tick behind rest = simp append_assoc refl

legend_is : (foot : ℕ) → legend_text foot ≡ markup_onto (draw_legend foot Nothing) []
unfolding legend_text
legend_is foot =
    let last = codes "a call, in the colour of its batch</text>\n</g>\n" in
    let third : rect_front 192 (foot + 108) 24 20 (codes "#0072b2") ++ (codes "</rect>\n" ++ (words_front 224 (foot + 123) ++ last)) ≡ _ =
    rect_behind 192 (foot + 108) 24 20 (codes "#0072b2") (codes "</rect>\n" ++ (words_front 224 (foot + 123) ++ last))
    ∙ ap (λ t. rect_text 192 (foot + 108) 24 20 (codes "#0072b2") (codes "</rect>\n" ++ t)) (words_behind 224 (foot + 123) last) in
    ap (λ t. codes "<g>" ++ (rect_front 96 (foot + 113) 24 10 (codes "#6e7781") ++ (codes "</rect>\n" ++ (words_front 128 (foot + 123) ++ (codes "work</text>\n" ++ t))))) third
    ∙ (ap (λ t. codes "<g>" ++ t) (rect_behind 96 (foot + 113) 24 10 (codes "#6e7781") _)
    ∙ ap (λ t. codes "<g>" ++ rect_text 96 (foot + 113) 24 10 (codes "#6e7781") (codes "</rect>\n" ++ t)) (words_behind 128 (foot + 123) _))

pub legend_drawn : (foot : ℕ) (behind : Markup) (rest : List ℕ) → markup_onto (draw_legend foot behind) rest ≡ legend_text foot ++ markup_onto behind rest
legend_drawn foot behind rest = markup_behind (draw_legend foot Nothing) [] (markup_onto behind rest) ∙ ap (λ t. t ++ markup_onto behind rest) (sym (legend_is foot))

line_drawn : (left top right batch : ℕ) (behind : Markup) (rest : List ℕ)
    → markup_onto (draw_line (Say (codes "M") ∷ Number left ∷ Say (codes " ") ∷ Number top ∷ Say (codes "v6H") ∷ Number right ∷ Say (codes "v-6") ∷ []) (codes "#57606a") behind) rest
    ≡ line_text left top right ++ markup_onto behind rest
unfolding line_text
line_drawn left top right batch behind rest = simp append_assoc refl

number_drawn : (left base batch : ℕ) (wide : Bool) (behind : Markup) (rest : List ℕ)
    → markup_onto (if wide then draw_words left base (Number batch ∷ []) behind else behind) rest ≡ (if wide then number_text left base batch else []) ++ markup_onto behind rest
unfolding words_front number_text
number_drawn left base batch true behind rest = simp append_assoc refl
number_drawn left base batch false behind rest = refl

-- what stands under the calls of a batch
under_drawn : (foot left right batch : ℕ) (rest : List ℕ)
    → markup_onto (draw_line (Say (codes "M") ∷ Number left ∷ Say (codes " ") ∷ Number (foot + 67) ∷ Say (codes "v6H") ∷ Number right ∷ Say (codes "v-6") ∷ []) (codes "#57606a")
    (draw_number left (right - left) (foot + 89) batch Nothing)) rest
    ≡ under_text foot left right batch ++ rest
under_drawn foot left right batch rest =
    line_drawn left (foot + 67) right batch (draw_number left (right - left) (foot + 89) batch Nothing) rest
    ∙ (ap (λ t. line_text left (foot + 67) right ++ t) (number_drawn left (foot + 89) batch (nat_le 32 (right - left)) Nothing rest)
    ∙ sym (append_assoc (line_text left (foot + 67) right) (if nat_le 32 (right - left) then number_text left (foot + 89) batch else []) rest))

pub sheet_is : (width height : ℕ) (inside : Markup) → markup_onto (sheet width height inside) [] ≡ sheet_front width height ++ markup_onto inside (codes "</svg>\n")
unfolding sheet_top sheet_front
sheet_is width height inside =
    let end = markup_onto inside (codes "</svg>\n") in
    sym (append_assoc (sheet_top width height) (rect_front 0 0 width height (codes "#ffffff") ++ codes "</rect>\n") end
    ∙ (ap (λ t. sheet_top width height ++ t) (append_assoc (rect_front 0 0 width height (codes "#ffffff")) (codes "</rect>\n") end
    ∙ rect_behind 0 0 width height (codes "#ffffff") (codes "</rect>\n" ++ end))
    ∙ top_behind width height (rect_text 0 0 width height (codes "#ffffff") (codes "</rect>\n" ++ end))))

pub plain_drawn : (left base : ℕ) (parts : List Part) (behind : Markup) (rest : List ℕ)
    → markup_onto (draw_words left base parts behind) rest ≡ (words_front left base ++ parts_onto parts (codes "</text>\n")) ++ markup_onto behind rest
plain_drawn left base parts behind rest =
    markup_behind (draw_words left base parts Nothing) [] (markup_onto behind rest)
    ∙ ap (λ t. t ++ markup_onto behind rest) (sym (words_behind left base (parts_onto parts (codes "</text>\n"))))

pub caption_drawn : (report : Report) (behind : Markup) (rest : List ℕ) → markup_onto (draw_words 16 28 (caption report) behind) rest
    ≡ caption_text report.workers (length report.rows) (length (flat report.history)) (length report.history) ++ markup_onto behind rest
unfolding caption_text
caption_drawn report behind rest = plain_drawn 16 28 (caption report) behind rest

strip_drawn : (foot : ℕ) (behind : Markup) (rest : List ℕ) → markup_onto (draw_words 16 (foot + 59) (Say (codes "batches") ∷ []) behind) rest ≡ strip_name foot ++ markup_onto behind rest
unfolding strip_name
strip_drawn foot behind rest = plain_drawn 16 (foot + 59) (Say (codes "batches") ∷ []) behind rest

ticks_drawn : (scale foot leaves : ℕ) (behind : Markup) (rest : List ℕ) → markup_onto (draw_ticks scale foot leaves behind) rest ≡ marks_text scale foot leaves ++ markup_onto behind rest
unfolding marks_text
ticks_drawn scale foot leaves behind rest =
    kept_drawn (λ tick. draw_tick (across scale tick) foot tick) (λ tick. tick_text (across scale tick) foot tick) (λ tick b r. tick_drawn (across scale tick) foot tick b r)
    (λ tick. nat_lt tick (2 * leaves)) (λ mark. mark * (span_of leaves / 8 + 1)) (range_with_len 0 8) behind rest

pub lanes_drawn : (right workers : ℕ) (behind : Markup) (rest : List ℕ) → markup_onto (each (draw_lane right) (range_with_len 0 workers) behind) rest ≡ lanes_text right workers ++ markup_onto behind rest
unfolding lanes_text
lanes_drawn right workers behind rest = each_drawn (draw_lane right) (lane_text right) (λ worker b r. lane_drawn right worker b r) (range_with_len 0 workers) behind rest

-- the parts that name objects
module _ (names : List (List ℕ)) where
  called_is : (place : Place) (row : Row) → called_text names place row ≡ markup_onto (draw_box (box_for names (Some place) row) Nothing) []
  unfolding ticks_text called_text
  called_is place row = rect_behind row.start (lane_top row.worker + 4) (row.end - row.start) 20 (batch_colour place.batch)
      (codes "<title>leaf " ++ (decimal row.leaf ++ (codes ": " ++ (escaped (op_words names place.entry.op) ++ (codes ", batch " ++ (decimal place.batch ++ ticks_text row))))))

  box_is : (found : Option Place) (row : Row) → box_text names found row ≡ markup_onto (draw_box (box_for names found row) Nothing) []
  box_is None row = work_is row
  box_is (Some place) row = called_is place row

  pub box_drawn : (found : Option Place) (row : Row) (behind : Markup) (rest : List ℕ)
      → markup_onto (draw_box (box_for names found row) behind) rest ≡ box_text names found row ++ markup_onto behind rest
  box_drawn found row behind rest =
      markup_behind (draw_box (box_for names found row) Nothing) [] (markup_onto behind rest) ∙ ap (λ t. t ++ markup_onto behind rest) (sym (box_is found row))

  call_is : (scale foot batch place serial : ℕ) (entry : Entry) → call_text names scale foot batch place serial entry
      ≡ markup_onto (draw_rect (across (2 * scale) serial) (foot + 44) (2 * scale - 1) 20 (batch_colour batch) (call_title names batch place entry) Nothing) []
  unfolding call_front served_text call_text
  call_is scale foot batch place serial entry = rect_behind (across (2 * scale) serial) (foot + 44) (2 * scale - 1) 20 (batch_colour batch)
      (codes "<title>batch " ++ (decimal batch ++ (codes " place " ++ (decimal place ++ (codes ": leaf " ++ (decimal entry.leaf ++ (codes " of worker " ++ (decimal entry.worker ++ served_text names entry))))))))

  call_drawn : (scale foot batch place serial : ℕ) (entry : Entry) (behind : Markup) (rest : List ℕ)
      → markup_onto (draw_rect (across (2 * scale) serial) (foot + 44) (2 * scale - 1) 20 (batch_colour batch) (call_title names batch place entry) behind) rest
      ≡ call_text names scale foot batch place serial entry ++ markup_onto behind rest
  call_drawn scale foot batch place serial entry behind rest =
      markup_behind (draw_rect (across (2 * scale) serial) (foot + 44) (2 * scale - 1) 20 (batch_colour batch) (call_title names batch place entry) Nothing) [] (markup_onto behind rest)
      ∙ ap (λ t. t ++ markup_onto behind rest) (sym (call_is scale foot batch place serial entry))

  calls_drawn : (scale foot batch place serial : ℕ) (entries : List Entry) (behind : Markup) (rest : List ℕ)
      → markup_onto (draw_calls names scale foot batch place serial entries behind) rest ≡ calls_text names scale foot batch place serial entries ++ markup_onto behind rest
  calls_drawn scale foot batch place serial [] behind rest = refl
  calls_drawn scale foot batch place serial (entry ∷ entries) behind rest =
      call_drawn scale foot batch place serial entry (draw_calls names scale foot batch (place + 1) (serial + 1) entries behind) rest
      ∙ (ap (λ t. call_text names scale foot batch place serial entry ++ t) (calls_drawn scale foot batch (place + 1) (serial + 1) entries behind rest)
      ∙ sym (append_assoc (call_text names scale foot batch place serial entry) (calls_text names scale foot batch (place + 1) (serial + 1) entries) (markup_onto behind rest)))

  bracket_is : (scale foot : ℕ) (bracket : Bracket) → bracket_text names scale foot bracket ≡ markup_onto (draw_bracket names scale foot bracket Nothing) []
  unfolding bracket_line bracket_text
  bracket_is scale foot bracket =
      let left = across (2 * scale) bracket.first in
      let right = across (2 * scale) (bracket.first + length bracket.entries) - 3 in
      let calls = calls_text names scale foot bracket.batch 0 bracket.first bracket.entries in
      let under : Markup = draw_line (Say (codes "M") ∷ Number left ∷ Say (codes " ") ∷ Number (foot + 67) ∷ Say (codes "v6H") ∷ Number right ∷ Say (codes "v-6") ∷ []) (codes "#57606a")
      (draw_number left (right - left) (foot + 89) bracket.batch Nothing) in
      let inner : markup_onto (draw_calls names scale foot bracket.batch 0 bracket.first bracket.entries under) (codes "</g>\n") ≡ calls ++ (under_text foot left right bracket.batch ++ codes "</g>\n") =
      calls_drawn scale foot bracket.batch 0 bracket.first bracket.entries under (codes "</g>\n") ∙ ap (λ t. calls ++ t) (under_drawn foot left right bracket.batch (codes "</g>\n")) in
      sym (ap (λ t. codes "<g><title>batch " ++ (decimal bracket.batch ++ (codes "</title>\n" ++ t))) inner)

  pub bracket_drawn : (scale foot : ℕ) (bracket : Bracket) (behind : Markup) (rest : List ℕ)
      → markup_onto (draw_bracket names scale foot bracket behind) rest ≡ bracket_text names scale foot bracket ++ markup_onto behind rest
  bracket_drawn scale foot bracket behind rest =
      markup_behind (draw_bracket names scale foot bracket Nothing) [] (markup_onto behind rest) ∙ ap (λ t. t ++ markup_onto behind rest) (sym (bracket_is scale foot bracket))

  boxes_are : (book : List (List Entry)) (rows : List Row) (rest : List ℕ) → markup_onto (each draw_box (map (box_of names book) rows) Nothing) rest ≡ boxes_text names book rows ++ rest
  unfolding boxes_text
  boxes_are book [] rest = refl
  boxes_are book (row ∷ rows) rest =
      box_drawn (place_of book row.leaf) row (each draw_box (map (box_of names book) rows) Nothing) rest
      ∙ (ap (λ t. box_text names (place_of book row.leaf) row ++ t) (boxes_are book rows rest) ∙ sym (append_assoc (box_text names (place_of book row.leaf) row) (flat_map (λ r. box_text names (place_of book r.leaf) r) rows) rest))

  group_drawn : (scale : ℕ) (report : Report) (behind : Markup) (rest : List ℕ)
      → markup_onto (draw_boxes names scale report behind) rest ≡ group_text names scale report.history report.rows ++ markup_onto behind rest
  unfolding group_text
  group_drawn scale report behind rest =
      markup_behind (draw_boxes names scale report Nothing) [] (markup_onto behind rest)
      ∙ ap (λ t. (codes "<g transform=\"translate(96 0) scale(" ++ (decimal scale ++ (codes " 1)\">" ++ t))) ++ markup_onto behind rest) (boxes_are report.history report.rows (codes "</g>\n"))

  brackets_drawn : (scale foot : ℕ) (brackets : List Bracket) (behind : Markup) (rest : List ℕ)
      → markup_onto (each (draw_bracket names scale foot) brackets behind) rest ≡ brackets_text names scale foot brackets ++ markup_onto behind rest
  unfolding brackets_text
  brackets_drawn scale foot brackets behind rest = each_drawn (draw_bracket names scale foot) (bracket_text names scale foot) (λ bracket b r. bracket_drawn scale foot bracket b r) brackets behind rest

  -- the text of the drawing with boxes
  pub drawing_is : (span scale : ℕ) (report : Report) → text_of (box_drawing names span scale report) ≡ drawing_text names span scale report
  unfolding text_of drawing_text
  drawing_is span scale report =
      let foot = lane_top report.workers in
      let right = across scale span in
      let end = codes "</svg>\n" in
      let m8 : Markup = draw_legend foot Nothing in
      let m7 : Markup = each (draw_bracket names scale foot) (brackets_of report) m8 in
      let m6 : Markup = draw_words 16 (foot + 59) (Say (codes "batches") ∷ []) m7 in
      let m5 : Markup = draw_boxes names scale report m6 in
      let m4 : Markup = each (draw_lane right) (range_with_len 0 report.workers) m5 in
      let leaves = length report.rows in
      let m3 : Markup = draw_ticks scale foot leaves m4 in
      let m2 : Markup = draw_words 16 28 (caption report) m3 in
      let captioned = caption_text report.workers (length report.rows) (length (flat report.history)) (length report.history) in
      sheet_is (right + 24) (foot + 140) m2
      ∙ ap (λ t. sheet_front (right + 24) (foot + 140) ++ t) (caption_drawn report m3 end
      ∙ ap (λ t. captioned ++ t) (ticks_drawn scale foot leaves m4 end
      ∙ ap (λ t. marks_text scale foot leaves ++ t) (lanes_drawn right report.workers m5 end
      ∙ ap (λ t. lanes_text right report.workers ++ t) (group_drawn scale report m6 end
      ∙ ap (λ t. group_text names scale report.history report.rows ++ t) (strip_drawn foot m7 end
      ∙ ap (λ t. strip_name foot ++ t) (brackets_drawn scale foot (brackets_of report) m8 end
      ∙ ap (λ t. brackets_text names scale foot (brackets_of report) ++ t) (legend_drawn foot Nothing end)))))))
