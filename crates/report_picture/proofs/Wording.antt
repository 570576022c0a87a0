-- A picture shows of a report its workers, its rows, and its book in words: the numbers of objects are not seen.
use Rattle.std.proofs.Common.{ℕ, ◌≡◌, ◌+◌, ◌*◌, ◌-◌, Bool, true, false, Option, Some, None, List, [], ◌∷◌, ◌++◌, length, map, refl, ap, sym, ◌∙◌, length-append}
use Rattle.std.specs.Prelude.{codes, nat_le, ◌&&◌, ◌||◌, ◌==◌, not, if◌then◌else◌}
use Rattle.std.specs.List.{filter, flat_map, list_any, range_with_len}
use Rattle.std.proofs.lemmas.List.{length-map}
use Rattle.seq_objects.specs.Words.{op_words, reply_words}
use Rattle.batch_history.specs.Book.{flat}
use Rattle.batch_history.specs.Places.{place_in, or_else, place_from, place_of}
use Rattle.batch_history.specs.declared.batch.Entry.{Entry}
use Rattle.batch_history.specs.declared.place.Place.{Place}
use Rattle.batch_history.specs.declared.row.Row.{Row}
use Rattle.batch_history.specs.declared.report.Report.{Report}
use Rattle.report_reader.specs.Texts.{Named, Worded, worded, worded_book, AreAlike}
use Rattle.report_shares.specs.Shares.{width_of, calls, works, calls_in, share_in, lane_shares, shares_of}
use Rattle.report_shares.specs.declared.share.Share.{Share}
use Rattle.report_picture.specs.Markup.{Part, Say, Number, Group, Title, Transform, Markup, Nothing, Words, Element, text_of, each}
use Rattle.report_picture.specs.Boxes.{lane_top, span_of, scale_of, across, batch_colour, ticks_words, Box, box_for, box_of, boxes_of, brackets_from, brackets_of, sized}
use Rattle.report_picture.specs.Drawing.{draw_rect, draw_line, draw_words, draw_lane, draw_ticks, draw_box, call_title, draw_calls, draw_number, draw_bracket, draw_legend, draw_bar, draw_bars}
use Rattle.report_picture.specs.Columns.{draw_share, draw_edges, draw_keys}
use Rattle.report_picture.specs.Picture.{sheet, drawing, picture}

-- what two functions do alike to each element they do alike to a list

map_alike : {A B : Type 0} (f g : A → B) → ((x : A) → f x ≡ g x) → (xs : List A) → map f xs ≡ map g xs
map_alike f g one [] = refl
map_alike f g one (x ∷ xs) = ap (λ y. y ∷ map f xs) (one x) ∙ ap (λ ys. g x ∷ ys) (map_alike f g one xs)

flat_alike : {A B : Type 0} (f g : A → List B) → ((x : A) → f x ≡ g x) → (xs : List A) → flat_map f xs ≡ flat_map g xs
flat_alike f g one [] = refl
flat_alike f g one (x ∷ xs) = ap (λ ys. ys ++ flat_map f xs) (one x) ∙ ap (λ ys. g x ++ ys) (flat_alike f g one xs)

filter_alike : {A : Type 0} (p q : A → Bool) → ((x : A) → p x ≡ q x) → (xs : List A) → filter p xs ≡ filter q xs
filter_alike p q one [] = refl
filter_alike p q one (x ∷ xs) =
    ap (λ b. if b then x ∷ filter p xs else filter p xs) (one x) ∙ ap (λ ys. if q x then x ∷ ys else ys) (filter_alike p q one xs)

each_alike : {A : Type 0} (draw draw' : A → Markup → Markup) → ((x : A) (behind : Markup) → draw x behind ≡ draw' x behind)
    → (xs : List A) (behind : Markup) → each draw xs behind ≡ each draw' xs behind
each_alike draw draw' one [] behind = refl
each_alike draw draw' one (x ∷ xs) behind = one x (each draw xs behind) ∙ ap (draw' x) (each_alike draw draw' one xs behind)

-- Below, `words` are those of a book: what is drawn of a book, said of its words.

abbrev count : List (List Worded) → ℕ
count [] = 0
count (batch ∷ words) = length batch + count words

abbrev sized_in : ℕ → List (List Worded) → ℕ
sized_in size [] = 0
sized_in size (batch ∷ words) = (if length batch == size then 1 else 0) + sized_in size words

abbrev leaves_in : List (List Worded) → List ℕ
leaves_in [] = []
leaves_in (batch ∷ words) = map (λ call. call.leaf) batch ++ leaves_in words

-- the batch of a leaf's call, and its operation in words
abbrev seen_in : ℕ → List Worded → ℕ → Option (ℕ × List ℕ)
seen_in number [] leaf = None
seen_in number (call ∷ batch) leaf = if call.leaf == leaf then Some (number, call.words) else seen_in number batch leaf

abbrev or_seen : Option (ℕ × List ℕ) → Option (ℕ × List ℕ) → Option (ℕ × List ℕ)
or_seen (Some call) other = Some call
or_seen None other = other

abbrev seen_from : ℕ → List (List Worded) → ℕ → Option (ℕ × List ℕ)
seen_from number [] leaf = None
seen_from number (batch ∷ words) leaf = or_seen (seen_in number batch leaf) (seen_from (number + 1) words leaf)

abbrev box_seen : Option (ℕ × List ℕ) → Row → Box
box_seen None row = box_for [] None row
box_seen (Some call) row = record {
  left = row.start;
  top = lane_top row.worker + 4;
  width = row.end - row.start;
  height = 20;
  colour = batch_colour call.0;
  title = Say (codes "leaf ") ∷ Number row.leaf ∷ Say (codes ": ") ∷ Say call.1 ∷ Say (codes ", batch ") ∷ Number call.0 ∷ ticks_words row;
}

abbrev title_in : ℕ → ℕ → Worded → List Part
title_in number place call =
    Say (codes "batch ") ∷ Number number ∷ Say (codes " place ") ∷ Number place ∷ Say (codes ": leaf ") ∷ Number call.leaf
    ∷ Say (codes " of worker ") ∷ Number call.worker ∷ Say (codes ", ") ∷ Say call.words ∷ Say (codes " -> ") ∷ Say (reply_words call.reply) ∷ []

abbrev draw_calls_in : ℕ → ℕ → ℕ → ℕ → ℕ → List Worded → Markup → Markup
draw_calls_in scale foot number place serial [] behind = behind
draw_calls_in scale foot number place serial (call ∷ batch) behind =
    draw_rect (across (2 * scale) serial) (foot + 44) (2 * scale - 1) 20 (batch_colour number) (title_in number place call)
    (draw_calls_in scale foot number (place + 1) (serial + 1) batch behind)

-- what stands under so many calls
abbrev under : ℕ → ℕ → ℕ → ℕ → ℕ → Markup
under scale foot number first many =
    let left = across (2 * scale) first in
    let right = across (2 * scale) (first + many) - 3 in
    draw_line (Say (codes "M") ∷ Number left ∷ Say (codes " ") ∷ Number (foot + 67) ∷ Say (codes "v6H") ∷ Number right ∷ Say (codes "v-6") ∷ []) (codes "#57606a")
    (draw_number left (right - left) (foot + 89) number Nothing)

abbrev bracket_over : ℕ → Markup → Markup → Markup
bracket_over number inside behind = Element Group [] (Element Title [] (Words (Say (codes "batch ") ∷ Number number ∷ []) Nothing) inside) behind

abbrev brackets_in : ℕ → ℕ → ℕ → ℕ → List (List Worded) → Markup → Markup
brackets_in scale foot number first [] behind = behind
brackets_in scale foot number first (batch ∷ words) behind =
    bracket_over number (draw_calls_in scale foot number 0 first batch (under scale foot number first (length batch)))
    (brackets_in scale foot (number + 1) (first + length batch) words behind)

abbrev boxes_in : List (List Worded) → List Row → List Box
boxes_in words rows = map (λ row. box_seen (seen_from 0 words row.leaf) row) rows

abbrev bars_in : ℕ → List (List Worded) → Markup
bars_in top words = each (λ mark. draw_bar top mark (sized_in (mark + 1) words) (length words)) (range_with_len 0 32) Nothing

abbrev shares_in : ℕ → List Row → List (List Worded) → List Share
shares_in workers rows words = flat_map (lane_shares (λ leaf. list_any (λ l. l == leaf) (leaves_in words)) rows) (range_with_len 0 workers)

-- the picture of numbers, boxes, brackets, shares and bars
abbrev drawn : ℕ → ℕ → ℕ → ℕ → List Box → Markup → List Share → Markup → Markup
drawn workers leaves called batches boxes brackets shares bars =
    let foot = lane_top workers in
    let span = span_of leaves in
    let scale = scale_of span in
    let right = across scale span in
    let width = width_of leaves in
    let head = Say (codes "workers ") ∷ Number workers ∷ Say (codes " leaves ") ∷ Number leaves ∷ Say (codes " calls ") ∷ Number called ∷ Say (codes " batches ") ∷ Number batches ∷ [] in
    if nat_le leaves 2000 && nat_le called 2000
    then sheet (right + 24) (foot + 140) (draw_words 16 28 head (draw_ticks scale foot leaves (each (draw_lane right) (range_with_len 0 workers)
    (Element Group (record { key = Transform; value = Say (codes "translate(96 0) scale(") ∷ Number scale ∷ Say (codes " 1)") ∷ [] } ∷ []) (each draw_box boxes Nothing)
    (draw_words 16 (foot + 59) (Say (codes "batches") ∷ []) brackets)))))
    else sheet 1080 (foot + 752) (draw_words 16 28 head (draw_edges foot width leaves (each (draw_lane 1056) (range_with_len 0 workers) (each (draw_share width) shares (draw_keys foot width
    (draw_words 16 (foot + 84) (Say (codes "batches by their number of calls (past 2000 leaves no box is drawn for a leaf)") ∷ []) bars))))))

module _ (names : List (List ℕ)) where
  abbrev in_words : List (List Entry) → List (List Worded)
  in_words book = map (λ batch. map (worded names) batch) book

  counted : (book : List (List Entry)) → length (flat book) ≡ count (in_words book)
  counted [] = refl
  counted (batch ∷ book) =
      length-append batch (flat book) ∙ (ap (λ n. length batch + n) (counted book) ∙ ap (λ n. n + count (in_words book)) (sym (length-map batch (worded names))))

  sized_is : (size : ℕ) (book : List (List Entry)) → sized size book ≡ sized_in size (in_words book)
  sized_is size [] = refl
  sized_is size (batch ∷ book) =
      ap (λ n. (if length batch == size then 1 else 0) + n) (sized_is size book)
      ∙ ap (λ n. (if n == size then 1 else 0) + sized_in size (in_words book)) (sym (length-map batch (worded names)))

  calls_in_batch : (leaf : ℕ) (batch : List Entry) (rest : List Entry) (more : List ℕ)
      → list_any (λ entry. entry.leaf == leaf) rest ≡ list_any (λ l. l == leaf) more
      → list_any (λ entry. entry.leaf == leaf) (batch ++ rest) ≡ list_any (λ l. l == leaf) (map (λ call. call.leaf) (map (worded names) batch) ++ more)
  calls_in_batch leaf [] rest more same = same
  calls_in_batch leaf (entry ∷ batch) rest more same = ap (λ b. (entry.leaf == leaf) || b) (calls_in_batch leaf batch rest more same)

  calls_are : (leaf : ℕ) (book : List (List Entry)) → calls book leaf ≡ list_any (λ l. l == leaf) (leaves_in (in_words book))
  calls_are leaf [] = refl
  calls_are leaf (batch ∷ book) = calls_in_batch leaf batch (flat book) (leaves_in (in_words book)) (calls_are leaf book)

  abbrev seen : Option Place → Option (ℕ × List ℕ)
  seen None = None
  seen (Some place) = Some (place.batch, op_words names place.entry.op)

  seen_if : (b : Bool) (place : Place) (other : Option Place) → seen (if b then Some place else other) ≡ (if b then seen (Some place) else seen other)
  seen_if true place other = refl
  seen_if false place other = refl

  seen_or : (found other : Option Place) → seen (or_else found other) ≡ or_seen (seen found) (seen other)
  seen_or None other = refl
  seen_or (Some place) other = refl

  seen_in_batch : (number place leaf : ℕ) (batch : List Entry) → seen (place_in number place batch leaf) ≡ seen_in number (map (worded names) batch) leaf
  seen_in_batch number place leaf [] = refl
  seen_in_batch number place leaf (entry ∷ batch) =
      seen_if (entry.leaf == leaf) (record { batch = number; place = place; entry = entry }) (place_in number (place + 1) batch leaf)
      ∙ ap (λ o. if entry.leaf == leaf then Some (number, op_words names entry.op) else o) (seen_in_batch number (place + 1) leaf batch)

  seen_in_book : (number leaf : ℕ) (book : List (List Entry)) → seen (place_from number book leaf) ≡ seen_from number (in_words book) leaf
  seen_in_book number leaf [] = refl
  seen_in_book number leaf (batch ∷ book) =
      seen_or (place_in number 0 batch leaf) (place_from (number + 1) book leaf)
      ∙ (ap (λ o. or_seen o (seen (place_from (number + 1) book leaf))) (seen_in_batch number 0 leaf batch)
      ∙ ap (or_seen (seen_in number (map (worded names) batch) leaf)) (seen_in_book (number + 1) leaf book))

  box_is_seen : (found : Option Place) (row : Row) → box_for names found row ≡ box_seen (seen found) row
  box_is_seen None row = refl
  box_is_seen (Some place) row = refl

  boxes_are_in : (book : List (List Entry)) (rows : List Row) → map (box_of names book) rows ≡ boxes_in (in_words book) rows
  unfolding place_of
  boxes_are_in book rows =
      map_alike (box_of names book) (λ row. box_seen (seen_from 0 (in_words book) row.leaf) row)
      (λ row. box_is_seen (place_from 0 book row.leaf) row ∙ ap (λ o. box_seen o row) (seen_in_book 0 row.leaf book)) rows

  calls_are_in : (scale foot number place serial : ℕ) (batch : List Entry) (behind : Markup)
      → draw_calls names scale foot number place serial batch behind ≡ draw_calls_in scale foot number place serial (map (worded names) batch) behind
  calls_are_in scale foot number place serial [] behind = refl
  calls_are_in scale foot number place serial (entry ∷ batch) behind =
      ap (draw_rect (across (2 * scale) serial) (foot + 44) (2 * scale - 1) 20 (batch_colour number) (call_title names number place entry))
      (calls_are_in scale foot number (place + 1) (serial + 1) batch behind)

  brackets_are_in : (scale foot number first : ℕ) (book : List (List Entry)) (behind : Markup)
      → each (draw_bracket names scale foot) (brackets_from number first book) behind ≡ brackets_in scale foot number first (in_words book) behind
  brackets_are_in scale foot number first [] behind = refl
  brackets_are_in scale foot number first (batch ∷ book) behind =
      let more : Markup = each (draw_bracket names scale foot) (brackets_from (number + 1) (first + length batch) book) behind in
      ap (λ inside. bracket_over number inside more) (calls_are_in scale foot number 0 first batch (under scale foot number first (length batch)))
      ∙ (ap (bracket_over number (draw_calls_in scale foot number 0 first (map (worded names) batch) (under scale foot number first (length batch))))
      (brackets_are_in scale foot (number + 1) (first + length batch) book behind)
      ∙ ap (λ many. bracket_over number (draw_calls_in scale foot number 0 first (map (worded names) batch) (under scale foot number first many))
      (brackets_in scale foot (number + 1) (first + many) (in_words book) behind)) (sym (length-map batch (worded names))))

  bars_are_in : (top : ℕ) (book : List (List Entry)) → draw_bars top book Nothing ≡ bars_in top (in_words book)
  bars_are_in top book =
      each_alike (λ mark. draw_bar top mark (sized (mark + 1) book) (length book)) (λ mark. draw_bar top mark (sized_in (mark + 1) (in_words book)) (length (in_words book)))
      (λ mark behind. ap (λ n. draw_bar top mark n (length book) behind) (sized_is (mark + 1) book)
      ∙ ap (λ n. draw_bar top mark (sized_in (mark + 1) (in_words book)) n behind) (sym (length-map book (λ batch. map (worded names) batch)))) (range_with_len 0 32) Nothing

  lane_is_in : (book : List (List Entry)) (rows : List Row) (worker : ℕ)
      → lane_shares (calls book) rows worker ≡ lane_shares (λ leaf. list_any (λ l. l == leaf) (leaves_in (in_words book))) rows worker
  lane_is_in book rows worker =
      let calling : ℕ → Bool = λ leaf. list_any (λ l. l == leaf) (leaves_in (in_words book)) in
      let h : filter (works (calls book) worker) rows ≡ filter (works calling worker) rows =
      filter_alike (works (calls book) worker) (works calling worker) (λ row. ap (λ b. (row.worker == worker) && not b) (calls_are row.leaf book)) rows in
      let i : filter (calls_in (calls book) worker) rows ≡ filter (calls_in calling worker) rows =
      filter_alike (calls_in (calls book) worker) (calls_in calling worker) (λ row. ap (λ b. (row.worker == worker) && b) (calls_are row.leaf book)) rows in
      ap (λ work. map (λ column. share_in (length rows) worker column work (filter (calls_in (calls book) worker) rows)) (range_with_len 0 120)) h
      ∙ ap (λ called. map (λ column. share_in (length rows) worker column (filter (works calling worker) rows) called) (range_with_len 0 120)) i

  shares_are_in : (report : Report) → shares_of report ≡ shares_in report.workers report.rows (in_words report.history)
  unfolding shares_of
  shares_are_in report =
      flat_alike (lane_shares (calls report.history) report.rows) (lane_shares (λ leaf. list_any (λ l. l == leaf) (leaves_in (in_words report.history))) report.rows)
      (lane_is_in report.history report.rows) (range_with_len 0 report.workers)

-- the drawing of a report whose book has these words
abbrev drawing_in : ℕ → List Row → List (List Worded) → Markup
drawing_in workers rows words =
    drawn workers (length rows) (count words) (length words) (boxes_in words rows)
    (brackets_in (scale_of (span_of (length rows))) (lane_top workers) 0 0 words (draw_legend (lane_top workers) Nothing))
    (shares_in workers rows words) (bars_in (lane_top workers + 96) words)

drawn_alike : (workers leaves called called' batches batches' : ℕ) (boxes boxes' : List Box) (brackets brackets' : Markup) (shares shares' : List Share) (bars bars' : Markup)
    → called ≡ called' → batches ≡ batches' → boxes ≡ boxes' → brackets ≡ brackets' → shares ≡ shares' → bars ≡ bars'
    → drawn workers leaves called batches boxes brackets shares bars ≡ drawn workers leaves called' batches' boxes' brackets' shares' bars'
drawn_alike workers leaves called called' batches batches' boxes boxes' brackets brackets' shares shares' bars bars' a b c d e f =
    ap (λ x. drawn workers leaves x batches boxes brackets shares bars) a
    ∙ (ap (λ x. drawn workers leaves called' x boxes brackets shares bars) b
    ∙ (ap (λ x. drawn workers leaves called' batches' x brackets shares bars) c
    ∙ (ap (λ x. drawn workers leaves called' batches' boxes' x shares bars) d
    ∙ (ap (λ x. drawn workers leaves called' batches' boxes' brackets' x bars) e
    ∙ ap (λ x. drawn workers leaves called' batches' boxes' brackets' shares' x) f))))

drawing_is_in : (names : List (List ℕ)) (report : Report) → drawing names report ≡ drawing_in report.workers report.rows (in_words names report.history)
drawing_is_in names report =
    let book = report.history in
    let foot = lane_top report.workers in
    let scale = scale_of (span_of (length report.rows)) in
    let legend : Markup = draw_legend foot Nothing in
    let words = in_words names book in
    drawn_alike report.workers (length report.rows) (length (flat book)) (count words) (length book) (length words) (boxes_of names report) (boxes_in words report.rows)
    (each (draw_bracket names scale foot) (brackets_of report) legend) (brackets_in scale foot 0 0 words legend) (shares_of report) (shares_in report.workers report.rows words)
    (draw_bars (foot + 96) book Nothing) (bars_in (foot + 96) words) (counted names book) (sym (length-map book (λ batch. map (worded names) batch)))
    (boxes_are_in names book report.rows) (brackets_are_in names scale foot 0 0 book legend) (shares_are_in names report) (bars_are_in names (foot + 96) book)

-- reports that are one in words have one picture
pub one_picture : (first second : Named) → AreAlike first second → picture first.names first.report ≡ picture second.names second.report
unfolding picture
one_picture first second alike =
    let words = worded_book first in
    let told : drawing_in first.report.workers first.report.rows words ≡ drawing_in second.report.workers second.report.rows (worded_book second) =
    ap (λ workers. drawing_in workers first.report.rows words) alike.workers
    ∙ (ap (λ rows. drawing_in second.report.workers rows words) alike.rows ∙ ap (drawing_in second.report.workers second.report.rows) alike.books) in
    ap text_of (drawing_is_in first.names first.report ∙ told ∙ sym (drawing_is_in second.names second.report))
