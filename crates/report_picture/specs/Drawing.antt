-- How each part of the picture is drawn. Below, `scale` is the number of pixels that a tick takes, `foot` the bottom of
-- the lanes, `names` are those of the objects, and `behind` is the markup that stands behind.
use Rattle.std.specs.Prelude.{ℕ, ◌+◌, ◌*◌, ◌-◌, List, [], ◌∷◌, length, codes, nat_le, if◌then◌else◌}
use Rattle.std.specs.List.{range_with_len}
use Rattle.limits.specs.declared.TheConstants.{MOST_WORKERS}
use Rattle.seq_objects.specs.Words.{op_words, reply_words}
use Rattle.batch_history.specs.declared.batch.Entry.{Entry}
use Rattle.report_picture.specs.Markup.{Part, Say, Number, Tag, Group, Title, Label, Rect, Path, Key, Width, Height, X, Y, Fill, Stroke, Data, Attribute, Markup, Nothing, Words, Element, each}
use Rattle.report_picture.specs.Boxes.{lane_top, across, marks_of, batch_colour, Box, Bracket, sized, bar_width}

abbrev pub number : Key → ℕ → Attribute
number key n = record { key = key; value = Number n ∷ [] }

abbrev pub word : Key → List ℕ → Attribute
word key bytes = record { key = key; value = Say bytes ∷ [] }

-- an element with only a title inside
abbrev pub titled : Tag → List Attribute → List Part → Markup → Markup
titled tag attributes title behind = Element tag attributes (Element Title [] (Words title Nothing) Nothing) behind

-- a rectangle with a title
abbrev pub draw_rect : ℕ → ℕ → ℕ → ℕ → List ℕ → List Part → Markup → Markup
draw_rect left top width height colour title behind =
    titled Rect (number X left ∷ number Y top ∷ number Width width ∷ number Height height ∷ word Fill colour ∷ []) title behind

abbrev pub draw_box : Box → Markup → Markup
draw_box box behind = draw_rect box.left box.top box.width box.height box.colour box.title behind

-- words with their left end at this place
abbrev pub draw_words : ℕ → ℕ → List Part → Markup → Markup
draw_words left base parts behind = Element Label (number X left ∷ number Y base ∷ []) (Words parts Nothing) behind

-- a line with this path and colour
abbrev pub draw_line : List Part → List ℕ → Markup → Markup
draw_line path colour behind = Element Path (record { key = Data; value = path } ∷ word Stroke colour ∷ word Fill (codes "none") ∷ []) Nothing behind

-- a rectangle without a title
abbrev pub draw_plain : ℕ → ℕ → ℕ → ℕ → List ℕ → Markup → Markup
draw_plain left top width height colour behind =
    Element Rect (number X left ∷ number Y top ∷ number Width width ∷ number Height height ∷ word Fill colour ∷ []) Nothing behind

-- the name of a worker's lane, and a light line under the lane
abbrev pub draw_lane : ℕ → ℕ → Markup → Markup
draw_lane right worker behind =
    Element Group [] (draw_words 16 (lane_top worker + 19) (Say (codes "worker ") ∷ Number worker ∷ [])
    (draw_line (Say (codes "M96 ") ∷ Number (lane_top worker + 30) ∷ Say (codes "H") ∷ Number right ∷ []) (codes "#d0d7de") Nothing)) behind

-- the number of a tick under the lanes, at this place from the left, and a light line up from it
abbrev pub draw_tick : ℕ → ℕ → ℕ → Markup → Markup
draw_tick left foot tick behind =
    Element Group [] (draw_words left (foot + 16) (Number tick ∷ [])
    (draw_line (Say (codes "M") ∷ Number left ∷ Say (codes " 46V") ∷ Number (foot + 4) ∷ []) (codes "#d0d7de") Nothing)) behind

-- the ticks that are numbered, where there are this many leaves
abbrev pub draw_ticks : ℕ → ℕ → ℕ → Markup → Markup
draw_ticks scale foot leaves behind = each (λ tick. draw_tick (across scale tick) foot tick) (marks_of leaves) behind

-- the title of a call: its place in the book, its leaf and its worker, its operation and its reply
abbrev pub call_title : List (List ℕ) → ℕ → ℕ → Entry → List Part
call_title names batch place entry =
    Say (codes "batch ") ∷ Number batch ∷ Say (codes " place ") ∷ Number place ∷ Say (codes ": leaf ") ∷ Number entry.leaf
    ∷ Say (codes " of worker ") ∷ Number entry.worker ∷ Say (codes ", ") ∷ Say (op_words names entry.op) ∷ Say (codes " -> ") ∷ Say (reply_words entry.reply) ∷ []

-- the calls of a batch from this place on, side by side; `serial` calls of the book stand before them
abbrev pub draw_calls : List (List ℕ) → ℕ → ℕ → ℕ → ℕ → ℕ → List Entry → Markup → Markup
draw_calls names scale foot batch place serial [] behind = behind
draw_calls names scale foot batch place serial (entry ∷ entries) behind =
    draw_rect (across (2 * scale) serial) (foot + 44) (2 * scale - 1) 20 (batch_colour batch) (call_title names batch place entry)
    (draw_calls names scale foot batch (place + 1) (serial + 1) entries behind)

-- the number of a batch, where the bracket is wide enough for it
abbrev pub draw_number : ℕ → ℕ → ℕ → ℕ → Markup → Markup
draw_number left width base batch behind = if nat_le 32 width then draw_words left base (Number batch ∷ []) behind else behind

-- a bracket: its calls in the order of their places, a line that takes them together, and the number of their batch
abbrev pub draw_bracket : List (List ℕ) → ℕ → ℕ → Bracket → Markup → Markup
draw_bracket names scale foot bracket behind =
    let left = across (2 * scale) bracket.first in
    let right = across (2 * scale) (bracket.first + length bracket.entries) - 3 in
    Element Group [] (Element Title [] (Words (Say (codes "batch ") ∷ Number bracket.batch ∷ []) Nothing)
    (draw_calls names scale foot bracket.batch 0 bracket.first bracket.entries
    (draw_line (Say (codes "M") ∷ Number left ∷ Say (codes " ") ∷ Number (foot + 67) ∷ Say (codes "v6H") ∷ Number right ∷ Say (codes "v-6") ∷ []) (codes "#57606a")
    (draw_number left (right - left) (foot + 89) bracket.batch Nothing)))) behind

-- what the two kinds of boxes are
abbrev pub draw_legend : ℕ → Markup → Markup
draw_legend foot behind =
    Element Group [] (draw_plain 96 (foot + 113) 24 10 (codes "#6e7781") (draw_words 128 (foot + 123) (Say (codes "work") ∷ [])
    (draw_plain 192 (foot + 108) 24 20 (batch_colour 0) (draw_words 224 (foot + 123) (Say (codes "a call, in the colour of its batch") ∷ [])
    Nothing)))) behind

-- a bar: a number, a rectangle as wide as its share of all batches, and the count of batches; `top` is where the bars
-- begin
abbrev pub draw_bar : ℕ → ℕ → ℕ → ℕ → Markup → Markup
draw_bar top mark count batches behind =
    Element Group [] (draw_words 16 (top + 12 + 20 * mark) (Number (mark + 1) ∷ [])
    (draw_plain 96 (top + 20 * mark) (bar_width count batches) 14 (codes "#6e7781")
    (draw_words (104 + bar_width count batches) (top + 12 + 20 * mark) (Number count ∷ []) Nothing))) behind

-- the batches by their numbers of calls, from 1 to `MOST_WORKERS`: a bar for each
abbrev pub draw_bars : ℕ → List (List Entry) → Markup → Markup
draw_bars top book behind = each (λ mark. draw_bar top mark (sized (mark + 1) book) (length book)) (range_with_len 0 MOST_WORKERS) behind
