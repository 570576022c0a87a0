-- The boxes of the rows, the brackets of the batches, and where they stand. All lengths are in pixels, but that a box
-- lies along its lane in ticks. The names are those of the objects with the numbers 1, 2, and so on.
use Rattle.std.specs.Prelude.{ℕ, ◌+◌, ◌*◌, ◌-◌, ◌/◌, ◌%◌, ◌==◌, if◌then◌else◌, nat_lt, List, [], ◌∷◌, map, length, codes, Option, None, Some}
use Rattle.std.specs.List.{filter, range_with_len}
use Rattle.seq_objects.specs.Words.{op_words}
use Rattle.batch_history.specs.Places.{place_of}
use Rattle.batch_history.specs.declared.batch.Entry.{Entry}
use Rattle.batch_history.specs.declared.place.Place.{Place}
use Rattle.batch_history.specs.declared.row.Row.{Row}
use Rattle.batch_history.specs.declared.report.Report.{Report}
use Rattle.report_picture.specs.Markup.{Part, Say, Number}

-- the top of a worker's lane, which is 28 high; the lanes stand one under another, 32 apart
abbrev pub lane_top : ℕ → ℕ
lane_top worker = 48 + 32 * worker

-- the number of ticks that are drawn for this many leaves: those of their starts and ends, and one more
abbrev pub span_of : ℕ → ℕ
span_of leaves = 2 * leaves + 1

-- the pixels that a tick takes, where this many ticks are drawn
abbrev pub scale_of : ℕ → ℕ
scale_of span = 1 + 960 / span

-- the place of a tick from the left, where a tick takes `scale` pixels
abbrev pub across : ℕ → ℕ → ℕ
across scale tick = 96 + scale * tick

-- the ticks that are numbered where there are this many leaves, each of which has two: at most 8, at equal distances,
-- from the first one on, and none past the last
abbrev pub marks_of : ℕ → List ℕ
marks_of leaves = filter (λ tick. nat_lt tick (2 * leaves)) (map (λ mark. mark * (span_of leaves / 8 + 1)) (range_with_len 0 8))

-- one of five colours, which are told apart without red and green: blue, vermilion, green, wine and brown
abbrev pub shade : ℕ → List ℕ
shade n =
    if n == 0 then codes "#0072b2" else if n == 1 then codes "#d55e00" else if n == 2 then codes "#009e73"
    else if n == 3 then codes "#882255" else codes "#7a3e00"

-- the colour of a batch; those of batches that follow one another differ
abbrev pub batch_colour : ℕ → List ℕ
batch_colour batch = shade (batch % 5)

-- A box: its left edge and its width in ticks, its top edge and its height, its colour, and its title.
pub record Box : Type 0 where
  pub left : ℕ
  pub top : ℕ
  pub width : ℕ
  pub height : ℕ
  pub colour : List ℕ
  pub title : List Part

-- the ticks of a row, at the end of a title
abbrev pub ticks_words : Row → List Part
ticks_words row = Say (codes ", value ") ∷ Number row.value ∷ Say (codes ", ticks ") ∷ Number row.start ∷ Say (codes " to ") ∷ Number row.end ∷ []

-- the title of a row whose call, if it has one, has this place
abbrev pub title_of : List (List ℕ) → Option Place → Row → List Part
title_of names None row = Say (codes "leaf ") ∷ Number row.leaf ∷ Say (codes ": work") ∷ ticks_words row
title_of names (Some place) row =
    Say (codes "leaf ") ∷ Number row.leaf ∷ Say (codes ": ") ∷ Say (op_words names place.entry.op) ∷ Say (codes ", batch ") ∷ Number place.batch ∷ ticks_words row

-- the box of such a row: that of a call is 20 high and has the colour of its batch, and that of work is 10 high and
-- grey
abbrev pub box_for : List (List ℕ) → Option Place → Row → Box
box_for names None row = record {
  left = row.start;
  top = lane_top row.worker + 9;
  width = row.end - row.start;
  height = 10;
  colour = codes "#6e7781";
  title = title_of names None row;
}
box_for names (Some place) row = record {
  left = row.start;
  top = lane_top row.worker + 4;
  width = row.end - row.start;
  height = 20;
  colour = batch_colour place.batch;
  title = title_of names (Some place) row;
}

-- the box of a row in a report with this book
abbrev pub box_of : List (List ℕ) → List (List Entry) → Row → Box
box_of names book row = box_for names (place_of book row.leaf) row

-- the boxes of a report, one for each row
abbrev pub boxes_of : List (List ℕ) → Report → List Box
boxes_of names report = map (box_of names report.history) report.rows

-- A bracket: the number of its batch, how many calls stand before it in the book, and its calls.
pub record Bracket : Type 0 where
  pub batch : ℕ
  pub first : ℕ
  pub entries : List Entry

-- the brackets of batches, the first of which has the number `batch` and `first` calls before it
abbrev pub brackets_from : ℕ → ℕ → List (List Entry) → List Bracket
brackets_from batch first [] = []
brackets_from batch first (entries ∷ book) =
    record { batch = batch; first = first; entries = entries } ∷ brackets_from (batch + 1) (first + length entries) book

-- the brackets of a report, one for each batch
abbrev pub brackets_of : Report → List Bracket
brackets_of report = brackets_from 0 0 report.history

-- how many batches of a book have this many calls
abbrev pub sized : ℕ → List (List Entry) → ℕ
sized size [] = 0
sized size (entries ∷ book) = (if length entries == size then 1 else 0) + sized size book

-- the width of the bar of so many batches, out of all
abbrev pub bar_width : ℕ → ℕ → ℕ
bar_width count batches = 640 * count / (batches + 1)
