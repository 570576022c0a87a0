-- How what each worker does in each column of ticks is drawn.
use Rattle.std.specs.Prelude.{ℕ, ◌+◌, ◌*◌, ◌-◌, ◌/◌, min, nat_lt, List, [], ◌∷◌, map, codes}
use Rattle.std.specs.List.{filter, range_with_len}
use Rattle.report_shares.specs.declared.share.Share.{Share}
use Rattle.report_picture.specs.Markup.{Part, Say, Number, Group, Title, Markup, Nothing, Words, Element, each}
use Rattle.report_picture.specs.Boxes.{lane_top, batch_colour}
use Rattle.report_picture.specs.Drawing.{draw_plain, draw_words, draw_tick}

-- the place of a column from the left: a column is 8 wide
abbrev pub column_left : ℕ → ℕ
column_left column = 96 + 8 * column

-- the height of so many ticks out of a column that is `width` wide, where this much of the lane is left
abbrev pub height_in : ℕ → ℕ → ℕ → ℕ
height_in room width ticks = min room (28 * min ticks width / width)

-- the title of a share
abbrev pub share_title : Share → List Part
share_title share =
    Say (codes "worker ") ∷ Number share.worker ∷ Say (codes ", ticks ") ∷ Number share.from ∷ Say (codes " to ") ∷ Number share.to
    ∷ Say (codes ": work ") ∷ Number share.work ∷ Say (codes ", calls ") ∷ Number share.calls
    ∷ Say (codes ", idle ") ∷ Number (share.to - share.from - share.work - share.calls) ∷ []

-- a share, where columns are `width` ticks wide: light for all ticks of the column, and on it from the foot of the lane
-- up grey for those of work and blue for those of calls, as far as the lane goes
abbrev pub draw_share : ℕ → Share → Markup → Markup
draw_share width share behind =
    let left = column_left share.column in
    let foot = lane_top share.worker + 28 in
    let all = height_in 28 width (share.to - share.from) in
    let work = height_in 28 width share.work in
    let calls = height_in (28 - work) width share.calls in
    Element Group [] (Element Title [] (Words (share_title share) Nothing)
    (draw_plain left (foot - all) 8 all (codes "#eaeef2")
    (draw_plain left (foot - work) 8 work (codes "#6e7781")
    (draw_plain left (foot - work - calls) 8 calls (batch_colour 0) Nothing)))) behind

-- the columns whose first ticks are numbered, where columns are `width` ticks wide and there are this many leaves: at
-- most 8, at equal distances, and none that begins past the last tick
abbrev pub edges_of : ℕ → ℕ → List ℕ
edges_of width leaves = filter (λ column. nat_lt (column * width) (2 * leaves)) (map (λ mark. 15 * mark) (range_with_len 0 8))

-- the numbers of these ticks
abbrev pub draw_edges : ℕ → ℕ → ℕ → Markup → Markup
draw_edges foot width leaves behind = each (λ column. draw_tick (column_left column) foot (column * width)) (edges_of width leaves) behind

-- a colour, and what it is
abbrev pub draw_key : ℕ → ℕ → List ℕ → List Part → Markup → Markup
draw_key left foot colour parts behind = draw_plain left (foot + 40) 24 14 colour (draw_words (left + 32) (foot + 52) parts behind)

-- what the three colours are, and how wide a column is
abbrev pub draw_keys : ℕ → ℕ → Markup → Markup
draw_keys foot width behind =
    Element Group [] (draw_key 96 foot (codes "#6e7781") (Say (codes "work") ∷ []) (draw_key 192 foot (batch_colour 0) (Say (codes "calls") ∷ [])
    (draw_key 288 foot (codes "#eaeef2") (Say (codes "idle, of the ") ∷ Number width ∷ Say (codes " ticks of a column") ∷ []) Nothing))) behind
