-- The text of each part of the picture, in the pieces that the code writes. The names are those of the objects.
use Rattle.std.specs.Prelude.{ℕ, ◌+◌, ◌*◌, ◌-◌, ◌/◌, List, [], ◌∷◌, ◌++◌, length, codes, nat_le, nat_lt, if◌then◌else◌, Option, None, Some}
use Rattle.std.specs.List.{flat_map, range_with_len}
use Rattle.limits.specs.declared.TheConstants.{MOST_WORKERS}
use Rattle.std.specs.Fmt.{decimal}
use Rattle.seq_objects.specs.Words.{op_words, reply_words}
use Rattle.batch_history.specs.declared.batch.Entry.{Entry}
use Rattle.batch_history.specs.declared.place.Place.{Place}
use Rattle.batch_history.specs.declared.row.Row.{Row}
use Rattle.report_picture.specs.Markup.{escaped}
use Rattle.batch_history.specs.Book.{flat}
use Rattle.batch_history.specs.Places.{place_of}
use Rattle.batch_history.specs.declared.report.Report.{Report}
use Rattle.report_shares.specs.Shares.{width_of, shares_of}
use Rattle.report_shares.specs.declared.share.Share.{Share}
use Rattle.report_picture.specs.Columns.{column_left, height_in}
use Rattle.report_picture.specs.Boxes.{lane_top, span_of, across, batch_colour, Bracket, brackets_of, sized, bar_width}

unfoldable pub rect_front : ℕ → ℕ → ℕ → ℕ → List ℕ → List ℕ
rect_front left top width height colour =
    codes "<rect x=\"" ++ (decimal left ++ (codes "\" y=\"" ++ (decimal top ++ (codes "\" width=\""
    ++ (decimal width ++ (codes "\" height=\"" ++ (decimal height ++ (codes "\" fill=\"" ++ (escaped colour
    ++ codes "\">")))))))))

unfoldable pub ticks_text : Row → List ℕ
ticks_text row =
    codes ", value " ++ (decimal row.value ++ (codes ", ticks " ++ (decimal row.start ++ (codes " to "
    ++ (decimal row.end ++ codes "</title>\n</rect>\n")))))

unfoldable pub work_text : Row → List ℕ
work_text row =
    rect_front row.start (lane_top row.worker + 9) (row.end - row.start) 10 (codes "#6e7781")
    ++ (codes "<title>leaf " ++ (decimal row.leaf ++ (codes ": work" ++ ticks_text row)))

unfoldable pub called_text : List (List ℕ) → Place → Row → List ℕ
called_text names place row =
    rect_front row.start (lane_top row.worker + 4) (row.end - row.start) 20 (batch_colour place.batch)
    ++ (codes "<title>leaf " ++ (decimal row.leaf ++ (codes ": " ++ (escaped (op_words names place.entry.op)
    ++ (codes ", batch " ++ (decimal place.batch ++ ticks_text row))))))

abbrev pub box_text : List (List ℕ) → Option Place → Row → List ℕ
box_text names None row = work_text row
box_text names (Some place) row = called_text names place row

unfoldable pub words_front : ℕ → ℕ → List ℕ
words_front left base =
    codes "<text x=\"" ++ (decimal left ++ (codes "\" y=\"" ++ (decimal base ++ codes "\">")))

-- the end of a light line, and of the group that it stands in
unfoldable pub light_end : List ℕ
light_end =
    codes "\" stroke=\"#d0d7de\" fill=\"none\"></path>\n</g>\n"

unfoldable pub lane_text : ℕ → ℕ → List ℕ
lane_text right worker =
    codes "<g>" ++ (words_front 16 (lane_top worker + 19) ++ (codes "worker " ++ (decimal worker
    ++ (codes "</text>\n<path d=\"M96 " ++ (decimal (lane_top worker + 30) ++ (codes "H" ++ (decimal right
    ++ light_end)))))))

unfoldable pub tick_text : ℕ → ℕ → ℕ → List ℕ
tick_text left foot tick =
    codes "<g>" ++ (words_front left (foot + 16) ++ (decimal tick ++ (codes "</text>\n<path d=\"M"
    ++ (decimal left ++ (codes " 46V" ++ (decimal (foot + 4) ++ light_end))))))

unfoldable pub call_front : ℕ → ℕ → ℕ → ℕ → List ℕ
call_front scale foot batch serial =
    rect_front (across (2 * scale) serial) (foot + 44) (2 * scale - 1) 20 (batch_colour batch)

-- what a call asked for and what it got, and the end of its box
unfoldable pub served_text : List (List ℕ) → Entry → List ℕ
served_text names entry =
    codes ", " ++ (escaped (op_words names entry.op) ++ (codes " -&gt; " ++ (escaped (reply_words entry.reply)
    ++ codes "</title>\n</rect>\n")))

unfoldable pub call_text : List (List ℕ) → ℕ → ℕ → ℕ → ℕ → ℕ → Entry → List ℕ
call_text names scale foot batch place serial entry =
    call_front scale foot batch serial ++ (codes "<title>batch " ++ (decimal batch ++ (codes " place "
    ++ (decimal place ++ (codes ": leaf " ++ (decimal entry.leaf ++ (codes " of worker " ++ (decimal entry.worker
    ++ served_text names entry))))))))

-- the texts of the calls of a batch from this place on
abbrev pub calls_text : List (List ℕ) → ℕ → ℕ → ℕ → ℕ → ℕ → List Entry → List ℕ
calls_text names scale foot batch place serial [] = []
calls_text names scale foot batch place serial (entry ∷ entries) =
    call_text names scale foot batch place serial entry ++ calls_text names scale foot batch (place + 1) (serial + 1) entries

unfoldable pub number_text : ℕ → ℕ → ℕ → List ℕ
number_text left base batch =
    words_front left base ++ (decimal batch ++ codes "</text>\n")

unfoldable pub line_text : ℕ → ℕ → ℕ → List ℕ
line_text left top right =
    codes "<path d=\"M" ++ (decimal left ++ (codes " " ++ (decimal top ++ (codes "v6H" ++ (decimal right
    ++ codes "v-6\" stroke=\"#57606a\" fill=\"none\"></path>\n")))))

-- what stands under the calls of a batch
abbrev pub under_text : ℕ → ℕ → ℕ → ℕ → List ℕ
under_text foot left right batch =
    line_text left (foot + 67) right ++ (if nat_le 32 (right - left) then number_text left (foot + 89) batch else [])

-- the same for a batch of this many calls, before which `first` calls stand
unfoldable pub bracket_line : ℕ → ℕ → ℕ → ℕ → ℕ → List ℕ
bracket_line scale foot batch first count =
    under_text foot (across (2 * scale) first) (across (2 * scale) (first + count) - 3) batch

unfoldable pub bracket_text : List (List ℕ) → ℕ → ℕ → Bracket → List ℕ
bracket_text names scale foot bracket =
    codes "<g><title>batch " ++ (decimal bracket.batch ++ (codes "</title>\n"
    ++ (calls_text names scale foot bracket.batch 0 bracket.first bracket.entries
    ++ (bracket_line scale foot bracket.batch bracket.first (length bracket.entries) ++ codes "</g>\n"))))

unfoldable pub legend_text : ℕ → List ℕ
legend_text foot =
    codes "<g>" ++ (rect_front 96 (foot + 113) 24 10 (codes "#6e7781") ++ (codes "</rect>\n"
    ++ (words_front 128 (foot + 123) ++ (codes "work</text>\n" ++ (rect_front 192 (foot + 108) 24 20 (codes "#0072b2")
    ++ (codes "</rect>\n" ++ (words_front 224 (foot + 123)
    ++ codes "a call, in the colour of its batch</text>\n</g>\n")))))))

unfoldable pub sheet_top : ℕ → ℕ → List ℕ
sheet_top width height =
    codes "<svg xmlns=\"http://www.w3.org/2000/svg\" version=\"1.1\" width=\"" ++ (decimal width ++ (codes "\" height=\"" ++ (decimal height ++ (codes "\" viewBox=\"0 0 "
    ++ (decimal width ++ (codes " " ++ (decimal height ++ codes "\" fill=\"#1b1f24\" font-family=\"sans-serif\" font-size=\"13\">")))))))

unfoldable pub sheet_front : ℕ → ℕ → List ℕ
sheet_front width height =
    sheet_top width height ++ (rect_front 0 0 width height (codes "#ffffff") ++ codes "</rect>\n")

unfoldable pub caption_text : ℕ → ℕ → ℕ → ℕ → List ℕ
caption_text workers leaves calls batches =
    words_front 16 28 ++ (codes "workers " ++ (decimal workers ++ (codes " leaves " ++ (decimal leaves
    ++ (codes " calls " ++ (decimal calls ++ (codes " batches " ++ (decimal batches ++ codes "</text>\n"))))))))

unfoldable pub lanes_text : ℕ → ℕ → List ℕ
lanes_text right workers =
    flat_map (lane_text right) (range_with_len 0 workers)

-- a tick that is numbered only where it is below this one
abbrev pub mark_text : ℕ → ℕ → ℕ → ℕ → List ℕ
mark_text left foot tick ticks = if nat_lt tick ticks then tick_text left foot tick else []

unfoldable pub marks_text : ℕ → ℕ → ℕ → List ℕ
marks_text scale foot leaves =
    flat_map (λ mark. mark_text (across scale (mark * (span_of leaves / 8 + 1))) foot (mark * (span_of leaves / 8 + 1)) (2 * leaves)) (range_with_len 0 8)

unfoldable pub boxes_text : List (List ℕ) → List (List Entry) → List Row → List ℕ
boxes_text names book rows =
    flat_map (λ row. box_text names (place_of book row.leaf) row) rows

unfoldable pub group_text : List (List ℕ) → ℕ → List (List Entry) → List Row → List ℕ
group_text names scale book rows =
    codes "<g transform=\"translate(96 0) scale(" ++ (decimal scale ++ (codes " 1)\">" ++ (boxes_text names book rows
    ++ codes "</g>\n")))

unfoldable pub strip_name : ℕ → List ℕ
strip_name foot =
    words_front 16 (foot + 59) ++ codes "batches</text>\n"

unfoldable pub brackets_text : List (List ℕ) → ℕ → ℕ → List Bracket → List ℕ
brackets_text names scale foot brackets =
    flat_map (bracket_text names scale foot) brackets

-- the text of the drawing with boxes
unfoldable pub drawing_text : List (List ℕ) → ℕ → ℕ → Report → List ℕ
drawing_text names span scale report =
    sheet_front (across scale span + 24) (lane_top report.workers + 140)
    ++ (caption_text report.workers (length report.rows) (length (flat report.history)) (length report.history)
    ++ (marks_text scale (lane_top report.workers) (length report.rows) ++ (lanes_text (across scale span) report.workers
    ++ (group_text names scale report.history report.rows ++ (strip_name (lane_top report.workers)
    ++ (brackets_text names scale (lane_top report.workers) (brackets_of report) ++ (legend_text (lane_top report.workers)
    ++ codes "</svg>\n")))))))

unfoldable pub note_text : ℕ → List ℕ
note_text foot =
    words_front 16 (foot + 84) ++ codes "batches by their number of calls (past 2000 leaves no box is drawn for a leaf)</text>\n"

unfoldable pub bar_end : ℕ → ℕ → ℕ → List ℕ
bar_end left base count = words_front left base ++ (decimal count ++ codes "</text>\n</g>\n")

unfoldable pub bar_text : ℕ → ℕ → ℕ → ℕ → List ℕ
bar_text top mark count batches =
    codes "<g>" ++ (words_front 16 (top + 12 + 20 * mark) ++ (decimal (mark + 1) ++ (codes "</text>\n"
    ++ (rect_front 96 (top + 20 * mark) (bar_width count batches) 14 (codes "#6e7781") ++ (codes "</rect>\n"
    ++ bar_end (104 + bar_width count batches) (top + 12 + 20 * mark) count)))))

unfoldable pub bars_text : ℕ → List (List Entry) → List ℕ
bars_text top book = flat_map (λ mark. bar_text top mark (sized (mark + 1) book) (length book)) (range_with_len 0 MOST_WORKERS)

-- a rectangle without a title
unfoldable pub plain_text : ℕ → ℕ → ℕ → ℕ → List ℕ → List ℕ
plain_text left top width height colour = rect_front left top width height colour ++ codes "</rect>\n"

-- the title of a share
unfoldable pub title_text : Share → List ℕ
title_text share =
    codes "<g><title>worker " ++ (decimal share.worker ++ (codes ", ticks " ++ (decimal share.from ++ (codes " to "
    ++ (decimal share.to ++ (codes ": work " ++ (decimal share.work ++ (codes ", calls " ++ (decimal share.calls
    ++ (codes ", idle " ++ (decimal (share.to - share.from - share.work - share.calls) ++ codes "</title>\n")))))))))))

-- the rectangles of a share with these heights
unfoldable pub parts_text : ℕ → ℕ → ℕ → ℕ → ℕ → List ℕ
parts_text left foot all work calls =
    plain_text left (foot - all) 8 all (codes "#eaeef2") ++ (plain_text left (foot - work) 8 work (codes "#6e7781")
    ++ plain_text left (foot - work - calls) 8 calls (codes "#0072b2"))

unfoldable pub share_text : ℕ → Share → List ℕ
share_text width share =
    title_text share ++ (parts_text (column_left share.column) (lane_top share.worker + 28) (height_in 28 width (share.to - share.from)) (height_in 28 width share.work)
    (height_in (28 - height_in 28 width share.work) width share.calls) ++ codes "</g>\n")

unfoldable pub shares_text : ℕ → List Share → List ℕ
shares_text width shares = flat_map (share_text width) shares

unfoldable pub edges_text : ℕ → ℕ → ℕ → List ℕ
edges_text foot width leaves =
    flat_map (λ mark. mark_text (column_left (15 * mark)) foot (15 * mark * width) (2 * leaves)) (range_with_len 0 8)

-- a colour, and the front of what it is
unfoldable pub key_front : ℕ → ℕ → List ℕ → List ℕ
key_front left foot colour = plain_text left (foot + 40) 24 14 colour ++ words_front (left + 32) (foot + 52)

unfoldable pub keys_text : ℕ → ℕ → List ℕ
keys_text foot width =
    codes "<g>" ++ (key_front 96 foot (codes "#6e7781") ++ (codes "work</text>\n" ++ (key_front 192 foot (codes "#0072b2")
    ++ (codes "calls</text>\n" ++ (key_front 288 foot (codes "#eaeef2") ++ (codes "idle, of the " ++ (decimal width
    ++ codes " ticks of a column</text>\n</g>\n")))))))

-- the text of the drawing with columns
unfoldable pub columns_text : Report → List ℕ
columns_text report =
    sheet_front 1080 (lane_top report.workers + 752)
    ++ (caption_text report.workers (length report.rows) (length (flat report.history)) (length report.history)
    ++ (edges_text (lane_top report.workers) (width_of (length report.rows)) (length report.rows) ++ (lanes_text 1056 report.workers
    ++ (shares_text (width_of (length report.rows)) (shares_of report) ++ (keys_text (lane_top report.workers) (width_of (length report.rows))
    ++ (note_text (lane_top report.workers) ++ (bars_text (lane_top report.workers + 96) report.history
    ++ codes "</svg>\n")))))))
