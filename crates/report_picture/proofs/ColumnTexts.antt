-- The text of the drawing with columns, part by part.
use Rattle.std.proofs.Common.{ℕ, ◌≡◌, ◌+◌, ◌*◌, List, [], ◌∷◌, ◌++◌, length, refl, ap, sym, ◌∙◌, append_assoc}
use Rattle.std.specs.Prelude.{codes, nat_lt}
use Rattle.std.specs.Fmt.{decimal}
use Rattle.std.specs.List.{range_with_len}
use Rattle.batch_history.specs.Book.{flat}
use Rattle.batch_history.specs.declared.batch.Entry.{Entry}
use Rattle.batch_history.specs.declared.report.Report.{Report}
use Rattle.report_shares.specs.Shares.{width_of, shares_of}
use Rattle.report_shares.specs.declared.share.Share.{Share}
use Rattle.report_picture.specs.Markup.{Say, Markup, Nothing, markup_onto, text_of, each}
use Rattle.report_picture.specs.Boxes.{lane_top, sized, bar_width}
use Rattle.report_picture.specs.Drawing.{draw_words, draw_lane, draw_tick, draw_bar, draw_bars}
use Rattle.report_picture.specs.Columns.{column_left, draw_share, draw_edges, draw_keys}
use Rattle.report_picture.specs.Code.Texts.{rect_front, words_front, tick_text, lanes_text, sheet_front, caption_text, note_text, bar_end, bar_text, bars_text, plain_text, title_text, parts_text, share_text, shares_text, edges_text, key_front, keys_text, columns_text}
use Rattle.report_picture.specs.Picture.{caption, column_drawing}
use Rattle.report_picture.proofs.Written.{each_drawn, kept_drawn, markup_behind, rect_behind, words_behind, plain_drawn, sheet_is, caption_drawn, tick_drawn, lanes_drawn}

note_drawn : (foot : ℕ) (behind : Markup) (rest : List ℕ)
    → markup_onto (draw_words 16 (foot + 84) (Say (codes "batches by their number of calls (past 2000 leaves no box is drawn for a leaf)") ∷ []) behind) rest ≡ note_text foot ++ markup_onto behind rest
unfolding note_text
note_drawn foot behind rest = plain_drawn 16 (foot + 84) (Say (codes "batches by their number of calls (past 2000 leaves no box is drawn for a leaf)") ∷ []) behind rest

bar_is : (top mark count batches : ℕ) → bar_text top mark count batches ≡ markup_onto (draw_bar top mark count batches Nothing) []
unfolding bar_text bar_end
bar_is top mark count batches =
    let base = top + 12 + 20 * mark in
    let width = bar_width count batches in
    ap (λ t. codes "<g>" ++ (words_front 16 base ++ (decimal (mark + 1) ++ (codes "</text>\n" ++ (rect_front 96 (top + 20 * mark) width 14 (codes "#6e7781") ++ (codes "</rect>\n" ++ t))))))
    (words_behind (104 + width) base (decimal count ++ codes "</text>\n</g>\n"))
    ∙ (ap (λ t. codes "<g>" ++ (words_front 16 base ++ (decimal (mark + 1) ++ (codes "</text>\n" ++ t)))) (rect_behind 96 (top + 20 * mark) width 14 (codes "#6e7781") _)
    ∙ ap (λ t. codes "<g>" ++ t) (words_behind 16 base _))

bar_drawn : (top mark count batches : ℕ) (behind : Markup) (rest : List ℕ) → markup_onto (draw_bar top mark count batches behind) rest ≡ bar_text top mark count batches ++ markup_onto behind rest
bar_drawn top mark count batches behind rest =
    markup_behind (draw_bar top mark count batches Nothing) [] (markup_onto behind rest) ∙ ap (λ t. t ++ markup_onto behind rest) (sym (bar_is top mark count batches))

bars_drawn : (top : ℕ) (book : List (List Entry)) (behind : Markup) (rest : List ℕ) → markup_onto (draw_bars top book behind) rest ≡ bars_text top book ++ markup_onto behind rest
unfolding bars_text
bars_drawn top book behind rest =
    each_drawn (λ mark. draw_bar top mark (sized (mark + 1) book) (length book)) (λ mark. bar_text top mark (sized (mark + 1) book) (length book))
    (λ mark b r. bar_drawn top mark (sized (mark + 1) book) (length book) b r) (range_with_len 0 32) behind rest

share_is : (width : ℕ) (share : Share) → share_text width share ≡ markup_onto (draw_share width share Nothing) []
unfolding rect_front plain_text title_text parts_text share_text
share_is width share = simp append_assoc refl

shares_drawn : (width : ℕ) (shares : List Share) (behind : Markup) (rest : List ℕ) → markup_onto (each (draw_share width) shares behind) rest ≡ shares_text width shares ++ markup_onto behind rest
unfolding shares_text
shares_drawn width shares behind rest =
    each_drawn (draw_share width) (share_text width)
    (λ share b r. markup_behind (draw_share width share Nothing) [] (markup_onto b r) ∙ ap (λ t. t ++ markup_onto b r) (sym (share_is width share))) shares behind rest

edges_drawn : (foot width leaves : ℕ) (behind : Markup) (rest : List ℕ) → markup_onto (draw_edges foot width leaves behind) rest ≡ edges_text foot width leaves ++ markup_onto behind rest
unfolding edges_text
edges_drawn foot width leaves behind rest =
    kept_drawn (λ column. draw_tick (column_left column) foot (column * width)) (λ column. tick_text (column_left column) foot (column * width))
    (λ column b r. tick_drawn (column_left column) foot (column * width) b r) (λ column. nat_lt (column * width) (2 * leaves)) (λ mark. 15 * mark) (range_with_len 0 8) behind rest

keys_are : (foot width : ℕ) → keys_text foot width ≡ markup_onto (draw_keys foot width Nothing) []
unfolding rect_front words_front plain_text key_front keys_text
keys_are foot width = simp append_assoc refl

keys_drawn : (foot width : ℕ) (behind : Markup) (rest : List ℕ) → markup_onto (draw_keys foot width behind) rest ≡ keys_text foot width ++ markup_onto behind rest
keys_drawn foot width behind rest =
    markup_behind (draw_keys foot width Nothing) [] (markup_onto behind rest) ∙ ap (λ t. t ++ markup_onto behind rest) (sym (keys_are foot width))

-- the text of the drawing with columns
pub columns_are : (report : Report) → text_of (column_drawing report) ≡ columns_text report
unfolding text_of columns_text
columns_are report =
    let foot = lane_top report.workers in
    let width = width_of (length report.rows) in
    let end = codes "</svg>\n" in
    let captioned = caption_text report.workers (length report.rows) (length (flat report.history)) (length report.history) in
    let m7 : Markup = draw_bars (foot + 96) report.history Nothing in
    let m6 : Markup = draw_words 16 (foot + 84) (Say (codes "batches by their number of calls (past 2000 leaves no box is drawn for a leaf)") ∷ []) m7 in
    let m5 : Markup = draw_keys foot width m6 in
    let m4 : Markup = each (draw_share width) (shares_of report) m5 in
    let m3 : Markup = each (draw_lane 1056) (range_with_len 0 report.workers) m4 in
    let leaves = length report.rows in
    let m2 : Markup = draw_edges foot width leaves m3 in
    sheet_is 1080 (foot + 752) (draw_words 16 28 (caption report) m2)
    ∙ ap (λ t. sheet_front 1080 (foot + 752) ++ t) (caption_drawn report m2 end
    ∙ ap (λ t. captioned ++ t) (edges_drawn foot width leaves m3 end
    ∙ ap (λ t. edges_text foot width leaves ++ t) (lanes_drawn 1056 report.workers m4 end
    ∙ ap (λ t. lanes_text 1056 report.workers ++ t) (shares_drawn width (shares_of report) m5 end
    ∙ ap (λ t. shares_text width (shares_of report) ++ t) (keys_drawn foot width m6 end
    ∙ ap (λ t. keys_text foot width ++ t) (note_drawn foot m7 end
    ∙ ap (λ t. note_text foot ++ t) (bars_drawn (foot + 96) report.history Nothing end)))))))
