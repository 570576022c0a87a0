use Rattle.std.proofs.Common.{append_assoc, refl, ◌∙◌}
use Rattle.report_picture.specs.Code.Texts.{columns_text}
use Rattle.report_picture.proofs.drawing.column_drawing.Goals as goal

pub returns : goal.returns
unfolding columns_text
returns c =
    c.in_ok-push_text.ensures
    ∙ simp (c.rows-rows.ensures.rows, c.batches-book.ensures.batches, c.workers-workers.ensures.workers, c.width_of-width.ensures, c.as_slice.ensures.value, c.in_ok-shares.ensures, c.new-text.ensures.items, c.in_ok-push_sheet.ensures, c.in_ok-push_caption.ensures, c.in_ok-push_edges.ensures, c.in_ok-push_lanes.ensures, c.in_ok-push_shares.ensures, c.in_ok-push_keys.ensures, c.in_ok-push_note.ensures, c.in_ok-push_bars.ensures, c.requires.calls, append_assoc) refl
