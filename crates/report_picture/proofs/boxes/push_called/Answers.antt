use Rattle.std.proofs.Common.{append_assoc, refl, ◌∙◌}
use Rattle.std.proofs.lemmas.Result.{on_ok_weaker}
use Rattle.report_picture.specs.Code.Texts.{called_text}
use Rattle.report_picture.proofs.boxes.push_called.Goals as goal

pub returns : goal.returns
unfolding called_text
returns c =
    on_ok_weaker c.push_ticks.result
    (λ last. last ∙ simp (c.in_ok-push_span.ensures, c.batch_colour.ensures, c.in_ok-push_number.ensures, c.in_ok-extend_from_slice.ensures.items, c.in_ok-push_escaped.ensures, c.as_bytes.ensures.value, c.in_ok-op.ensures, c.in_ok-push_number-2.ensures, append_assoc) refl)
    c.push_ticks.ensures
