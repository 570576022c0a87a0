use Rattle.std.proofs.Common.{append_assoc, refl, ◌∙◌}
use Rattle.std.proofs.lemmas.Result.{on_ok_weaker}
use Rattle.report_picture.specs.Code.Texts.{work_text}
use Rattle.report_picture.proofs.boxes.push_work.Goals as goal

pub returns : goal.returns
unfolding work_text
returns c =
    on_ok_weaker c.push_ticks.result
    (λ last. last ∙ simp (c.in_ok-push_span.ensures, c.in_ok-push_number.ensures, c.in_ok-extend_from_slice.ensures.items, append_assoc) refl)
    c.push_ticks.ensures
