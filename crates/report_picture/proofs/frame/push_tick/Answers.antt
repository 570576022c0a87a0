use Rattle.std.proofs.Common.{append_assoc, refl, ◌∙◌}
use Rattle.std.proofs.lemmas.Result.{on_ok_weaker}
use Rattle.report_picture.specs.Code.Texts.{tick_text}
use Rattle.report_picture.proofs.frame.push_tick.Goals as goal

pub returns : goal.returns
unfolding tick_text
returns c =
    on_ok_weaker c.push_light_end.result
    (λ last. last ∙ simp (c.in_ok-extend_from_slice.ensures.items, c.in_ok-push_words.ensures, c.in_ok-push_number.ensures, c.in_ok-push_number-2.ensures, c.in_ok-push_number-3.ensures, append_assoc) refl)
    c.push_light_end.ensures
