use Rattle.std.proofs.Common.{append_assoc, refl, ◌∙◌}
use Rattle.std.proofs.lemmas.Result.{on_ok_weaker}
use Rattle.report_picture.specs.Code.Texts.{plain_text, bar_text}
use Rattle.report_picture.proofs.sizes.push_bar.Goals as goal

pub returns : goal.returns
unfolding plain_text bar_text
returns c =
    on_ok_weaker c.push_bar_end.result
    (λ last. last ∙ simp (c.bar_width-width.ensures.width, c.in_ok-extend_from_slice.ensures.items, c.in_ok-push_words.ensures, c.in_ok-push_number.ensures, c.in_ok-extend_from_slice-2.ensures.items, c.in_ok-push_plain.ensures, append_assoc) refl)
    c.push_bar_end.ensures
