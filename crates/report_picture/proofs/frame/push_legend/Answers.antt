use Rattle.std.proofs.Common.{append_assoc, refl, ◌∙◌}
use Rattle.std.proofs.lemmas.Result.{on_ok_weaker}
use Rattle.report_picture.specs.Code.Texts.{plain_text, legend_text}
use Rattle.report_picture.proofs.frame.push_legend.Goals as goal

pub returns : goal.returns
unfolding plain_text legend_text
returns c =
    on_ok_weaker c.push_text.result
    (λ last. last ∙ simp (c.in_ok-extend_from_slice.ensures.items, c.in_ok-push_plain.ensures, c.in_ok-push_words.ensures, c.in_ok-extend_from_slice-2.ensures.items, c.in_ok-push_plain-2.ensures, c.in_ok-push_words-2.ensures, append_assoc) refl)
    c.push_text.ensures
