use Rattle.std.proofs.Common.{append_assoc, refl, ◌∙◌}
use Rattle.std.proofs.lemmas.Result.{on_ok_weaker}
use Rattle.report_picture.specs.Code.Texts.{bracket_text}
use Rattle.report_picture.proofs.batches.push_bracket.Goals as goal

pub returns : goal.returns
unfolding bracket_text
returns c =
    on_ok_weaker c.push_text.result
    (λ last. last ∙ simp (c.in_ok-push_number.ensures, c.in_ok-extend_from_slice.ensures.items, c.in_ok-push_calls.ensures, c.in_ok-push_bracket_line.ensures, append_assoc) refl)
    c.push_text.ensures
