use Rattle.std.proofs.Common.{append_assoc, refl, ◌∙◌}
use Rattle.std.proofs.lemmas.Result.{on_ok_weaker}
use Rattle.report_picture.specs.Code.Texts.{sheet_top}
use Rattle.report_picture.proofs.frame.push_top.Goals as goal

pub returns : goal.returns
unfolding sheet_top
returns c =
    on_ok_weaker c.push_text.result
    (λ last. last ∙ simp (c.in_ok-push_number.ensures, c.in_ok-push_number-2.ensures, c.in_ok-push_number-3.ensures, c.in_ok-push_number-4.ensures, append_assoc) refl)
    c.push_text.ensures
