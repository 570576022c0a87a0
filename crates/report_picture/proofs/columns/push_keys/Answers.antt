use Rattle.std.proofs.Common.{append_assoc, refl, ◌∙◌}
use Rattle.std.proofs.lemmas.Result.{on_ok_weaker}
use Rattle.report_picture.specs.Code.Texts.{keys_text}
use Rattle.report_picture.proofs.columns.push_keys.Goals as goal

pub returns : goal.returns
unfolding keys_text
returns c =
    on_ok_weaker c.push_text.result
    (λ last. last ∙ simp (c.in_ok-extend_from_slice.ensures.items, c.in_ok-push_key.ensures, c.in_ok-extend_from_slice-2.ensures.items, c.in_ok-push_key-2.ensures, c.in_ok-extend_from_slice-3.ensures.items, c.in_ok-push_key-3.ensures, c.in_ok-push_number.ensures, append_assoc) refl)
    c.push_text.ensures
