use Rattle.std.proofs.Common.{append_assoc, refl, ◌∙◌}
use Rattle.std.proofs.lemmas.Result.{on_ok_weaker}
use Rattle.report_picture.specs.Code.Texts.{served_text}
use Rattle.report_picture.proofs.batches.push_served.Goals as goal

pub returns : goal.returns
unfolding served_text
returns c =
    on_ok_weaker c.push_text.result
    (λ last. last ∙ simp (c.in_ok-extend_from_slice.ensures.items, c.in_ok-push_escaped.ensures, c.as_bytes.ensures.value, c.in_ok-op.ensures, c.in_ok-extend_from_slice-2.ensures.items, c.in_ok-push_escaped-2.ensures, c.as_bytes-2.ensures.value, c.in_ok-reply.ensures, append_assoc) refl)
    c.push_text.ensures
