use Rattle.std.proofs.Common.{◌-◌, ◌<◌, ◌∷◌, arith, refl, sym, ap, ◌∙◌}
use Rattle.call_words.proofs.NameWords.{appended, named_words, spelled_at}
use Rattle.call_words.proofs.words.push_name.Goals as goal

pub as_str-requires : goal.as_str-requires
as_str-requires c =
    let number = c.requires.number in
    let above = c.if-number-eq0.false in
    spelled_at c.args.names.now (c.args.number - 1) _ (omega (arith, number, above)) c.requires.spelled

pub returns : goal.returns
returns c =
    let above : 0 < c.args.number = omega (arith, c.if-number-eq0.false) in
    appended c.push_str-2.result _ _ _ _ _ c.in_ok-push_str.ensures.bytes
    (named_words c.args.names.now c.args.number _ above refl ∙ ap (λ name. 58 ∷ name) (sym c.as_str.ensures))
    c.push_str-2.ensures.bytes
