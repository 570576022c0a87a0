use Rattle.std.proofs.Common.{◌≡◌, ◌∷◌, [], ◌++◌, map, ap, sym, ◌∙◌, arith}
use Rattle.std.proofs.lemmas.Grind.{common_steps}
use Rattle.std.proofs.lemmas.List.{map-append}
use Rattle.object_rows.specs.declared.members.Members.TheVariants.{One}
use Rattle.object_rows.proofs.row_list.ones_in_rows.Goals as goal

pub loop-member-preserved : goal.loop-member-preserved
loop-member-preserved g c =
    let i = c.loop-member.invariant in
    record {
      rows = c.in_ok-push.ensures.items ∙ ap (λ rows. rows ++ One c.in-Some.member ∷ []) i.rows ∙ sym (map-append One c.loop-member.yielded (c.in-Some.member ∷ []));
      all = grind (arith, common_steps, c.in-Some.ensures.steps, i.all);
    }

pub returns : goal.returns
returns g c =
    let i = c.loop-member.invariant in
    let yielded : c.loop-member.yielded ≡ c.args.ones.items = grind (arith, common_steps, c.in-None.ensures.steps, i.all, c.into_iter-member-iterator.ensures.into_iter_gives) in
    i.rows ∙ ap (map One) yielded
