use Rattle.std.proofs.Common.{◌≡◌, ◌≤◌, ◌+◌, [], length, refl, sym, ap, ◌∙◌, arith}
use Rattle.std.proofs.lemmas.Grind.{common_steps}
use Rattle.object_rows.specs.Rows.{members, added}
use Rattle.object_rows.specs.Code.Members.{added_from}
use Rattle.object_rows.proofs.Adding.{length_members, length_with, added_step, added_end}
use Rattle.object_rows.proofs.rows.add_to_rows.Goals as goal

pub loop-member-preserved : goal.loop-member-preserved
loop-member-preserved g c =
    let i = c.loop-member.invariant in
    let place = c.loop-member.place in
    let rows = c.loop-member.rows.items in
    let le : place ≤ length (members rows) = let same = length_members rows in omega (arith, i.within, same) in
    let put = c.in_ok-put_member.ensures in
    record {
      put = rw put (added_step place (place + 1) c.in-Some.member (members rows) c.next.new.self.rest.items refl le ∙ ap (added_from place (members rows)) (sym c.in-Some.ensures.steps.0) ∙ i.put);
      within =
          let more = length_with place c.in-Some.member (members rows) le in
          let same = length_members c.put_member.new.rows.items in
          let long = ap length put in
          omega (arith, more, same, long);
    }

pub returns : goal.returns
returns g c =
    let i = c.loop-member.invariant in
    let rows = c.loop-member.rows.items in
    let none : c.loop-member.member-iterator.rest.items ≡ [] = grind (arith, common_steps, c.in-None.ensures.steps) in
    let le : c.loop-member.place ≤ length (members rows) = let same = length_members rows in omega (arith, i.within, same) in
    let gives : c.into_iter-member-iterator.result.rest.items ≡ c.args.list.items = c.into_iter-member-iterator.ensures.into_iter_gives.0 in
    sym (added_end c.loop-member.place (members rows) le) ∙ ap (added_from c.loop-member.place (members rows)) (sym none) ∙ i.put ∙ ap (added (members c.args.rows.now.items)) gives
