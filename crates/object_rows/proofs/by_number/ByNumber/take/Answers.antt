use Rattle.std.proofs.Common.{IsSome, Some, cond, refl, sym, subst, ap, ◌∙◌}
use Rattle.std.specs.BTreeMap.{get, is_at}
use Rattle.std.specs.Ordering.{nat_cmp}
use Rattle.object_rows.proofs.Structures.{at_first, at_place, no_place, first_replaced, other_replaced, none_taken}
use Rattle.object_rows.proofs.by_number.ByNumber.take.Goals as goal

pub returns-then-number-eq0-clause-taken : goal.returns-then-number-eq0-clause-taken
returns-then-number-eq0-clause-taken g c = c.take.ensures.value ∙ sym (at_first c.args.self.now c.args.number c.if-number-eq0.true)

pub returns-then-number-eq0-clause-others : goal.returns-then-number-eq0-clause-others
returns-then-number-eq0-clause-others g c = first_replaced c.args.self.now (record c.args.self.now { first = c.take.new.self }) c.args.number _ c.if-number-eq0.true c.take.ensures.after (λ q. refl)

pub returns-in-Some-clause-taken : goal.returns-in-Some-clause-taken
returns-in-Some-clause-taken g c = c.take-in-Some.ensures.value ∙ at_place c.args.self.now c.args.number c.in-Some.place.now c.if-number-eq0.false c.in-Some.ensures.value

pub returns-in-Some-clause-others : goal.returns-in-Some-clause-others
returns-in-Some-clause-others g c =
    let some = c.in-Some.ensures.value in
    let now = c.take-in-Some.new.self in
    let written = ((c.get_mut.follows.holds now).3 (subst IsSome some refl)).0 in
    other_replaced c.args.self.now (record c.args.self.now { others = c.get_mut.follows.lender now }) c.args.number _ c.if-number-eq0.false refl
    (λ q. written q ∙ ap (λ o. cond (is_at (nat_cmp c.args.number) q) (Some o) (get nat_cmp c.args.self.now.others q)) c.take-in-Some.ensures.after)

pub returns-clause-taken : goal.returns-clause-taken
returns-clause-taken g c = no_place c.args.self.now c.args.number c.if-number-eq0.false c.in_default.ensures.value

pub returns-clause-others : goal.returns-clause-others
returns-clause-others g c =
    none_taken c.args.self.now (record c.args.self.now { others = c.get_mut.follows.lender-at-none }) c.args.number c.if-number-eq0.false refl c.in_default.ensures.value
    (λ q. ap (λ others. get nat_cmp others q) c.get_mut.follows.holds-at-none)
