use Rattle.std.proofs.Common.{IsSome, Some, cond, refl, subst, ◌∙◌}
use Rattle.std.specs.BTreeMap.{get, is_at}
use Rattle.std.specs.Ordering.{nat_cmp}
use Rattle.object_rows.proofs.Structures.{first_replaced, other_replaced}
use Rattle.object_rows.proofs.by_number.ByNumber.put.Goals as goal

pub returns-then-number-eq0 : goal.returns-then-number-eq0
returns-then-number-eq0 g c = first_replaced c.args.self.now (record c.args.self.now { first = _ }) c.args.number _ c.if-number-eq0.true refl (λ q. refl)

pub returns-in-Some : goal.returns-in-Some
returns-in-Some g c =
    let some = c.in-Some.ensures.value in
    let now = Some c.args.structure in
    let written = ((c.get_mut.follows.holds now).3 (subst IsSome some refl)).0 in
    other_replaced c.args.self.now (record c.args.self.now { others = c.get_mut.follows.lender now }) c.args.number now c.if-number-eq0.false refl written

pub returns : goal.returns
returns g c =
    other_replaced c.args.self.now (record c.args.self.now { others = c.insert.new.self }) c.args.number _ c.if-number-eq0.false refl
    (λ q. c.in_ok-insert.ensures.updates.0 q ∙ (λ i. cond (is_at (nat_cmp c.args.number) q) (Some (Some c.args.structure)) (get nat_cmp (c.get_mut.follows.holds-at-none i) q)))
