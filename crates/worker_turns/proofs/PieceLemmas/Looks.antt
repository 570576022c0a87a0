-- Looks at the stop word, one after another.
use Rattle.std.proofs.Common.{◌≡◌, refl, sym, ap, ◌∙◌, arith}
use Rattle.table_rule.specs.declared.view.PassView.{PassView}
use Rattle.table_rule.specs.Passes.{finding_none}
use Rattle.worker_turns.specs.Stops.{HasOnlyLooked}

pub looked_none : (p : PassView) → HasOnlyLooked p p
looked_none p = record { same = refl; looks = omega arith }

pub looked_then : (p q r : PassView) → HasOnlyLooked p q → HasOnlyLooked q r → HasOnlyLooked p r
looked_then p q r first second = record {
  same = second.same ∙ ap (λ (x : PassView). record x { stop_looks = r.stop_looks }) first.same;
  looks = (let a = first.looks in let b = second.looks in omega (arith, a, b));
}

-- one look
looked_once : (q r : PassView) → r ≡ finding_none q → HasOnlyLooked q r
looked_once q r is =
    let looks = ap (λ (x : PassView). x.stop_looks) is in
    record { same = is ∙ (λ i. record q { stop_looks = sym looks i }); looks = omega (arith, looks) }

pub looked_more : (p q r s : PassView) → HasOnlyLooked p q → r ≡ finding_none q → s ≡ r → HasOnlyLooked p s
looked_more p q r s first look same = looked_then p q s first (looked_once q s (same ∙ look))
