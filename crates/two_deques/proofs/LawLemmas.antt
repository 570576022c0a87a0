-- The consequences of the rule of a deque for its tasks.
use Rattle.std.proofs.Common.{◌≡◌, ℕ, ◌+◌, ◌≤◌, true, List, [], ◌∷◌, ◌++◌, length, sym, ap, ◌∙◌, subst, arith}
use Rattle.std.specs.List.{sum_by}
use Rattle.std.proofs.lemmas.List.{append-nil}
use Rattle.std.proofs.lemmas.List.Sums.{sum_by-append}
use mathlib.Core.Option.{some}
use lib.ListN.{get_elem?}
use Rattle.two_deques.specs.declared.rule.Part.{Part}
use Rattle.two_deques.specs.Rule.{stolen_by, AreStolen, ObeysRule, FoundAtMost}
use Rattle.two_deques.proofs.RuleLemmas.Owners.{owner_is}

pub each_is_somewhere : {T : Type 0} (items : List T) (parts : List (Part T)) (port : ℕ) (mine : Part T) (weight : T → ℕ)
    → ObeysRule items parts → get_elem? parts port ≡ some mine → mine.owns ≡ true
    → sum_by weight mine.tasks ≡ sum_by (λ part. sum_by weight (stolen_by part)) parts + sum_by weight items
each_is_somewhere items parts port mine weight rule at is =
    ap (λ (p : Part _). sum_by weight p.tasks) (sym (owner_is items parts port mine rule at is).1)
    ∙ ap (sum_by weight) rule.split ∙ sum_by-append weight rule.stolen items
    ∙ ap (λ (n : ℕ). n + sum_by weight items) (rule.shared weight)

all_gone : {T : Type 0} (own stolen items : List T) → length items ≤ 0 → own ≡ stolen ++ items → stolen ≡ own
all_gone own stolen [] few is = sym (is ∙ append-nil stolen)
all_gone own stolen (x ∷ items) few is = absurd (omega (arith, few))

pub all_are_stolen : {T : Type 0} (own : List T) → FoundAtMost 0 true own → (parts : List (Part T)) × AreStolen own parts
all_are_stolen {T} own found =
    let is = owner_is found.items found.parts found.port found.mine found.obeyed found.there found.role in
    let whole : own ≡ found.obeyed.stolen ++ found.items =
    sym found.known ∙ ap (λ (p : Part T). p.tasks) (sym is.1) ∙ found.obeyed.split in
    let gone : found.obeyed.stolen ≡ own = all_gone own found.obeyed.stolen found.items found.few whole in (
      found.parts,
      subst (λ (l : List T). AreStolen l found.parts) gone found.obeyed.shared,
    )
