-- A push, a pop, a steal and a new thief keep the rule of a deque.
use Rattle.std.proofs.Common.{◌≡◌, ℕ, ◌+◌, true, false, true≢false, List, [], ◌∷◌, ◌++◌, set, sym, refl, ap, ◌∙◌, append_assoc}
use mathlib.Core.Option.{some}
use lib.ListN.{get_elem?}
use Rattle.crossbeam_deque.specs.Tasks.{Pushes, Takes, Pops, Admits}
use Rattle.crossbeam_deque.proofs.Lists.{at_longer, set_else}
use Rattle.two_deques.specs.declared.rule.Part.{Part}
use Rattle.two_deques.specs.Rule.{owner_part, thief_part, ObeysRule}
use Rattle.two_deques.proofs.RuleLemmas.Sums.{still_stolen, more_stolen, stolen_with_guest}
use Rattle.two_deques.proofs.RuleLemmas.Owners.{there_now, owner_is, thief_is, alone_at, alone_with_guest, first_alone}

pub begins : {T : Type 0} → ObeysRule {T = T} [] (owner_part 0 [] ∷ [])
begins = record {
  owner = 0;
  mine = owner_part 0 [];
  there = refl;
  owns = refl;
  alone = first_alone (owner_part 0 []);
  stolen = [];
  split = refl;
  shared = λ weight. refl;
}

pub admits : {T : Type 0} → Admits (ObeysRule {T = T}) (thief_part [])
admits items parts rule = record {
  owner = rule.owner;
  mine = rule.mine;
  there = at_longer parts (thief_part [] ∷ []) rule.owner rule.mine rule.there;
  owns = rule.owns;
  alone = alone_with_guest parts rule.owner (thief_part []) refl rule.alone;
  stolen = rule.stolen;
  split = rule.split;
  shared = stolen_with_guest rule.stolen parts (thief_part []) refl refl rule.shared;
}

pub push_kept : {T : Type 0} (items : List T) (parts : List (Part T)) (port : ℕ) (v : Part T) (x : T)
    → ObeysRule items parts → get_elem? parts port ≡ some v → v.owns ≡ true
    → ObeysRule (items ++ x ∷ []) (set parts port (record v { pushes = v.pushes + 1; tasks = v.tasks ++ x ∷ [] }))
push_kept {T} items parts port v x rule at mine =
    let w : Part T = record v { pushes = v.pushes + 1; tasks = v.tasks ++ x ∷ [] } in
    let is = owner_is items parts port v rule at mine in record {
      owner = port;
      mine = w;
      there = there_now parts port v w at;
      owns = mine;
      alone = alone_at parts port port w (λ _. refl) (λ j p here owns. rule.alone j p here owns ∙ sym is.0);
      stolen = rule.stolen;
      split = ap (λ (p : Part T). p.tasks ++ x ∷ []) (sym is.1) ∙ ap (λ (l : List T). l ++ x ∷ []) rule.split
          ∙ append_assoc rule.stolen items (x ∷ []);
      shared = still_stolen rule.stolen parts port v w at mine mine rule.shared;
    }

pub pop_kept : {T : Type 0} (items : List T) (parts : List (Part T)) (port : ℕ) (v : Part T) (x : T)
    → ObeysRule (items ++ x ∷ []) parts → get_elem? parts port ≡ some v → v.owns ≡ true
    → (rest : List T) × (v.tasks ≡ rest ++ x ∷ []) × ObeysRule items (set parts port (record v { tasks = rest }))
pop_kept {T} items parts port v x rule at mine =
    let w : Part T = record v { tasks = rule.stolen ++ items } in
    let is = owner_is (items ++ x ∷ []) parts port v rule at mine in (
      rule.stolen ++ items,
      ap (λ (p : Part T). p.tasks) (sym is.1) ∙ rule.split ∙ sym (append_assoc rule.stolen items (x ∷ [])),
      record {
        owner = port;
        mine = w;
        there = there_now parts port v w at;
        owns = mine;
        alone = alone_at parts port port w (λ _. refl) (λ j p here owns. rule.alone j p here owns ∙ sym is.0);
        stolen = rule.stolen;
        split = refl;
        shared = still_stolen rule.stolen parts port v w at mine mine rule.shared;
      },
    )

pub steal_kept : {T : Type 0} (xs items : List T) (parts : List (Part T)) (port : ℕ) (v : Part T)
    → ObeysRule (xs ++ items) parts → get_elem? parts port ≡ some v → v.owns ≡ false
    → ObeysRule items (set parts port (record v { tasks = v.tasks ++ xs }))
steal_kept {T} xs items parts port v rule at thief =
    let w : Part T = record v { tasks = v.tasks ++ xs } in record {
      owner = rule.owner;
      mine = rule.mine;
      there = set_else parts port rule.owner w (thief_is (xs ++ items) parts port v rule at thief) ∙ rule.there;
      owns = rule.owns;
      alone = alone_at parts rule.owner port w (λ is. absurd (true≢false (sym is ∙ thief))) rule.alone;
      stolen = rule.stolen ++ xs;
      split = rule.split ∙ sym (append_assoc rule.stolen xs items);
      shared = more_stolen rule.stolen xs parts port v w at thief thief refl rule.shared;
    }

-- the obligations of the operations of `crossbeam_deque`

pub pushes : {T : Type 0} (port : ℕ) (v : Part T) (x : T) → v.owns ≡ true
    → Pushes ObeysRule port v (x ∷ []) (λ w. w ≡ record v { pushes = v.pushes + 1; tasks = v.tasks ++ x ∷ [] })
pushes port v x mine items parts rule at = (_, push_kept items parts port v x rule at mine, refl)

pub pops : {T : Type 0} (port : ℕ) (v : Part T) → v.owns ≡ true
    → Pops ObeysRule port v (λ xs w. v ≡ record w { tasks = w.tasks ++ xs })
pops port v mine x items parts rule at =
    let kept = pop_kept items parts port v x rule at mine in
    (record v { tasks = kept.0 }, kept.2, λ k. record v { tasks = kept.1 k })

pub steals : {T : Type 0} (port : ℕ) (v : Part T) → v.owns ≡ false
    → Takes ObeysRule port v 1 (λ xs w. w ≡ record v { tasks = v.tasks ++ xs })
steals port v thief xs items parts nonempty few rule at = (_, steal_kept xs items parts port v rule at thief, refl)
