use Rattle.std.proofs.Common.{◌≡◌, ◌-◌, Some, None, length, reverse, sym, subst}
use Rattle.std.specs.Prelude.{slice_get}
use Rattle.tree_nodes.specs.Nodes.{keys}
use Rattle.tree23.specs.SideBySide.{entry_keys}
use Rattle.tree_forest.proofs.ForestLemmas.Reversing.{first_here, first_past, first_after, none_after}
use Rattle.tree_forest.proofs.forest.remaining.Remaining.least.Goals as goal

pub returns-in-Some : goal.returns-in-Some
returns-in-Some c = subst (λ z. Some c.in-Some.key ≡ slice_get z 0) c.self.view_is (first_here c.in-Some.key (keys c.self.inside.sides.high.front.tree) _ c.in-Some.ensures)

pub returns-in-Some-last : goal.returns-in-Some-last
returns-in-Some-last c =
    let trees = c.self.inside.sides.high in
    let e = c.in-Some-last.entry.now in
    let last : slice_get trees.entries.items (length trees.entries.items - 1) ≡ Some e = sym (subst (λ z. Some e ≡ slice_get z (length z - 1)) c.deref.ensures.value c.in-Some-last.ensures.value) in
    subst (λ z. Some e.key ≡ slice_get z 0) c.self.view_is (first_past (Some e.key) (keys trees.front.tree) (entry_keys (reverse trees.entries.items)) c.in-None.ensures (first_after trees.entries.items e last))

pub returns-in-None-last : goal.returns-in-None-last
returns-in-None-last c =
    let trees = c.self.inside.sides.high in
    let none : slice_get trees.entries.items (length trees.entries.items - 1) ≡ None = sym (subst (λ z. None ≡ slice_get z (length z - 1)) c.deref.ensures.value c.in-None-last.ensures.value) in
    subst (λ z. None ≡ slice_get z 0) c.self.view_is (first_past None (keys trees.front.tree) (entry_keys (reverse trees.entries.items)) c.in-None.ensures (none_after trees.entries.items none))
