use Rattle.std.proofs.Common.{◌∙◌, sym}
use Rattle.key_sets.proofs.KeyLemmas.Ascending.{ascends_front}
use Rattle.tree_forest.proofs.ForestLemmas.ForestKeys.{in_entry, ascends_in_entry, least_in_front, least_in_entry}
use Rattle.tree_forest.proofs.forest.calls.next_in_trees.Goals as goal

pub next_in-requires-clause-ascends : goal.next_in-requires-clause-ascends
next_in-requires-clause-ascends c = ascends_front _ _ c.requires.ascends

pub next_in-requires-2-clause-ascends : goal.next_in-requires-2-clause-ascends
next_in-requires-2-clause-ascends c =
    let p = in_entry _ c.place-at.ensures c.if-at-eq0.false c.index-entry.ensures c.requires.ascends in
    ascends_front _ _ (ascends_in_entry p)

pub returns-then-at-eq0 : goal.returns-then-at-eq0
returns-then-at-eq0 c =
    let below = rw c.if-at-eq0.true at c.place-at.ensures.below in
    let is = rw c.if-at-eq0.true at c.or_key_at.ensures in
    is ∙ least_in_front _ _ _ _ below c.next_in.ensures

pub returns : goal.returns
returns c =
    let p = in_entry _ c.place-at.ensures c.if-at-eq0.false c.index-entry.ensures c.requires.ascends in
    c.or_key_at-2.ensures ∙ least_in_front _ _ _ _ c.place-at.ensures.below c.next_in-2.ensures ∙ sym (least_in_entry p)
