use Rattle.std.proofs.Common.{◌∙◌, sym, arith}
use Rattle.std.proofs.lemmas.Bool.Decides.{nat_tests}
use Rattle.key_sets.proofs.KeyLemmas.Ascending.{ascends_front}
use Rattle.tree_forest.proofs.ForestLemmas.ForestKeys.{in_entry, ascends_in_entry, has_in_front, has_in_entry, has_entry}
use Rattle.tree_forest.proofs.forest.calls.find_in_trees.Goals as goal

pub find_in-requires-clause-ascends : goal.find_in-requires-clause-ascends
find_in-requires-clause-ascends c = ascends_front _ _ c.requires.ascends

pub returns-then-at-eq0 : goal.returns-then-at-eq0
returns-then-at-eq0 c =
    let below = rw c.if-at-eq0.true at c.place-at.ensures.below in
    c.find_in.ensures ∙ sym (has_in_front _ _ _ below c.requires.ascends)

pub find_in-requires-else-entry-key-clause-ascends : goal.find_in-requires-else-entry-key-clause-ascends
find_in-requires-else-entry-key-clause-ascends c =
    let p = in_entry _ c.place-at.ensures c.if-at-eq0.false c.index-entry.ensures c.requires.ascends in
    ascends_front _ _ (ascends_in_entry p)

pub returns-then-entry-key : goal.returns-then-entry-key
returns-then-entry-key c =
    let p = in_entry _ c.place-at.ensures c.if-at-eq0.false c.index-entry.ensures c.requires.ascends in
    let there = has_entry p c.if-entry-key.true in
    grind (arith, nat_tests)

pub returns-else-entry-key : goal.returns-else-entry-key
returns-else-entry-key c =
    let p = in_entry _ c.place-at.ensures c.if-at-eq0.false c.index-entry.ensures c.requires.ascends in
    let ne = c.if-entry-key.false in
    let le = p.not_above in
    c.find_in-else-entry-key.ensures ∙ sym (has_in_entry p (omega (arith, ne, le)))
