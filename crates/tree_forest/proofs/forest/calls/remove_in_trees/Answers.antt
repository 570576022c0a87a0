use Rattle.std.proofs.Common.{◌++◌, ◌∙◌, sym, ap, arith}
use Rattle.tree23.specs.SideBySide.{entry_keys}
use Rattle.key_sets.proofs.KeyLemmas.Ascending.{ascends_front}
use Rattle.tree_nodes.proofs.TreeLemmas.Removing.{removed_keys, removed_found}
use Rattle.tree_forest.proofs.ForestLemmas.ForestKeys.{in_entry, ascends_in_entry, has_in_front, has_in_entry, has_entry, without_in_front, without_in_entry, without_entry, trees_set, trees_but}
use Rattle.tree_forest.proofs.forest.calls.remove_in_trees.Goals as goal

pub remove_in-found-requires-clause-ascends : goal.remove_in-found-requires-clause-ascends
remove_in-found-requires-clause-ascends c = ascends_front _ _ c.requires.ascends

pub returns-then-at-eq0-clause-found : goal.returns-then-at-eq0-clause-found
returns-then-at-eq0-clause-found c =
    let below = rw c.if-at-eq0.true at c.place-at.ensures.below in
    removed_found c.args.key c.args.trees.now.front.tree c.remove_in-found.new.tree _ c.remove_in-found.ensures.removed ∙ sym (has_in_front _ _ _ below c.requires.ascends)

pub returns-then-at-eq0-clause-keys : goal.returns-then-at-eq0-clause-keys
returns-then-at-eq0-clause-keys c =
    let below = rw c.if-at-eq0.true at c.place-at.ensures.below in
    let is = c.shrink_root.ensures.keys ∙ removed_keys c.args.key c.args.trees.now.front.tree c.remove_in-found.new.tree _ c.remove_in-found.ensures.removed in
    ap (λ z. z ++ entry_keys c.args.trees.now.entries.items) is ∙ sym (without_in_front _ _ _ below c.requires.ascends)

pub remove_in-found-requires-then-entry-key-clause-ascends : goal.remove_in-found-requires-then-entry-key-clause-ascends
remove_in-found-requires-then-entry-key-clause-ascends c =
    let p = in_entry _ c.place-at.ensures c.if-at-eq0.false c.index_mut-entry.ensures.value c.requires.ascends in
    ascends_front _ _ (ascends_in_entry p)

pub returns-then-entry-key-clause-found : goal.returns-then-entry-key-clause-found
returns-then-entry-key-clause-found c =
    let p = in_entry _ c.place-at.ensures c.if-at-eq0.false c.index_mut-entry.ensures.value c.requires.ascends in
    let ne = c.if-entry-key.true in
    let le = p.not_above in
    removed_found c.args.key c.index_mut-entry.result.now.rooted.tree c.remove_in-found-then-entry-key.new.tree _ c.remove_in-found-then-entry-key.ensures.removed ∙ sym (has_in_entry p (omega (arith, ne, le)))

pub returns-then-entry-key-clause-keys : goal.returns-then-entry-key-clause-keys
returns-then-entry-key-clause-keys c =
    let p = in_entry _ c.place-at.ensures c.if-at-eq0.false c.index_mut-entry.ensures.value c.requires.ascends in
    let ne = c.if-entry-key.true in
    let le = p.not_above in
    let is = c.shrink_root-then-entry-key.ensures.keys ∙ removed_keys c.args.key c.index_mut-entry.result.now.rooted.tree c.remove_in-found-then-entry-key.new.tree _ c.remove_in-found-then-entry-key.ensures.removed in
    trees_set _ _ _ c.place-at.ensures c.if-at-eq0.false ∙ rw is (sym (without_in_entry p (omega (arith, ne, le))))

pub returns-in-Some-clause-found : goal.returns-in-Some-clause-found
returns-in-Some-clause-found c =
    let p = in_entry _ c.place-at.ensures c.if-at-eq0.false c.index_mut-entry.ensures.value c.requires.ascends in
    sym (has_entry p c.if-entry-key.false)

pub returns-in-Some-clause-keys : goal.returns-in-Some-clause-keys
returns-in-Some-clause-keys c =
    let p = in_entry _ c.place-at.ensures c.if-at-eq0.false c.index_mut-entry.ensures.value c.requires.ascends in
    let is = without_entry p c.if-entry-key.false in
    trees_set _ _ _ c.place-at.ensures c.if-at-eq0.false ∙ rw c.shrink_root-in-Some.ensures.keys (sym (rw c.in-Some.ensures.popped at is))

pub returns-in-None-clause-found : goal.returns-in-None-clause-found
returns-in-None-clause-found c =
    let p = in_entry _ c.place-at.ensures c.if-at-eq0.false c.index_mut-entry.ensures.value c.requires.ascends in
    sym (has_entry p c.if-entry-key.false)

pub returns-in-None-clause-keys : goal.returns-in-None-clause-keys
returns-in-None-clause-keys c =
    let p = in_entry _ c.place-at.ensures c.if-at-eq0.false c.index_mut-entry.ensures.value c.requires.ascends in
    let is = without_entry p c.if-entry-key.false in
    trees_but c.place-at.result _ _ _ _ c.if-at-eq0.false c.remove.ensures.by_index.2 ∙ sym (rw c.in-None.ensures.popped.0 at is)
