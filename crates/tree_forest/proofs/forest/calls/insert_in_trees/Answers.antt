use Rattle.std.proofs.Common.{◌≡◌, ℕ, ◌<◌, ◌++◌, List, ◌∙◌, sym, subst, arith, length-append}
use Rattle.std.proofs.lemmas.Result.{IfOk-weaker, on_err_weaker}
use Rattle.tree_nodes.specs.Nodes.{keys}
use Rattle.tree23.specs.SideBySide.{entry_keys}
use Rattle.tree_nodes.specs.Code.Insertions.{IsInserted}
use Rattle.key_sets.proofs.KeyLemmas.Ascending.{ascends_front}
use Rattle.tree23.proofs.SideBySideLemmas.KeyedTrees.{height_within}
use Rattle.tree_forest.proofs.ForestLemmas.ForestKeys.{part_at, in_entry, ascends_in_entry, has_entry, inserted_in_front, inserted_in_entry, trees_set, entry_fits}
use Rattle.tree_forest.proofs.forest.calls.insert_in_trees.Goals as goal

pub insert_at_root-requires-clause-ascends : goal.insert_at_root-requires-clause-ascends
insert_at_root-requires-clause-ascends c = ascends_front _ _ c.requires.ascends

pub insert_at_root-requires-clause-fits : goal.insert_at_root-requires-clause-fits
insert_at_root-requires-clause-fits c =
    omega (arith, c.requires.fits, height_within _ c.requires.trees.front_is, length-append (keys c.args.trees.now.front.tree) (entry_keys c.args.trees.now.entries.items))

pub returns-then-at-eq0-clause-ok : goal.returns-then-at-eq0-clause-ok
returns-then-at-eq0-clause-ok c =
    let below = rw c.if-at-eq0.true at c.place-at.ensures.below in
    IfOk-weaker _ (λ added. IsInserted c.args.key (keys c.args.trees.now.front.tree) (keys c.insert_at_root.new.root.tree) added) _
    (λ added i. inserted_in_front _ _ _ _ added below c.requires.ascends i) c.insert_at_root.ensures.ok

pub returns-then-entry-key-clause-ok : goal.returns-then-entry-key-clause-ok
returns-then-entry-key-clause-ok c =
    let p = in_entry _ c.place-at.ensures c.if-at-eq0.false c.index_mut-entry.ensures.value c.requires.ascends in
    record {
      same = trees_set _ _ _ c.place-at.ensures c.if-at-eq0.false ∙ sym p.is;
      present = has_entry p c.if-entry-key.true;
    }

pub insert_at_root-requires-2-clause-ascends : goal.insert_at_root-requires-2-clause-ascends
insert_at_root-requires-2-clause-ascends c =
    let p = in_entry _ c.place-at.ensures c.if-at-eq0.false c.index_mut-entry.ensures.value c.requires.ascends in
    ascends_front _ _ (ascends_in_entry p)

pub insert_at_root-requires-2-clause-fits : goal.insert_at_root-requires-2-clause-fits
insert_at_root-requires-2-clause-fits c =
    let p = in_entry _ c.place-at.ensures c.if-at-eq0.false c.index_mut-entry.ensures.value c.requires.ascends in
    omega (arith, c.requires.fits, entry_fits p (part_at _ _ _ c.requires.trees.entries_are (omega arith) c.index_mut-entry.ensures.value))

pub returns-clause-ok : goal.returns-clause-ok
returns-clause-ok c =
    let p = in_entry _ c.place-at.ensures c.if-at-eq0.false c.index_mut-entry.ensures.value c.requires.ascends in
    let ne = c.if-entry-key.false in
    let le = p.not_above in
    let less : c.index_mut-entry.result.now.key < c.args.key = omega arith in
    let is = trees_set (keys c.args.trees.now.front.tree) c.args.trees.now.entries.items (record { key = c.index_mut-entry.result.now.key; rooted = c.insert_at_root-2.new.root }) c.place-at.ensures c.if-at-eq0.false in
    IfOk-weaker _ (λ added. IsInserted c.args.key (keys c.index_mut-entry.result.now.rooted.tree) (keys c.insert_at_root-2.new.root.tree) added) _
    (λ added i. subst (λ (z : List ℕ). IsInserted c.args.key (keys c.args.trees.now.front.tree ++ entry_keys c.args.trees.now.entries.items) z added) (sym is) (inserted_in_entry _ added p less i)) c.insert_at_root-2.ensures.ok

pub returns-clause-err : goal.returns-clause-err
returns-clause-err c =
    let p = in_entry _ c.place-at.ensures c.if-at-eq0.false c.index_mut-entry.ensures.value c.requires.ascends in
    on_err_weaker {P = keys c.insert_at_root-2.new.root.tree ≡ keys c.index_mut-entry.result.now.rooted.tree} _ (λ same. trees_set _ _ _ c.place-at.ensures c.if-at-eq0.false ∙ rw same (sym p.is)) c.insert_at_root-2.ensures.err
