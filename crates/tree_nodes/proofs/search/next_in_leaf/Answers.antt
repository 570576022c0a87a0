use Rattle.std.proofs.Common.{sym, rules}
use Rattle.key_sets.proofs.KeyLemmas.Places.{IsAfter, after_absent, after_present, least_at, least_nowhere}
use Rattle.tree_nodes.proofs.search.next_in_leaf.Goals as goal
use Rattle.tree_nodes.proofs.search.next_in_leaf.Goals.{then-is_at, else-is_at}

pub returns-then-after-leaf : goal.returns-then-after-leaf
returns-then-after-leaf c =
    let after : IsAfter c.args.key c.args.leaf.now c.if-is_at.after = elim c.if-is_at.branch [
      | then-is_at w ↦ rw w.after-is (after_present _ _ _ c.requires.ascends c.place-at.ensures.split (search rules))
      | else-is_at w ↦ rw w.after-is (after_absent _ _ _ c.place-at.ensures.split (search rules))
    ] in
    sym (least_at _ _ _ after c.if-after-leaf.true)

pub returns-else-after-leaf : goal.returns-else-after-leaf
returns-else-after-leaf c =
    let after : IsAfter c.args.key c.args.leaf.now c.if-is_at.after = elim c.if-is_at.branch [
      | then-is_at w ↦ rw w.after-is (after_present _ _ _ c.requires.ascends c.place-at.ensures.split (search rules))
      | else-is_at w ↦ rw w.after-is (after_absent _ _ _ c.place-at.ensures.split (search rules))
    ] in
    sym (least_nowhere _ _ _ after c.if-after-leaf.false)
