use Rattle.std.proofs.Common.{sym}
use Rattle.rank_nodes.proofs.EntryLemmas.Places.{value_found, value_missed, value_nowhere}
use Rattle.rank_nodes.proofs.leaf.value_in_leaf.Goals as goal
use Rattle.rank_nodes.proofs.leaf.value_in_leaf.Goals.{else-at-leaf-via-then-at-leaf+else-leaf-at, else-at-leaf-via-else-at-leaf}

pub returns-then-leaf-at : goal.returns-then-leaf-at
returns-then-leaf-at c = sym (value_found _ _ _ _ c.requires.ascends c.if-at-leaf.true c.if-leaf-at.true)

pub returns-else-at-leaf : goal.returns-else-at-leaf
returns-else-at-leaf c = elim c.else-at-leaf.branch [
  | else-at-leaf-via-then-at-leaf+else-leaf-at w ↦ sym (value_missed _ _ _ _ c.requires.ascends c.requires.split w.if-at-leaf.true w.if-leaf-at.false)
  | else-at-leaf-via-else-at-leaf w ↦ sym (value_nowhere _ _ _ c.requires.split w.if-at-leaf.false)
]
