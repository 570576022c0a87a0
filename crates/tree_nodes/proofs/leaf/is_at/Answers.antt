use Rattle.std.proofs.Common.{sym, arith}
use Rattle.std.proofs.lemmas.Bool.Decides.{nat_tests}
use Rattle.key_sets.proofs.KeyLemmas.Places.{has_at, has_nowhere}
use Rattle.tree_nodes.proofs.leaf.is_at.Goals as goal

pub returns-then-at-leaf : goal.returns-then-at-leaf
returns-then-at-leaf c = sym (has_at _ _ _ c.requires.ascends c.requires.split c.if-at-leaf.true)

pub returns-else-at-leaf : goal.returns-else-at-leaf
returns-else-at-leaf c = let none = has_nowhere _ _ _ c.requires.split c.if-at-leaf.false in grind (arith, nat_tests)
