use Rattle.std.proofs.Common.{◌≡◌, false, rules}
use Rattle.key_sets.specs.Keys.{has}
use Rattle.tree_nodes.proofs.TreeLemmas.Adding.{added_at}
use Rattle.tree_nodes.proofs.insert.insert_in_leaf.Goals as goal

pub returns-in-Ok-clause-outcome : goal.returns-in-Ok-clause-outcome
returns-in-Ok-clause-outcome c =
    let none : has c.args.key c.in-Leaf.leaf.value.items ≡ false = search rules in
    rw c.in-Leaf.is (added_at _ _ _ _ (rw (c.deref-2.ensures.value, c.deref.ensures) at c.place-at.ensures.split) none (search (rules, c.in-Ok.ensures.items)))
