use Rattle.std.proofs.Common.{◌-◌, ◌/◌, ◌++◌, ◌∙◌, ap, append_assoc, arith}
use Rattle.batched_map.proofs.Cutting.{last_apart, front_ascends, joined_both, left_count}
use Rattle.batched_map.proofs.end.+join_last.Goals as goal

pub join_last-requires-2 : goal.join_last-requires-2
join_last-requires-2 t c =
    let high = c.in_ok-high.ensures in
    let left = left_count c.args.trees.now.items c.join_last.new.trees.items (c.args.count / 2) c.in_ok-high.high high in
    (omega (arith, c.decreases), (omega (arith, c.requires.some), (omega (arith, left, c.requires.there), front_ascends c.args.trees.now.items c.join_last.new.trees.items high.last high.all_are c.requires.ascends)))

pub concat-requires : goal.concat-requires
concat-requires t c =
    let high = c.in_ok-high.ensures in
    let low = c.in_ok-low.ensures in
    let left = c.join_last-2.new.trees.items in
    rw (low.tree_is, high.tree_is)
    (last_apart c.args.trees.now.items left low.last high.last (high.all_are ∙ ap (λ front. front ++ high.last) low.all_are ∙ append_assoc left low.last high.last) c.requires.ascends)

pub returns : goal.returns
returns t c =
    joined_both c.args.trees.now.items c.join_last.new.trees.items c.join_last-2.new.trees.items (c.args.count - c.args.count / 2) (c.args.count / 2) c.args.count c.in_ok-low.low c.in_ok-high.high c.in_ok-tree.tree
    c.in_ok-high.ensures c.in_ok-low.ensures (omega arith) c.in_ok-tree.ensures
