use Rattle.std.proofs.Common.{◌≡◌, ◌+◌, ◌<◌, ◌≤◌, ◌++◌, ◌∷◌, refl, sym, append_assoc, arith, rules}
use Rattle.rank_nodes.specs.Nodes.{entries, count}
use Rattle.rank_tree.specs.Cuts.{IsCut}
use Rattle.rank_tree.proofs.Cutting.{cut_before, cut_after, cut_between}
use Rattle.rank_tree.proofs.cut.+cut_at.Goals as goal

pub returns-in_ok-join-in-Two : goal.returns-in_ok-join-in-Two
returns-in_ok-join-in-Two t c =
    let is : entries c.args.tree ≡ entries c.in-Two.node.value.first ++ c.in-Two.node.value.low ∷ entries c.in-Two.node.value.second = rw c.in-Two.is refl in
    let size : count c.args.tree ≡ count c.in-Two.node.value.first + 1 + count c.in-Two.node.value.second = rw c.in-Two.is refl in
    let le : c.args.key ≤ c.in-Two.node.value.low.key = grind arith in
    let cut : IsCut c.args.key c.in-Two.node.value.first c.in_ok-below-in-Two.below c.in_ok-below-in-Two.above = search rules in
    let joined : entries c.in_ok-join-in-Two.field-0.tree ≡ entries c.in_ok-below-in-Two.above.tree ++ c.in-Two.node.value.low ∷ entries c.in-Two.node.value.second = search rules in
    let joined_size : count c.in_ok-join-in-Two.field-0.tree ≡ count c.in_ok-below-in-Two.above.tree + 1 + count c.in-Two.node.value.second = search rules in
    cut_before _ _ _ _ _ _ _ _ _ is size c.requires.ascends le cut c.in_ok-join-in-Two.ensures.rooted joined joined_size

pub returns-in_ok-join-in-Two-2 : goal.returns-in_ok-join-in-Two-2
returns-in_ok-join-in-Two-2 t c =
    let is : entries c.args.tree ≡ entries c.in-Two.node.value.first ++ c.in-Two.node.value.low ∷ entries c.in-Two.node.value.second = rw c.in-Two.is refl in
    let size : count c.args.tree ≡ count c.in-Two.node.value.first + 1 + count c.in-Two.node.value.second = rw c.in-Two.is refl in
    let less : c.in-Two.node.value.low.key < c.args.key = grind arith in
    let cut : IsCut c.args.key c.in-Two.node.value.second c.in_ok-below-in-Two-2.below c.in_ok-below-in-Two-2.above = search rules in
    let joined : entries c.in_ok-join-in-Two-2.field-0.tree ≡ entries c.in-Two.node.value.first ++ c.in-Two.node.value.low ∷ entries c.in_ok-below-in-Two-2.below.tree = search rules in
    let joined_size : count c.in_ok-join-in-Two-2.field-0.tree ≡ count c.in-Two.node.value.first + 1 + count c.in_ok-below-in-Two-2.below.tree = search rules in
    cut_after _ _ _ _ _ _ _ _ _ is size c.requires.ascends less cut c.in_ok-join-in-Two-2.ensures.rooted joined joined_size

pub returns-in_ok-join-in-Three : goal.returns-in_ok-join-in-Three
returns-in_ok-join-in-Three t c =
    let is : entries c.args.tree ≡ entries c.in-Three.node.value.first ++ c.in-Three.node.value.low ∷ (entries c.in-Three.node.value.second ++ c.in-Three.node.value.high ∷ entries c.in-Three.node.value.third) = rw c.in-Three.is refl in
    let size : count c.args.tree ≡ count c.in-Three.node.value.first + 1 + (count c.in-Three.node.value.second + 1 + count c.in-Three.node.value.third) = rw c.in-Three.is (omega arith) in
    let le : c.args.key ≤ c.in-Three.node.value.low.key = grind arith in
    let cut : IsCut c.args.key c.in-Three.node.value.first c.in_ok-below-in-Three.below c.in_ok-below-in-Three.above = search rules in
    let joined : entries c.in_ok-join-in-Three.field-0.tree ≡ entries c.in_ok-below-in-Three.above.tree ++ c.in-Three.node.value.low ∷ (entries c.in-Three.node.value.second ++ c.in-Three.node.value.high ∷ entries c.in-Three.node.value.third) = search rules in
    let joined_size : count c.in_ok-join-in-Three.field-0.tree ≡ count c.in_ok-below-in-Three.above.tree + 1 + (count c.in-Three.node.value.second + 1 + count c.in-Three.node.value.third) = search rules in
    cut_before _ _ _ _ _ _ _ _ _ is size c.requires.ascends le cut c.in_ok-join-in-Three.ensures.rooted joined joined_size

pub returns-in_ok-join-in-Three-2 : goal.returns-in_ok-join-in-Three-2
returns-in_ok-join-in-Three-2 t c =
    let is : entries c.args.tree ≡ (entries c.in-Three.node.value.first ++ c.in-Three.node.value.low ∷ entries c.in-Three.node.value.second) ++ c.in-Three.node.value.high ∷ entries c.in-Three.node.value.third =
    rw c.in-Three.is (sym (append_assoc (entries c.in-Three.node.value.first) (c.in-Three.node.value.low ∷ entries c.in-Three.node.value.second) (c.in-Three.node.value.high ∷ entries c.in-Three.node.value.third))) in
    let size : count c.args.tree ≡ (count c.in-Three.node.value.first + 1 + count c.in-Three.node.value.second) + 1 + count c.in-Three.node.value.third = rw c.in-Three.is refl in
    let less : c.in-Three.node.value.high.key < c.args.key = grind arith in
    let cut : IsCut c.args.key c.in-Three.node.value.third c.in_ok-below-in-Three-2.below c.in_ok-below-in-Three-2.above = search rules in
    let joined : entries c.in_ok-join-in-Three-2.field-0.tree ≡ (entries c.in-Three.node.value.first ++ c.in-Three.node.value.low ∷ entries c.in-Three.node.value.second) ++ c.in-Three.node.value.high ∷ entries c.in_ok-below-in-Three-2.below.tree = search rules in
    let joined_size : count c.in_ok-join-in-Three-2.field-0.tree ≡ (count c.in-Three.node.value.first + 1 + count c.in-Three.node.value.second) + 1 + count c.in_ok-below-in-Three-2.below.tree = search rules in
    cut_after _ _ _ _ _ _ _ _ _ is size c.requires.ascends less cut c.in_ok-join-in-Three-2.ensures.rooted joined joined_size

pub returns-in_ok-join-in-Three-3 : goal.returns-in_ok-join-in-Three-3
returns-in_ok-join-in-Three-3 t c =
    let is : entries c.args.tree ≡ entries c.in-Three.node.value.first ++ c.in-Three.node.value.low ∷ (entries c.in-Three.node.value.second ++ c.in-Three.node.value.high ∷ entries c.in-Three.node.value.third) = rw c.in-Three.is refl in
    let size : count c.args.tree ≡ count c.in-Three.node.value.first + 1 + count c.in-Three.node.value.second + 1 + count c.in-Three.node.value.third = rw c.in-Three.is refl in
    let less : c.in-Three.node.value.low.key < c.args.key = grind arith in
    let le : c.args.key ≤ c.in-Three.node.value.high.key = grind arith in
    let cut : IsCut c.args.key c.in-Three.node.value.second c.in_ok-below-in-Three-3.below c.in_ok-below-in-Three-3.above = search rules in
    let low : entries c.in_ok-below-in-Three-4.below.tree ≡ entries c.in-Three.node.value.first ++ c.in-Three.node.value.low ∷ entries c.in_ok-below-in-Three-3.below.tree = search rules in
    let low_size : count c.in_ok-below-in-Three-4.below.tree ≡ count c.in-Three.node.value.first + 1 + count c.in_ok-below-in-Three-3.below.tree = search rules in
    let high : entries c.in_ok-join-in-Three-3.field-0.tree ≡ entries c.in_ok-below-in-Three-3.above.tree ++ c.in-Three.node.value.high ∷ entries c.in-Three.node.value.third = search rules in
    let high_size : count c.in_ok-join-in-Three-3.field-0.tree ≡ count c.in_ok-below-in-Three-3.above.tree + 1 + count c.in-Three.node.value.third = search rules in
    cut_between _ _ c.in-Three.node.value.first c.in-Three.node.value.second c.in-Three.node.value.third c.in-Three.node.value.low c.in-Three.node.value.high _ _ _ _ is size c.requires.ascends less le cut c.in_ok-below-in-Three-4.ensures.rooted low low_size c.in_ok-join-in-Three-3.ensures.rooted high high_size
