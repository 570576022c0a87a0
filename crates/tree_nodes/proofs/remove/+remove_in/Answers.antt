use Rattle.std.proofs.Common.{◌++◌, ◌∷◌, ◌<◌, ◌≡◌, arith, rules}
use Rattle.key_sets.specs.Keys.{StrictlyAscends}
use Rattle.tree_nodes.specs.Nodes.{keys}
use Rattle.tree_nodes.proofs.TreeLemmas.Removing.{taken_left, taken_right, taken_middle, taken_last, taken_here, taken_high, fits_without}
use Rattle.tree_nodes.proofs.remove.+remove_in.Goals as goal

pub returns-in-Leaf-clause-loose : goal.returns-in-Leaf-clause-loose
returns-in-Leaf-clause-loose t c =
    let u = rw c.in-Leaf.is at c.requires.tree in
    fits_without _ _ _ _ (rw c.deref_mut.ensures.value at c.remove_in_leaf.ensures.keys) u

pub returns-then-key-deref-clause-removed : goal.returns-then-key-deref-clause-removed
returns-then-key-deref-clause-removed t c =
    let s : StrictlyAscends (keys c.in-Two.node.value.first ++ c.in-Two.node.value.low ∷ keys c.in-Two.node.value.second) = rw c.in-Two.is at c.requires.ascends in
    let lt : c.args.key < c.in-Two.node.value.low = grind arith in
    let i = rw c.deref_mut-then-key-deref.ensures.value at c.remove_in-found.ensures.removed in
    let e : keys c.rebalance.new.tree ≡ keys c.remove_in-found.new.tree ++ c.in-Two.node.value.low ∷ keys c.in-Two.node.value.second = search rules in
    rw c.in-Two.is (taken_left _ _ _ _ _ _ _ s lt i e)

pub returns-then-deref-key-clause-removed : goal.returns-then-deref-key-clause-removed
returns-then-deref-key-clause-removed t c =
    let s : StrictlyAscends (keys c.in-Two.node.value.first ++ c.in-Two.node.value.low ∷ keys c.in-Two.node.value.second) = rw c.in-Two.is at c.requires.ascends in
    let gt : c.in-Two.node.value.low < c.args.key = grind arith in
    let i = rw c.deref_mut-then-deref-key.ensures.value at c.remove_in-found-then-deref-key.ensures.removed in
    let e : keys c.rebalance-then-deref-key.new.tree ≡ keys c.in-Two.node.value.first ++ c.in-Two.node.value.low ∷ keys c.remove_in-found-then-deref-key.new.tree = search rules in
    rw c.in-Two.is (taken_right _ _ _ _ _ _ _ s gt i e)

pub returns-else-deref-key-clause-removed : goal.returns-else-deref-key-clause-removed
returns-else-deref-key-clause-removed t c =
    let s : StrictlyAscends (keys c.in-Two.node.value.first ++ c.in-Two.node.value.low ∷ keys c.in-Two.node.value.second) = rw c.in-Two.is at c.requires.ascends in
    let e : c.args.key ≡ c.in-Two.node.value.low = grind arith in
    let k : keys c.remove_low.new.tree ≡ keys c.in-Two.node.value.first ++ keys c.in-Two.node.value.second = search rules in
    rw c.in-Two.is (taken_here _ _ _ _ _ s e k)

pub returns-then-key-deref-2-clause-removed : goal.returns-then-key-deref-2-clause-removed
returns-then-key-deref-2-clause-removed t c =
    let s : StrictlyAscends (keys c.in-Three.node.value.first ++ c.in-Three.node.value.low ∷ (keys c.in-Three.node.value.second ++ c.in-Three.node.value.high ∷ keys c.in-Three.node.value.third)) = rw c.in-Three.is at c.requires.ascends in
    let lt : c.args.key < c.in-Three.node.value.low = grind arith in
    let i = rw c.deref_mut-then-key-deref-2.ensures.value at c.remove_in-found-then-key-deref-2.ensures.removed in
    let e : keys c.rebalance-then-key-deref-2.new.tree ≡ keys c.remove_in-found-then-key-deref-2.new.tree ++ c.in-Three.node.value.low ∷ (keys c.in-Three.node.value.second ++ c.in-Three.node.value.high ∷ keys c.in-Three.node.value.third) = search rules in
    rw c.in-Three.is (taken_left _ _ _ _ _ _ _ s lt i e)

pub returns-then-key-deref-3-clause-removed : goal.returns-then-key-deref-3-clause-removed
returns-then-key-deref-3-clause-removed t c =
    let s : StrictlyAscends (keys c.in-Three.node.value.first ++ c.in-Three.node.value.low ∷ (keys c.in-Three.node.value.second ++ c.in-Three.node.value.high ∷ keys c.in-Three.node.value.third)) = rw c.in-Three.is at c.requires.ascends in
    let e : c.args.key ≡ c.in-Three.node.value.low = grind arith in
    let k : keys c.remove_low-then-key-deref-3.new.tree ≡ keys c.in-Three.node.value.first ++ (keys c.in-Three.node.value.second ++ c.in-Three.node.value.high ∷ keys c.in-Three.node.value.third) = search rules in
    rw c.in-Three.is (taken_here _ _ _ _ _ s e k)

pub returns-then-key-deref-4-clause-removed : goal.returns-then-key-deref-4-clause-removed
returns-then-key-deref-4-clause-removed t c =
    let s : StrictlyAscends (keys c.in-Three.node.value.first ++ c.in-Three.node.value.low ∷ (keys c.in-Three.node.value.second ++ c.in-Three.node.value.high ∷ keys c.in-Three.node.value.third)) = rw c.in-Three.is at c.requires.ascends in
    let gt : c.in-Three.node.value.low < c.args.key = grind arith in
    let lt : c.args.key < c.in-Three.node.value.high = grind arith in
    let i = rw c.deref_mut-then-key-deref-4.ensures.value at c.remove_in-found-then-key-deref-4.ensures.removed in
    let e : keys c.rebalance-then-key-deref-4.new.tree ≡ keys c.in-Three.node.value.first ++ c.in-Three.node.value.low ∷ (keys c.remove_in-found-then-key-deref-4.new.tree ++ c.in-Three.node.value.high ∷ keys c.in-Three.node.value.third) = search rules in
    rw c.in-Three.is (taken_middle _ _ _ _ _ _ _ _ _ s gt lt i e)

pub returns-then-key-deref-5-clause-removed : goal.returns-then-key-deref-5-clause-removed
returns-then-key-deref-5-clause-removed t c =
    let s : StrictlyAscends (keys c.in-Three.node.value.first ++ c.in-Three.node.value.low ∷ (keys c.in-Three.node.value.second ++ c.in-Three.node.value.high ∷ keys c.in-Three.node.value.third)) = rw c.in-Three.is at c.requires.ascends in
    let gt : c.in-Three.node.value.low < c.args.key = grind arith in
    let e : c.args.key ≡ c.in-Three.node.value.high = grind arith in
    let k : keys c.remove_high.new.tree ≡ keys c.in-Three.node.value.first ++ c.in-Three.node.value.low ∷ (keys c.in-Three.node.value.second ++ keys c.in-Three.node.value.third) = search rules in
    rw c.in-Three.is (taken_high _ _ _ _ _ _ _ s gt e k)

pub returns-else-key-deref-5-clause-removed : goal.returns-else-key-deref-5-clause-removed
returns-else-key-deref-5-clause-removed t c =
    let s : StrictlyAscends (keys c.in-Three.node.value.first ++ c.in-Three.node.value.low ∷ (keys c.in-Three.node.value.second ++ c.in-Three.node.value.high ∷ keys c.in-Three.node.value.third)) = rw c.in-Three.is at c.requires.ascends in
    let gt : c.in-Three.node.value.low < c.args.key = grind arith in
    let gt' : c.in-Three.node.value.high < c.args.key = grind arith in
    let i = rw c.deref_mut-else-key-deref-5.ensures.value at c.remove_in-found-else-key-deref-5.ensures.removed in
    let e : keys c.rebalance-else-key-deref-5.new.tree ≡ keys c.in-Three.node.value.first ++ c.in-Three.node.value.low ∷ (keys c.in-Three.node.value.second ++ c.in-Three.node.value.high ∷ keys c.remove_in-found-else-key-deref-5.new.tree) = search rules in
    rw c.in-Three.is (taken_last _ _ _ _ _ _ _ _ _ s gt gt' i e)
