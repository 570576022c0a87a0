use Rattle.std.proofs.Common.{◌++◌, ◌∷◌, ◌<◌, ◌≡◌, arith, rules}
use Rattle.key_sets.specs.Keys.{StrictlyAscends}
use Rattle.tree_nodes.specs.Nodes.{keys, keys_with_split}
use Rattle.tree_nodes.proofs.TreeLemmas.Inserting.{outcome_left, outcome_right, outcome_middle, outcome_last}
use Rattle.tree_nodes.proofs.insert.+insert_in.Goals as goal

pub returns-then-key-deref-clause-outcome : goal.returns-then-key-deref-clause-outcome
returns-then-key-deref-clause-outcome t c =
    let s : StrictlyAscends (keys c.in-Two.node.value.first ++ c.in-Two.node.value.low ∷ keys c.in-Two.node.value.second) = rw c.in-Two.is at c.requires.ascends in
    let lt : c.args.key < c.in-Two.node.value.low = grind arith in
    let i = rw c.deref_mut.ensures.value at c.insert_in-outcome.ensures.outcome in
    let e : keys_with_split c.grow_first.new.tree c.grow_first.result ≡ keys_with_split c.insert_in-outcome.new.tree c.insert_in-outcome.result.1 ++ c.in-Two.node.value.low ∷ keys c.in-Two.node.value.second = search rules in
    rw c.in-Two.is (outcome_left _ _ _ _ _ _ _ s lt i e)

pub returns-then-deref-key-clause-outcome : goal.returns-then-deref-key-clause-outcome
returns-then-deref-key-clause-outcome t c =
    let s : StrictlyAscends (keys c.in-Two.node.value.first ++ c.in-Two.node.value.low ∷ keys c.in-Two.node.value.second) = rw c.in-Two.is at c.requires.ascends in
    let gt : c.in-Two.node.value.low < c.args.key = grind arith in
    let i = rw c.deref_mut-then-deref-key.ensures.value at c.insert_in-outcome-then-deref-key.ensures.outcome in
    let e : keys_with_split c.grow_second.new.tree c.grow_second.result ≡ keys c.in-Two.node.value.first ++ c.in-Two.node.value.low ∷ keys_with_split c.insert_in-outcome-then-deref-key.new.tree c.insert_in-outcome-then-deref-key.result.1 = search rules in
    rw c.in-Two.is (outcome_right _ _ _ _ _ _ _ s gt i e)

pub returns-then-key-deref-2-clause-outcome : goal.returns-then-key-deref-2-clause-outcome
returns-then-key-deref-2-clause-outcome t c =
    let s : StrictlyAscends (keys c.in-Three.node.value.first ++ c.in-Three.node.value.low ∷ (keys c.in-Three.node.value.second ++ c.in-Three.node.value.high ∷ keys c.in-Three.node.value.third)) = rw c.in-Three.is at c.requires.ascends in
    let lt : c.args.key < c.in-Three.node.value.low = grind arith in
    let i = rw c.deref_mut-then-key-deref-2.ensures.value at c.insert_in-outcome-then-key-deref-2.ensures.outcome in
    let e : keys_with_split c.grow_first-then-key-deref-2.new.tree c.grow_first-then-key-deref-2.result ≡ keys_with_split c.insert_in-outcome-then-key-deref-2.new.tree c.insert_in-outcome-then-key-deref-2.result.1 ++ c.in-Three.node.value.low ∷ (keys c.in-Three.node.value.second ++ c.in-Three.node.value.high ∷ keys c.in-Three.node.value.third) = search rules in
    rw c.in-Three.is (outcome_left _ _ _ _ _ _ _ s lt i e)

pub returns-then-key-deref-5-clause-outcome : goal.returns-then-key-deref-5-clause-outcome
returns-then-key-deref-5-clause-outcome t c =
    let s : StrictlyAscends (keys c.in-Three.node.value.first ++ c.in-Three.node.value.low ∷ (keys c.in-Three.node.value.second ++ c.in-Three.node.value.high ∷ keys c.in-Three.node.value.third)) = rw c.in-Three.is at c.requires.ascends in
    let gt : c.in-Three.node.value.low < c.args.key = grind arith in
    let lt : c.args.key < c.in-Three.node.value.high = grind arith in
    let i = rw c.deref_mut-then-key-deref-5.ensures.value at c.insert_in-outcome-then-key-deref-5.ensures.outcome in
    let e : keys_with_split c.grow_second-then-key-deref-5.new.tree c.grow_second-then-key-deref-5.result ≡ keys c.in-Three.node.value.first ++ c.in-Three.node.value.low ∷ (keys_with_split c.insert_in-outcome-then-key-deref-5.new.tree c.insert_in-outcome-then-key-deref-5.result.1 ++ c.in-Three.node.value.high ∷ keys c.in-Three.node.value.third) = search rules in
    rw c.in-Three.is (outcome_middle _ _ _ _ _ _ _ _ _ s gt lt i e)

pub returns-else-key-deref-5-clause-outcome : goal.returns-else-key-deref-5-clause-outcome
returns-else-key-deref-5-clause-outcome t c =
    let s : StrictlyAscends (keys c.in-Three.node.value.first ++ c.in-Three.node.value.low ∷ (keys c.in-Three.node.value.second ++ c.in-Three.node.value.high ∷ keys c.in-Three.node.value.third)) = rw c.in-Three.is at c.requires.ascends in
    let gt : c.in-Three.node.value.low < c.args.key = grind arith in
    let gt' : c.in-Three.node.value.high < c.args.key = grind arith in
    let i = rw c.deref_mut-else-key-deref-5.ensures.value at c.insert_in-outcome-else-key-deref-5.ensures.outcome in
    let e : keys_with_split c.grow_third.new.tree c.grow_third.result ≡ keys c.in-Three.node.value.first ++ c.in-Three.node.value.low ∷ (keys c.in-Three.node.value.second ++ c.in-Three.node.value.high ∷ keys_with_split c.insert_in-outcome-else-key-deref-5.new.tree c.insert_in-outcome-else-key-deref-5.result.1) = search rules in
    rw c.in-Three.is (outcome_last _ _ _ _ _ _ _ _ _ s gt gt' i e)
