use Rattle.std.proofs.Common.{◌++◌, ◌∷◌, ◌<◌, ◌≡◌, arith, rules}
use Rattle.rank_nodes.specs.Maps.{Ascends}
use Rattle.rank_nodes.specs.Nodes.{entries, with_split}
use Rattle.rank_nodes.specs.declared.insert.Outcome.TheVariants.{Replaced}
use Rattle.rank_nodes.proofs.TreeLemmas.Inserting.{outcome_left, outcome_right, outcome_middle, outcome_last, put_here, put_high}
use Rattle.rank_nodes.proofs.insert.+insert_in.Goals as goal

pub returns-then-entry-deref-clause-outcome : goal.returns-then-entry-deref-clause-outcome
returns-then-entry-deref-clause-outcome t c =
    let s : Ascends (entries c.in-Two.node.value.first ++ c.in-Two.node.value.low ∷ entries c.in-Two.node.value.second) = rw c.in-Two.is at c.requires.ascends in
    let lt : c.args.entry.key < c.in-Two.node.value.low.key = grind arith in
    let i = rw c.deref_mut.ensures.value at c.insert_in-split.ensures.outcome in
    let e : with_split c.grow_first.new.tree c.grow_first.result ≡ with_split c.insert_in-split.new.tree c.insert_in-split.result.0 ++ c.in-Two.node.value.low ∷ entries c.in-Two.node.value.second = search rules in
    rw c.in-Two.is (outcome_left _ _ _ _ _ _ _ _ s lt i e)

pub returns-then-deref-entry-clause-outcome : goal.returns-then-deref-entry-clause-outcome
returns-then-deref-entry-clause-outcome t c =
    let s : Ascends (entries c.in-Two.node.value.first ++ c.in-Two.node.value.low ∷ entries c.in-Two.node.value.second) = rw c.in-Two.is at c.requires.ascends in
    let gt : c.in-Two.node.value.low.key < c.args.entry.key = grind arith in
    let i = rw c.deref_mut-then-deref-entry.ensures.value at c.insert_in-split-then-deref-entry.ensures.outcome in
    let e : with_split c.grow_second.new.tree c.grow_second.result ≡ entries c.in-Two.node.value.first ++ c.in-Two.node.value.low ∷ with_split c.insert_in-split-then-deref-entry.new.tree c.insert_in-split-then-deref-entry.result.0 = search rules in
    rw c.in-Two.is (outcome_right _ _ _ _ _ _ _ _ s gt i e)

pub returns-else-deref-entry-clause-outcome : goal.returns-else-deref-entry-clause-outcome
returns-else-deref-entry-clause-outcome t c =
    let s : Ascends (entries c.in-Two.node.value.first ++ c.in-Two.node.value.low ∷ entries c.in-Two.node.value.second) = rw c.in-Two.is at c.requires.ascends in
    let e : c.args.entry.key ≡ c.in-Two.node.value.low.key = grind arith in
    let r : c.replace.result ≡ Replaced c.in-Two.node.value.low.val = search rules in
    rw (c.in-Two.is, r) (put_here _ _ _ _ _ _ s e (search rules))

pub returns-then-entry-deref-2-clause-outcome : goal.returns-then-entry-deref-2-clause-outcome
returns-then-entry-deref-2-clause-outcome t c =
    let s : Ascends (entries c.in-Three.node.value.first ++ c.in-Three.node.value.low ∷ (entries c.in-Three.node.value.second ++ c.in-Three.node.value.high ∷ entries c.in-Three.node.value.third)) = rw c.in-Three.is at c.requires.ascends in
    let lt : c.args.entry.key < c.in-Three.node.value.low.key = grind arith in
    let i = rw c.deref_mut-then-entry-deref-2.ensures.value at c.insert_in-split-then-entry-deref-2.ensures.outcome in
    let e : with_split c.grow_first-then-entry-deref-2.new.tree c.grow_first-then-entry-deref-2.result ≡ with_split c.insert_in-split-then-entry-deref-2.new.tree c.insert_in-split-then-entry-deref-2.result.0 ++ c.in-Three.node.value.low ∷ (entries c.in-Three.node.value.second ++ c.in-Three.node.value.high ∷ entries c.in-Three.node.value.third) = search rules in
    rw c.in-Three.is (outcome_left _ _ _ _ _ _ _ _ s lt i e)

pub returns-then-entry-deref-3-clause-outcome : goal.returns-then-entry-deref-3-clause-outcome
returns-then-entry-deref-3-clause-outcome t c =
    let s : Ascends (entries c.in-Three.node.value.first ++ c.in-Three.node.value.low ∷ (entries c.in-Three.node.value.second ++ c.in-Three.node.value.high ∷ entries c.in-Three.node.value.third)) = rw c.in-Three.is at c.requires.ascends in
    let e : c.args.entry.key ≡ c.in-Three.node.value.low.key = grind arith in
    let r : c.replace-then-entry-deref-3.result ≡ Replaced c.in-Three.node.value.low.val = search rules in
    rw (c.in-Three.is, r) (put_here _ _ _ _ _ _ s e (search rules))

pub returns-then-entry-deref-4-clause-outcome : goal.returns-then-entry-deref-4-clause-outcome
returns-then-entry-deref-4-clause-outcome t c =
    let s : Ascends (entries c.in-Three.node.value.first ++ c.in-Three.node.value.low ∷ (entries c.in-Three.node.value.second ++ c.in-Three.node.value.high ∷ entries c.in-Three.node.value.third)) = rw c.in-Three.is at c.requires.ascends in
    let gt : c.in-Three.node.value.low.key < c.args.entry.key = grind arith in
    let lt : c.args.entry.key < c.in-Three.node.value.high.key = grind arith in
    let i = rw c.deref_mut-then-entry-deref-4.ensures.value at c.insert_in-split-then-entry-deref-4.ensures.outcome in
    let e : with_split c.grow_second-then-entry-deref-4.new.tree c.grow_second-then-entry-deref-4.result ≡ entries c.in-Three.node.value.first ++ c.in-Three.node.value.low ∷ (with_split c.insert_in-split-then-entry-deref-4.new.tree c.insert_in-split-then-entry-deref-4.result.0 ++ c.in-Three.node.value.high ∷ entries c.in-Three.node.value.third) = search rules in
    rw c.in-Three.is (outcome_middle _ _ _ _ _ _ _ _ _ _ s gt lt i e)

pub returns-then-entry-deref-5-clause-outcome : goal.returns-then-entry-deref-5-clause-outcome
returns-then-entry-deref-5-clause-outcome t c =
    let s : Ascends (entries c.in-Three.node.value.first ++ c.in-Three.node.value.low ∷ (entries c.in-Three.node.value.second ++ c.in-Three.node.value.high ∷ entries c.in-Three.node.value.third)) = rw c.in-Three.is at c.requires.ascends in
    let gt : c.in-Three.node.value.low.key < c.args.entry.key = grind arith in
    let e : c.args.entry.key ≡ c.in-Three.node.value.high.key = grind arith in
    let r : c.replace-then-entry-deref-5.result ≡ Replaced c.in-Three.node.value.high.val = search rules in
    rw (c.in-Three.is, r) (put_high _ _ _ _ _ _ _ _ s gt e (search rules))

pub returns-else-entry-deref-5-clause-outcome : goal.returns-else-entry-deref-5-clause-outcome
returns-else-entry-deref-5-clause-outcome t c =
    let s : Ascends (entries c.in-Three.node.value.first ++ c.in-Three.node.value.low ∷ (entries c.in-Three.node.value.second ++ c.in-Three.node.value.high ∷ entries c.in-Three.node.value.third)) = rw c.in-Three.is at c.requires.ascends in
    let gt : c.in-Three.node.value.low.key < c.args.entry.key = grind arith in
    let gt' : c.in-Three.node.value.high.key < c.args.entry.key = grind arith in
    let i = rw c.deref_mut-else-entry-deref-5.ensures.value at c.insert_in-split-else-entry-deref-5.ensures.outcome in
    let e : with_split c.grow_third.new.tree c.grow_third.result ≡ entries c.in-Three.node.value.first ++ c.in-Three.node.value.low ∷ (entries c.in-Three.node.value.second ++ c.in-Three.node.value.high ∷ with_split c.insert_in-split-else-entry-deref-5.new.tree c.insert_in-split-else-entry-deref-5.result.0) = search rules in
    rw c.in-Three.is (outcome_last _ _ _ _ _ _ _ _ _ _ s gt gt' i e)
