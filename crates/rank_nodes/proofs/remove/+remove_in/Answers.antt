use Rattle.std.proofs.Common.{◌++◌, ◌∷◌, ◌<◌, ◌≡◌, arith, rules}
use Rattle.rank_nodes.specs.Maps.{Ascends}
use Rattle.rank_nodes.specs.Nodes.{entries}
use Rattle.rank_nodes.proofs.TreeLemmas.Removing.{taken_left, taken_right, taken_middle, taken_last, taken_here, taken_high}
use Rattle.rank_nodes.proofs.remove.+remove_in.Goals.{then-key-deref, else-key-deref+then-deref-key, then-key-deref-2, else-key-deref-2+else-key-deref-3+then-key-deref-4, else-key-deref-2+else-key-deref-3+else-key-deref-4+else-key-deref-5}
use Rattle.rank_nodes.proofs.remove.+remove_in.Goals as goal

pub returns-after-key-deref-clause-removed : goal.returns-after-key-deref-clause-removed
returns-after-key-deref-clause-removed t c =
    let s : Ascends (entries c.in-Two.node.value.first ++ c.in-Two.node.value.low ∷ entries c.in-Two.node.value.second) = rw c.in-Two.is at c.requires.ascends in
    elim c.if-key-deref.branch [
      | then-key-deref w ↦
          let lt : c.args.key < c.in-Two.node.value.low.key = grind arith in
          let i = rw w.deref_mut-then-key-deref.ensures.value at w.remove_in-was.ensures.removed in
          let e : entries c.rebalance.new.tree ≡ entries w.remove_in-was.new.tree ++ c.in-Two.node.value.low ∷ entries c.in-Two.node.value.second = search rules in
          rw (c.in-Two.is, w.was-is) (taken_left _ _ _ _ _ _ _ s lt i e)
      | else-key-deref+then-deref-key w ↦
          let gt : c.in-Two.node.value.low.key < c.args.key = grind arith in
          let i = rw w.deref_mut-then-deref-key.ensures.value at w.remove_in.ensures.removed in
          let e : entries c.rebalance.new.tree ≡ entries c.in-Two.node.value.first ++ c.in-Two.node.value.low ∷ entries w.remove_in.new.tree = search rules in
          rw (c.in-Two.is, w.was-is) (taken_right _ _ _ _ _ _ _ s gt i e)
    ]

pub returns-else-deref-key-clause-removed : goal.returns-else-deref-key-clause-removed
returns-else-deref-key-clause-removed t c =
    let s : Ascends (entries c.in-Two.node.value.first ++ c.in-Two.node.value.low ∷ entries c.in-Two.node.value.second) = rw c.in-Two.is at c.requires.ascends in
    let e : c.args.key ≡ c.in-Two.node.value.low.key = grind arith in
    let k : entries c.remove_low.new.tree ≡ entries c.in-Two.node.value.first ++ entries c.in-Two.node.value.second = search rules in
    rw (c.in-Two.is, c.deref-else-deref-key.ensures) (taken_here _ _ _ _ _ s e k)

pub returns-after-key-deref-2-clause-removed : goal.returns-after-key-deref-2-clause-removed
returns-after-key-deref-2-clause-removed t c =
    let s : Ascends (entries c.in-Three.node.value.first ++ c.in-Three.node.value.low ∷ (entries c.in-Three.node.value.second ++ c.in-Three.node.value.high ∷ entries c.in-Three.node.value.third)) = rw c.in-Three.is at c.requires.ascends in
    elim c.if-key-deref-2.branch [
      | then-key-deref-2 w ↦
          let lt : c.args.key < c.in-Three.node.value.low.key = grind arith in
          let i = rw w.deref_mut-then-key-deref-2.ensures.value at w.remove_in-was-then-key-deref-2.ensures.removed in
          let e : entries c.rebalance-in-Three.new.tree ≡ entries w.remove_in-was-then-key-deref-2.new.tree ++ c.in-Three.node.value.low ∷ (entries c.in-Three.node.value.second ++ c.in-Three.node.value.high ∷ entries c.in-Three.node.value.third) = search rules in
          rw (c.in-Three.is, w.was-is) (taken_left _ _ _ _ _ _ _ s lt i e)
      | else-key-deref-2+else-key-deref-3+then-key-deref-4 w ↦
          let gt : c.in-Three.node.value.low.key < c.args.key = grind arith in
          let lt : c.args.key < c.in-Three.node.value.high.key = grind arith in
          let i = rw w.deref_mut-then-key-deref-4.ensures.value at w.remove_in-then-key-deref-4.ensures.removed in
          let e : entries c.rebalance-in-Three.new.tree ≡ entries c.in-Three.node.value.first ++ c.in-Three.node.value.low ∷ (entries w.remove_in-then-key-deref-4.new.tree ++ c.in-Three.node.value.high ∷ entries c.in-Three.node.value.third) = search rules in
          rw (c.in-Three.is, w.was-is) (taken_middle _ _ _ _ _ _ _ _ _ s gt lt i e)
      | else-key-deref-2+else-key-deref-3+else-key-deref-4+else-key-deref-5 w ↦
          let gt : c.in-Three.node.value.low.key < c.args.key = grind arith in
          let gt' : c.in-Three.node.value.high.key < c.args.key = grind arith in
          let i = rw w.deref_mut-else-key-deref-5.ensures.value at w.remove_in-else-key-deref-5.ensures.removed in
          let e : entries c.rebalance-in-Three.new.tree ≡ entries c.in-Three.node.value.first ++ c.in-Three.node.value.low ∷ (entries c.in-Three.node.value.second ++ c.in-Three.node.value.high ∷ entries w.remove_in-else-key-deref-5.new.tree) = search rules in
          rw (c.in-Three.is, w.was-is) (taken_last _ _ _ _ _ _ _ _ _ s gt gt' i e)
    ]

pub returns-then-key-deref-3-clause-removed : goal.returns-then-key-deref-3-clause-removed
returns-then-key-deref-3-clause-removed t c =
    let s : Ascends (entries c.in-Three.node.value.first ++ c.in-Three.node.value.low ∷ (entries c.in-Three.node.value.second ++ c.in-Three.node.value.high ∷ entries c.in-Three.node.value.third)) = rw c.in-Three.is at c.requires.ascends in
    let e : c.args.key ≡ c.in-Three.node.value.low.key = grind arith in
    let k : entries c.remove_low-then-key-deref-3.new.tree ≡ entries c.in-Three.node.value.first ++ (entries c.in-Three.node.value.second ++ c.in-Three.node.value.high ∷ entries c.in-Three.node.value.third) = search rules in
    rw (c.in-Three.is, c.deref-then-key-deref-3.ensures) (taken_here _ _ _ _ _ s e k)

pub returns-then-key-deref-5-clause-removed : goal.returns-then-key-deref-5-clause-removed
returns-then-key-deref-5-clause-removed t c =
    let s : Ascends (entries c.in-Three.node.value.first ++ c.in-Three.node.value.low ∷ (entries c.in-Three.node.value.second ++ c.in-Three.node.value.high ∷ entries c.in-Three.node.value.third)) = rw c.in-Three.is at c.requires.ascends in
    let gt : c.in-Three.node.value.low.key < c.args.key = grind arith in
    let e : c.args.key ≡ c.in-Three.node.value.high.key = grind arith in
    let k : entries c.remove_high.new.tree ≡ entries c.in-Three.node.value.first ++ c.in-Three.node.value.low ∷ (entries c.in-Three.node.value.second ++ entries c.in-Three.node.value.third) = search rules in
    rw (c.in-Three.is, c.deref-then-key-deref-5.ensures) (taken_high _ _ _ _ _ _ _ s gt e k)
