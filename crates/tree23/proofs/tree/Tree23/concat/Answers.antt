use Rattle.std.proofs.Common.{length, sym, ap, ◌++◌, ◌∷◌, ◌≡◌, ◌∙◌, subst, arith}
use Rattle.tree_nodes.specs.Nodes.{keys, IsRootedSet}
use Rattle.tree_nodes.proofs.TreeLemmas.Trees.{set_length, set_both}
use Rattle.tree23.proofs.tree.Tree23.concat.Goals as goal
use Rattle.tree23.proofs.tree.Tree23.concat.Goals.{in-Some+in_ok-put_after, in_default}

pub put_after-requires-clause-fits : goal.put_after-requires-clause-fits
put_after-requires-clause-fits c =
    omega (arith, set_length _ c.low.invariant.set, set_length _ c.high.invariant.set, ap length c.in-Some.ensures.popped, ap length c.shrink_root.ensures.keys)

pub invariant_of-result : goal.invariant_of-result
invariant_of-result c = elim c.match-pop_first.branch [
  | in-Some+in_ok-put_after w ↦
      let whole : keys c.high.inside.root.tree ≡ w.in-Some.key ∷ keys w.shrink_root.new.rooted.tree = w.in-Some.ensures.popped ∙ ap (λ z. w.in-Some.key ∷ z) (sym w.shrink_root.ensures.keys) in
      let is = w.in_ok-put_after.ensures.keys ∙ ap (λ z. keys c.low.inside.root.tree ++ z) (sym whole) in
      subst IsRootedSet (sym w.root-is) (record {
        set = set_both _ _ _ c.low.invariant.set c.high.invariant.set w.in_ok-put_after.ensures.rooted.tree_is is (rw (c.low.view_is, c.high.view_is) c.requires);
        height_is = w.in_ok-put_after.ensures.rooted.height_is;
      })
  | in_default w ↦ subst IsRootedSet (sym w.root-is) c.low.invariant
]
