use Rattle.std.proofs.Common.{ap, ◌∙◌}
use Rattle.tree23.specs.SideBySide.{in_order}
use Rattle.tree_forest.specs.Views.{ForestView}
use Rattle.tree_forest.proofs.ForestLemmas.KeySets.{key_set_as, key_set_both, all_below_as}
use Rattle.tree_forest.proofs.forest.Forest.append.Goals as goal

pub invariant_of-self-2 : goal.invariant_of-self-2
invariant_of-self-2 c =
    let same = ap in_order c.replace-trees.ensures.value in (
      c.in_ok-append.ensures.trees,
      key_set_both _ _ _ (key_set_as _ _ c.self.invariant.1 same) c.high.invariant.1 c.in_ok-append.ensures.keys (all_below_as _ _ _ _ (same ∙ ap (λ (v : ForestView). v.keys) c.self.view_is) (ap (λ (v : ForestView). v.keys) c.high.view_is) c.requires),
    )
