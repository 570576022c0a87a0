use Rattle.tree_nodes.specs.Nodes.{keys}
use Rattle.tree23.specs.SideBySide.{in_reverse}
use Rattle.tree_forest.specs.Forests.{IsKeySet}
use Rattle.tree23.specs.Code.Cuts.{low_keys, whole_keys}
use Rattle.tree_forest.proofs.ForestLemmas.KeySets.{key_set_as, ascends_inside}
use Rattle.tree_forest.proofs.forest.remaining.take_below.Goals as goal

pub cut_at-requires-clause-ascends : goal.cut_at-requires-clause-ascends
cut_at-requires-clause-ascends c =
    let s = c.pass_below.new.sides in
    let whole : IsKeySet (whole_keys (keys c.in_ok-rooted.rooted.tree) s) = key_set_as _ _ c.requires.set c.in_ok-rooted.ensures.keys in
    ascends_inside (low_keys s) (keys c.in_ok-rooted.rooted.tree) (in_reverse s.high) whole
