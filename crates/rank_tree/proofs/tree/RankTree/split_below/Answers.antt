use Rattle.std.proofs.Common.{refl, arith}
use Rattle.rank_nodes.proofs.EntryLemmas.Sides.{split_sides}
use Rattle.rank_nodes.proofs.TreeLemmas.Trees.{map_count, map_low, map_high}
use Rattle.rank_tree.specs.Cuts.{IsCut}
use Rattle.rank_tree.proofs.tree.RankTree.split_below.Goals as goal

pub cut_at-requires-clause-fits : goal.cut_at-requires-clause-fits
cut_at-requires-clause-fits c = omega (arith, map_count _ c.self.invariant.is_map)

pub invariant_of-low : goal.invariant_of-low
invariant_of-low c =
    let cut : IsCut c.args.key c.self.inside.root.tree c.in_ok-low.low c.in_ok-low.high = c.in_ok-low.ensures in
    record {
      is_map = map_low _ _ _ _ c.self.invariant.is_map cut.low_is.tree_is cut.split;
      height_is = cut.low_is.height_is;
    }

pub invariant_of-result : goal.invariant_of-result
invariant_of-result c =
    let cut : IsCut c.args.key c.self.inside.root.tree c.in_ok-low.low c.in_ok-low.high = c.in_ok-low.ensures in
    record {
      is_map = map_high _ _ _ _ c.self.invariant.is_map cut.high_is.tree_is cut.split;
      height_is = cut.high_is.height_is;
    }

pub returns-clause-low : goal.returns-clause-low
returns-clause-low c =
    let cut : IsCut c.args.key c.self.inside.root.tree c.in_ok-low.low c.in_ok-low.high = c.in_ok-low.ensures in
    let sides = split_sides _ _ _ _ cut.split in
    rw (← c.self.view_is) (rw sides.0 refl)

pub returns-clause-high : goal.returns-clause-high
returns-clause-high c =
    let cut : IsCut c.args.key c.self.inside.root.tree c.in_ok-low.low c.in_ok-low.high = c.in_ok-low.ensures in
    let sides = split_sides _ _ _ _ cut.split in
    rw (← c.self.view_is) (rw sides.1 refl)
