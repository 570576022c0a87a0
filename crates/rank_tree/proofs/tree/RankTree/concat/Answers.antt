use Rattle.std.proofs.Common.{length, sym, ap, ◌++◌, ◌∷◌, ◌≡◌, ◌∙◌, arith}
use Rattle.rank_nodes.specs.Nodes.{entries}
use Rattle.rank_nodes.proofs.TreeLemmas.Depths.{count_is}
use Rattle.rank_nodes.proofs.TreeLemmas.Trees.{map_count, map_both}
use Rattle.rank_tree.proofs.tree.RankTree.concat.Goals as goal

pub pop_first-requires-clause-fits : goal.pop_first-requires-clause-fits
pop_first-requires-clause-fits c = omega (arith, map_count _ c.high.invariant.is_map)

pub join-requires-clause-fits : goal.join-requires-clause-fits
join-requires-clause-fits c =
    let whole : entries c.high.inside.root.tree ≡ c.in-Some.entry ∷ entries c.shrink_root.new.rooted.tree = c.in-Some.ensures.popped.0 ∙ ap (λ z. c.in-Some.entry ∷ z) (sym c.shrink_root.ensures.entries) in
    omega (arith, map_count _ c.low.invariant.is_map, map_count _ c.high.invariant.is_map, count_is c.high.inside.root.tree, count_is c.shrink_root.new.rooted.tree, ap length whole)

pub invariant_of-result-2 : goal.invariant_of-result-2
invariant_of-result-2 c =
    let whole : entries c.high.inside.root.tree ≡ c.in-Some.entry ∷ entries c.shrink_root.new.rooted.tree = c.in-Some.ensures.popped.0 ∙ ap (λ z. c.in-Some.entry ∷ z) (sym c.shrink_root.ensures.entries) in
    let is = c.in_ok-root.ensures.entries ∙ ap (λ z. entries c.low.inside.root.tree ++ z) (sym whole) in
    record {
      is_map = map_both _ _ _ c.low.invariant.is_map c.high.invariant.is_map c.in_ok-root.ensures.rooted.tree_is is (rw (c.low.view_is, c.high.view_is) c.requires);
      height_is = c.in_ok-root.ensures.rooted.height_is;
    }
