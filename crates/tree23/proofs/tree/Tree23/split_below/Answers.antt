use Rattle.std.proofs.Common.{sym, ap, ◌∙◌, subst, length, arith, length-append}
use Rattle.tree_nodes.specs.Nodes.{keys}
use Rattle.tree23.specs.SideBySide.{in_order, in_reverse}
use Rattle.key_sets.specs.Splits.{IsSplit}
use Rattle.tree23.proofs.SideBySideLemmas.Cutting.{split_alone, front_alone}
use Rattle.tree_nodes.proofs.TreeLemmas.Trees.{set_length, set_low, set_high}
use Rattle.tree23.proofs.tree.Tree23.split_below.Goals as goal

pub join_many-requires-clause-fits : goal.join_many-requires-clause-fits
join_many-requires-clause-fits c =
    let s = split_alone _ _ c.empty.result c.empty-2.result c.cut_at.new.sides c.empty.ensures.front c.empty.ensures.entries c.empty-2.ensures.front c.empty-2.ensures.entries c.in_ok-cut_at.ensures in
    omega (arith, set_length _ c.self.invariant.set, ap length s.is, length-append (in_order c.cut_at.new.sides.low) (in_reverse c.cut_at.new.sides.high))

pub join_reversed-requires-clause-fits : goal.join_reversed-requires-clause-fits
join_reversed-requires-clause-fits c =
    let s = split_alone _ _ c.empty.result c.empty-2.result c.cut_at.new.sides c.empty.ensures.front c.empty.ensures.entries c.empty-2.ensures.front c.empty-2.ensures.entries c.in_ok-cut_at.ensures in
    omega (arith, set_length _ c.self.invariant.set, ap length s.is, length-append (in_order c.cut_at.new.sides.low) (in_reverse c.cut_at.new.sides.high))

pub invariant_of-low : goal.invariant_of-low
invariant_of-low c =
    let s = split_alone _ _ c.empty.result c.empty-2.result c.cut_at.new.sides c.empty.ensures.front c.empty.ensures.entries c.empty-2.ensures.front c.empty-2.ensures.entries c.in_ok-cut_at.ensures in
    let done = c.in_ok-join_many.ensures in
    let same = sym (front_alone c.join_many.new.trees done.count) ∙ done.keys in
    record {
      set = set_low _ _ _ _ c.self.invariant.set done.trees.front_is.tree_is (subst (λ z. IsSplit c.args.key (keys c.self.inside.root.tree) z (in_reverse c.cut_at.new.sides.high)) (sym same) s);
      height_is = done.trees.front_is.height_is;
    }

pub invariant_of-result : goal.invariant_of-result
invariant_of-result c =
    let s = split_alone _ _ c.empty.result c.empty-2.result c.cut_at.new.sides c.empty.ensures.front c.empty.ensures.entries c.empty-2.ensures.front c.empty-2.ensures.entries c.in_ok-cut_at.ensures in
    let done = c.in_ok-root.ensures in
    record {
      set = set_high _ _ _ _ c.self.invariant.set done.rooted.tree_is (subst (λ z. IsSplit c.args.key (keys c.self.inside.root.tree) (in_order c.cut_at.new.sides.low) z) (sym done.keys) s);
      height_is = done.rooted.height_is;
    }
