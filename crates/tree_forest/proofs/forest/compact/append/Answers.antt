use Rattle.std.proofs.Common.{◌^◌, ◌++◌, ◌∙◌, ap, append_assoc, arith, length-append}
use Rattle.std.proofs.lemmas.List.{length-reverse, reverse-reverse}
use Rattle.tree_nodes.specs.Nodes.{keys}
use Rattle.tree23.specs.SideBySide.{entry_keys, in_order}
use Rattle.tree23.proofs.SideBySideLemmas.KeyedTrees.{taken}
use Rattle.tree23.proofs.SideBySideLemmas.Joining.{still_fits}
use Rattle.tree23.proofs.SideBySideLemmas.Joining.{turned}
use Rattle.tree_forest.proofs.ForestLemmas.Reversing.{entries_turned}
use Rattle.tree_forest.proofs.forest.compact.append.Goals as goal

pub loop-entry-init : goal.loop-entry-init
loop-entry-init c = record {
  trees = c.in_ok-add_front.ensures.trees;
  entries = rw c.reverse.ensures.items (entries_turned _ c.requires.high.entries_are);
  count = rw c.reverse.ensures.items (omega (arith, length-reverse c.args.high.entries.items, c.in_ok-add_front.ensures.count));
  keys_are =
      ap (λ z. in_order c.add_front.new.trees ++ entry_keys z) (rw c.reverse.ensures.items (reverse-reverse _))
      ∙ ap (λ z. z ++ entry_keys c.args.high.entries.items) c.in_ok-add_front.ensures.keys
      ∙ append_assoc (in_order c.args.low.now) (keys c.args.high.front.tree) (entry_keys c.args.high.entries.items);
}

pub add-requires-clause-rooted : goal.add-requires-clause-rooted
add-requires-clause-rooted c = (taken _ _ _ c.loop-entry.invariant.entries c.in-Some.ensures.items).rooted

pub add-requires-clause-fits : goal.add-requires-clause-fits
add-requires-clause-fits c =
    let low = in_order c.args.low.now in
    let high = in_order c.args.high in
    still_fits (2 ^ 61) (in_order c.loop-entry.low) (low ++ high) c.in-Some.entry _ _ (turned _ _ _ c.in-Some.ensures.items) c.loop-entry.invariant.keys_are (omega (arith, length-append low high, c.requires.fits))
