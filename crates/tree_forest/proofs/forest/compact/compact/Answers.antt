use Rattle.std.proofs.Common.{◌^◌, ◌++◌, ap, ◌∙◌, append-nil, arith, reverse}
use Rattle.std.proofs.lemmas.List.{reverse-reverse}
use Rattle.tree_nodes.specs.Nodes.{keys}
use Rattle.tree23.specs.SideBySide.{entry_keys, in_order}
use Rattle.tree23.proofs.SideBySideLemmas.KeyedTrees.{taken, entries_push}
use Rattle.tree23.proofs.SideBySideLemmas.Joining.{still_fits}
use Rattle.tree_forest.proofs.ForestLemmas.Compacting.{gone_over, in_hand}
use Rattle.tree23.proofs.SideBySideLemmas.Joining.{turned}
use Rattle.tree_forest.proofs.ForestLemmas.Reversing.{entries_turned}
use Rattle.tree_forest.proofs.forest.compact.compact.Goals as goal

pub loop-entry-init : goal.loop-entry-init
loop-entry-init c = record {
  compacted = record { front_is = c.requires.trees.front_is; entries_are = rw c.in_ok-take_entries.ensures tt };
  entries = rw c.reverse.ensures.items (entries_turned _ c.requires.trees.entries_are);
  keys_are = rw c.in_ok-take_entries.ensures (
      ap (λ z. z ++ entry_keys (reverse c.reverse.new.self.items)) (append-nil (keys c.args.trees.front.tree))
      ∙ ap (λ z. keys c.args.trees.front.tree ++ entry_keys z) (rw c.reverse.ensures.items (reverse-reverse _)));
}

pub merge_lower-requires-clause-trees : goal.merge_lower-requires-clause-trees
merge_lower-requires-clause-trees c = c.loop-entry.invariant.compacted

pub merge_lower-requires-clause-rooted : goal.merge_lower-requires-clause-rooted
merge_lower-requires-clause-rooted c = (taken _ _ _ c.loop-entry.invariant.entries c.in-Some.ensures.items).rooted

pub merge_lower-requires-clause-fits : goal.merge_lower-requires-clause-fits
merge_lower-requires-clause-fits c = still_fits (2 ^ 61) (in_order c.loop-entry.compacted) _ c.in-Some.entry _ _ (turned _ _ _ c.in-Some.ensures.items) c.loop-entry.invariant.keys_are c.requires.fits

pub merge_three-requires-clause-fits : goal.merge_three-requires-clause-fits
merge_three-requires-clause-fits c =
    let less = still_fits (2 ^ 61) (in_order c.loop-entry.compacted) _ c.in-Some.entry _ _ (turned _ _ _ c.in-Some.ensures.items) c.loop-entry.invariant.keys_are c.requires.fits in
    let fits = in_hand _ (entry_keys c.merge_lower.new.trees.entries.items) _ _ _ _ _ c.in_ok-entry.ensures.keys less in
    omega (arith, fits)

pub loop-entry-preserved : goal.loop-entry-preserved
loop-entry-preserved c =
    let old = taken _ _ _ c.loop-entry.invariant.entries c.in-Some.ensures.items in
    record {
      compacted = record {
        front_is = c.in_ok-entry.ensures.trees.front_is;
        entries_are = rw c.in_ok-push.ensures.items (entries_push _ _ c.in_ok-merge_three.ensures.entries c.in_ok-entry.ensures.rooted);
      };
      entries = old.others;
      keys_are = gone_over _ _ _ _ _ _ _ _ _ _ c.in_ok-entry.ensures.keys c.in_ok-merge_three.ensures.keys c.in_ok-push.ensures.items c.in-Some.ensures.items ∙ c.loop-entry.invariant.keys_are;
    }
