use Rattle.std.proofs.Common.{◌∷◌, ◌++◌, ap, ◌∙◌}
use Rattle.tree_nodes.specs.Nodes.{keys}
use Rattle.tree23.specs.SideBySide.{entry_keys}
use Rattle.tree23.proofs.SideBySideLemmas.KeyedTrees.{entry_keys_push}
use Rattle.tree_forest.proofs.ForestLemmas.Compacting.{entry_keys_last}
use Rattle.tree_forest.proofs.forest.compact.merge_into_last.Goals as goal

pub returns-in_ok-push-in-Some-clause-keys : goal.returns-in_ok-push-in-Some-clause-keys
returns-in_ok-push-in-Some-clause-keys c =
    let rest = c.pop.new.self.items in
    let last = c.in-Some.last in
    let old = ap entry_keys c.in-Some.ensures.items ∙ entry_keys_push rest last in
    let new = ap entry_keys c.in_ok-push-in-Some.ensures.items ∙ entry_keys_push rest _ ∙ ap (λ z. entry_keys rest ++ last.key ∷ z) c.in_ok-merged-in-Some.ensures.keys in
    entry_keys_last (keys c.args.trees.now.front.tree) _ _ (entry_keys rest) (last.key ∷ keys last.rooted.tree) _ old new
