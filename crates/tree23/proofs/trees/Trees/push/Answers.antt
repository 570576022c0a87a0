use Rattle.std.proofs.Common.{◌++◌, ap, sym, ◌∙◌, append_assoc}
use Rattle.tree_nodes.specs.Nodes.{keys}
use Rattle.tree23.specs.SideBySide.{entry_keys}
use Rattle.tree23.proofs.SideBySideLemmas.KeyedTrees.{entry_keys_push}
use Rattle.tree23.proofs.trees.Trees.push.Goals as goal

pub returns-clause-forest : goal.returns-clause-forest
returns-clause-forest c =
    let front = keys c.args.self.now.front.tree in
    ap (λ z. front ++ entry_keys z) c.in_ok-push.ensures.items ∙ ap (λ z. front ++ z) (entry_keys_push c.args.self.now.entries.items _) ∙ sym (append_assoc front (entry_keys c.args.self.now.entries.items) _)
