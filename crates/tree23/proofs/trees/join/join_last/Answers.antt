use Rattle.std.proofs.Common.{◌++◌, refl, ap, arith, length-append}
use Rattle.tree_nodes.specs.Nodes.{keys}
use Rattle.tree23.specs.SideBySide.{entry_keys}
use Rattle.tree23.proofs.SideBySideLemmas.KeyedTrees.{taken}
use Rattle.tree23.proofs.SideBySideLemmas.Joining.{put_back}
use Rattle.tree23.proofs.trees.join.join_last.Goals as goal

pub put_after-requires-in-Some-pop-clause-fits : goal.put_after-requires-in-Some-pop-clause-fits
put_after-requires-in-Some-pop-clause-fits c =
    let trees = c.args.trees.now in
    let high = taken _ _ _ c.requires.trees.entries_are c.in-Some.ensures.items in
    let low = taken _ _ _ high.others c.in-Some-pop.ensures.items in
    omega (arith, c.requires.fits, high.count, low.count, length-append (keys trees.front.tree) (entry_keys trees.entries.items))

pub returns-in_ok-push-in-Some-pop-clause-keys : goal.returns-in_ok-push-in-Some-pop-clause-keys
returns-in_ok-push-in-Some-pop-clause-keys c =
    let high = taken _ _ _ c.requires.trees.entries_are c.in-Some.ensures.items in
    let low = taken _ _ _ high.others c.in-Some-pop.ensures.items in
    ap (λ z. keys c.args.trees.now.front.tree ++ z)
    (put_back _ _ _ _ c.in-Some-pop.low c.in-Some.last _ high.keys_are low.keys_are c.in_ok-push-in-Some-pop.ensures.items refl c.in_ok-put_after-in-Some-pop.ensures.keys)
