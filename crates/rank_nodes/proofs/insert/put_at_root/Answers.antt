use Rattle.std.proofs.Common.{◌≡◌, ap, arith, length, rules}
use Rattle.rank_nodes.specs.Nodes.{entries}
use Rattle.rank_nodes.proofs.TreeLemmas.Depths.{count_is}
use Rattle.rank_nodes.proofs.insert.put_at_root.Goals as goal

pub put_with-requires-clause-fits : goal.put_with-requires-clause-fits
put_with-requires-clause-fits c =
    let same : entries c.put_with-outcome.new.root.tree ≡ entries c.args.root.now.tree = search rules in
    omega (arith, count_is c.put_with-outcome.new.root.tree, count_is c.args.root.now.tree, ap length same)
