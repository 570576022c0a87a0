use Rattle.piece_threads.proofs.BundleLemmas.{served_all}
use Rattle.piece_threads.proofs.run.run_pieces.Goals as goal

pub returns : goal.returns
returns g c = served_all g.P.Pieces.meets c.in_ok-bundles.bundles.items c.in_ok-results.results.items c.args.ins.items c.join_outs.result c.in_ok-bundles.ensures c.in_ok-results.ensures.count c.in_ok-results.ensures.each c.join_outs.ensures
