use Rattle.std.proofs.Common.{arith}
use Rattle.two_deques.specs.Pairs.{IsNewPair}
use Rattle.worker_loop.proofs.PairLemmas.{all_count, all_new}
use Rattle.worker_loop.proofs.table_run.deques.make_pairs.Goals as goal

pub returns-clause-count : goal.returns-clause-count
returns-clause-count g c =
    all_count c.in_ok-made.made.items c.args.workers c.all_of.result (omega (arith, c.in_ok-made.ensures.len)) c.all_of.ensures

pub returns-clause-new : goal.returns-clause-new
returns-clause-new g c =
    all_new (IsNewPair c.args.rooms) c.in_ok-made.made.items c.all_of.result
    (λ k d less. (c.in_ok-made.ensures.each k d (omega (arith, less, c.in_ok-made.ensures.len))).1.met) c.all_of.ensures
