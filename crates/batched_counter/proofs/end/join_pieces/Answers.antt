use Rattle.batched_counter.proofs.EndLemmas.Sums.{next_fits}
use Rattle.batched_counter.proofs.end.join_pieces.Goals as goal

pub push_numbers-requires : goal.push_numbers-requires
push_numbers-requires c = rw c.deref.ensures.0 (next_fits c.loop-out.base c.loop-out.out-index c.args.outs.now c.out-item.result c.loop-out-test.true c.out-item.is c.loop-out.invariant.fits)
