use Rattle.std.proofs.Common.{refl, arith}
use Rattle.std.proofs.lemmas.Grind.{common_steps}
use Rattle.batched_pq.proofs.EndLemmas.Taking.{items_push}
use Rattle.batched_pq.proofs.queue.Queue.new.Goals as goal

pub loop-preserved : goal.loop-preserved
loop-preserved c =
    let i = c.loop.invariant in
    record {
      count = grind (arith, common_steps, i.count);
      empty = rw c.in_ok-push.ensures.items (items_push c.loop.shards.items c.in_ok-shard.shard i.empty (rw c.in_ok-shard.ensures refl));
    }
