use Rattle.std.proofs.Common.{arith, append_assoc, append-nil}
use Rattle.batched_pq.proofs.BeginLemmas.Dealing.{first_one, next_one, none_after}
use Rattle.batched_pq.proofs.begin.inserts_for.Goals as goal

pub loop-i-init : goal.loop-i-init
loop-i-init c = record {
  own = omega arith;
  all = rw c.in_ok-own.ensures.items (first_one c.args.number c.args.inserts.now c.requires);
}

pub loop-i-preserved : goal.loop-i-preserved
loop-i-preserved c =
    let i = c.loop-i.invariant in
    record {
      own = omega (arith, i.own);
      all = rw (c.in_ok-push.ensures.items, append_assoc) (rw (next_one c.args.number c.loop-i.i c.args.inserts.now c.loop-i-test.true i.own) at i.all);
    }

pub returns : goal.returns
returns c = rw (none_after c.args.number c.loop-i.i c.args.inserts.now c.loop-i-test.false, append-nil) at c.loop-i.invariant.all
