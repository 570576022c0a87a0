use Rattle.std.proofs.Common.{rules, arith, ◌<◌, ◌+◌, sym, subst, List}
use Rattle.two_deques.specs.declared.hand.Hand.{Hand}
use Rattle.two_deques.specs.Hands.{workers_of, AreHandsUpTo}
use Rattle.two_deques.proofs.EndsLemmas.Dealing.{hand_made, next_of, left_then}
use Rattle.two_deques.proofs.decks.opening.hands_of.Goals as goal

pub loop-worker-preserved : goal.loop-worker-preserved
loop-worker-preserved c =
    let i = c.loop-worker.invariant in
    let inside : c.loop-worker.worker < workers_of c.args.decks.now =
    omega (arith, c.loop-worker-test.true, c.len-worker-end.ensures) in (
      left_then c.args.core.items _ _ _ i.0 c.remove.ensures.by_index.2,
      left_then c.args.batch.items _ _ _ i.1 c.remove-in-loop-worker.ensures.by_index.2,
      omega (arith, inside),
      subst (λ (l : List Hand). AreHandsUpTo (c.loop-worker.worker + 1) (workers_of c.args.decks.now) c.args.decks.now l)
          (sym c.in_ok-push.ensures.items)
          (hand_made _ _ _ c.args.core.items c.args.batch.items _ _ c.requires.core c.requires.batch inside (search rules)
          (next_of c.args.core.items _ _ _ i.0 (omega (arith, inside, c.requires.core.ends_count)) c.remove.ensures.value)
          (next_of c.args.batch.items _ _ _ i.1 (omega (arith, inside, c.requires.batch.ends_count))
          c.remove-in-loop-worker.ensures.value)
          i.3),
    )
