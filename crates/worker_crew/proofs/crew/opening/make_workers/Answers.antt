use Rattle.std.proofs.Common.{◌<◌, ◌+◌, ◌∙◌, ℕ, List, ap, sym, subst, arith}
use Rattle.two_deques.specs.Hands.{Held, workers_of}
use Rattle.piece_board.specs.Boards.{workers_of as rows_of}
use Rattle.worker_crew.specs.declared.crew.Me.{Me}
use Rattle.worker_crew.specs.Opening.{opening_hand, AreAtStartUpTo}
use Rattle.worker_crew.proofs.OpeningLemmas.Taking.{left_then, next_of}
use Rattle.worker_crew.proofs.OpeningLemmas.Gathering.{at_start, one_more}
use Rattle.worker_crew.proofs.crew.opening.make_workers.Goals as goal

pub opening-requires-clause-hand : goal.opening-requires-clause-hand
opening-requires-clause-hand g c =
    let inside : c.loop-worker.worker < workers_of c.args.crew.now.decks =
    omega (arith, c.loop-worker-test.true, c.args.crew.now.each.0) in
    (c.requires.hands.each c.loop-worker.worker c.remove-in-loop-worker.result inside
    (next_of c.args.hands.items _ _ _ c.loop-worker.invariant.hands c.remove-in-loop-worker.ensures.value)).0

pub loop-worker-preserved : goal.loop-worker-preserved
loop-worker-preserved g c =
    let i = c.loop-worker.invariant in
    let crew = c.args.crew.now in
    let w = c.loop-worker.worker in
    let inside : w < crew.workers = c.loop-worker-test.true in
    let among : w < workers_of crew.decks = omega (arith, inside, crew.each.0) in
    let rows : w < rows_of crew.board = omega (arith, inside, crew.each.1) in
    let pass = c.requires.passes w c.remove.result inside
    (next_of c.args.passes.items _ _ _ i.passes c.remove.ensures.value) in
    let hand = c.requires.hands.each w c.remove-in-loop-worker.result among
    (next_of c.args.hands.items _ _ _ i.hands c.remove-in-loop-worker.ensures.value) in
    let desk = c.requires.desks.each w c.remove-in-loop-worker-2.result rows
    (next_of c.args.desks.items _ _ _ i.desks c.remove-in-loop-worker-2.ensures.value) in
    let opened = c.in_ok-opening.ensures.opening
    ∙ ap (λ (k : ℕ). opening_hand k (workers_of crew.decks)) (ap (λ (h : Held). h.worker) hand.1)
    ∙ ap (λ (k : ℕ). opening_hand w k) (sym crew.each.0) in
    let start = at_start crew w
    (record { pass = c.remove.result; hand = c.in_ok-opening.field-0; desk = c.remove-in-loop-worker-2.result; tries = c.new.result })
    pass c.in_ok-opening.ensures.hand opened desk.0 desk.1 c.new.ensures in record {
      passes = left_then c.args.passes.items _ _ _ i.passes c.remove.ensures.by_index.2;
      hands = left_then c.args.hands.items _ _ _ i.hands c.remove-in-loop-worker.ensures.by_index.2;
      desks = left_then c.args.desks.items _ _ _ i.desks c.remove-in-loop-worker-2.ensures.by_index.2;
      inside = omega (arith, inside);
      mes = subst (λ (l : List Me). AreAtStartUpTo crew (w + 1) l)
          (sym c.in_ok-push.ensures.items) (one_more crew w _ _ i.mes start);
    }
