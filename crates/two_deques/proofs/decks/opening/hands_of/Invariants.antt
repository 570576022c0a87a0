use Rattle.std.proofs.Common.{◌≡◌, ◌≤◌, drop}
use Rattle.two_deques.specs.Hands.{workers_of, AreHandsUpTo}
use Rattle.two_deques.proofs.decks.opening.hands_of.Given as goal

abbrev pub invariant-loop-worker : goal.invariant-loop-worker
invariant-loop-worker l =
    (l.core.items ≡ drop l.worker l.fn.core.items) × (l.batch.items ≡ drop l.worker l.fn.batch.items)
    × (l.worker ≤ workers_of l.decks) × AreHandsUpTo l.worker (workers_of l.decks) l.decks l.hands.items
