-- The path of a free worker's turn, for each answer: its steps from the worker's old view to the new one. A refused
-- claim ends the turn.
use Rattle.std.specs.Prelude.{ℕ, ◌≡◌, ◌≤◌, ◌⊎◌, ◌+◌, Option, None, Some, List, ◌++◌, length}
use Rattle.two_deques.specs.declared.spot.Spot.{Spot}
use Rattle.two_deques.specs.declared.tries.Deck.TheVariants.{CoreDeck, BatchDeck}
use Rattle.two_deques.specs.Tries.{try_of, after_try}
use Rattle.worker_turns.specs.declared.attempts.PieceAttempt.TheVariants.{Ran, Stale, Empty}
use Rattle.worker_turns.specs.declared.attempts.NodeAttempt.{NodeAttempt}
use Rattle.worker_turns.specs.declared.attempts.NodeAttempt.TheVariants.{Claimed, Refused, NoNode}
use Rattle.worker_turns.specs.declared.attempts.StealAttempt.{StealAttempt}
use Rattle.worker_turns.specs.declared.attempts.StealAttempt.TheVariants.{NoVictim, Node, Piece}
use Rattle.worker_turns.specs.declared.free.Did.{Did}
use Rattle.worker_turns.specs.declared.free.Did.TheVariants as did
use Rattle.table_rule.specs.declared.view.PassView.{PassView}
use Rattle.table_rule.specs.Passes.{claiming, refusing}
use Rattle.table_rule.specs.Shows.{IsPrefix}
use Rattle.worker_crew.specs.Workers.{WorkerView}
use Rattle.worker_turns.specs.Stops.{unstopped}
use Rattle.worker_turns.specs.Pieces.{Desk, IsPop, IsSteal, spot_of, desk_after, NotRan, IsOwnPiece}

abbrev pub node_of : NodeAttempt → Option ℕ
node_of (Claimed n) = Some n
node_of (Refused n) = Some n
node_of NoNode = None

-- the pass after the claim of this outcome, if there was one
abbrev pub pass_after : NodeAttempt → PassView → PassView
pass_after (Claimed n) p = claiming n p
pass_after (Refused n) p = refusing n p
pass_after NoNode p = p

abbrev pub NotClaimed : NodeAttempt → Type 0
NotClaimed (Claimed n) = ⊥
NotClaimed (Refused n) = Unit {0}
NotClaimed NoNode = Unit {0}

-- a pop of the own deque of nodes, and the claim of what it gave, had this outcome; nothing else changed
pub record IsOwnNode (t : NodeAttempt) (old new : WorkerView) : Type 0 where
  pub pop : IsPop (node_of t) old.core new.core
  pub same : new ≡ record old { pass = pass_after t old.pass; core = new.core }

-- The turn's one steal, at the deque that `Tries` names next, and the claim of what it gave, had this outcome. A sole
-- worker makes none.
abbrev pub IsOther : StealAttempt → WorkerView → WorkerView → Type 0
IsOther NoVictim old new = (old.tries.workers ≡ 1) × (new ≡ old)
IsOther (Node t) old new =
    ((try_of old.tries).deck ≡ CoreDeck) × IsSteal (try_of old.tries).victim (node_of t) old.core new.core
    × (new ≡ record old { pass = pass_after t old.pass; core = new.core; tries = after_try old.tries })
IsOther (Piece t) old new =
    ((try_of old.tries).deck ≡ BatchDeck) × IsSteal (try_of old.tries).victim (spot_of t) old.batch new.batch
    × (new ≡ record old { batch = new.batch; desk = desk_after t old.desk; tries = after_try old.tries })

abbrev pub StoleNothing : StealAttempt → Type 0
StoleNothing NoVictim = Unit {0}
StoleNothing (Node t) = NotClaimed t
StoleNothing (Piece t) = NotRan t

-- as many pieces were finished as were claimed
pub record Helps (old new : Desk) : Type 0 where
  pub given : List (ℕ × ℕ)
  pub gave : new.given ≡ old.given ++ given
  pub finishes : new.finishes ≡ old.finishes + length given

-- The effect of carrying on a claimed node. The nodes opened are pushed on the own deque in order, and the worker's
-- ends of the deques of nodes are otherwise unchanged. No node is claimed or refused. The book seen and the events only
-- grow, and each look at the stop word finds it unset.
pub record RanToIdle (old new : WorkerView) : Type 0 where
  pub nodes : List ℕ
  pub opened : new.pass.opened ≡ old.pass.opened ++ nodes
  pub core : new.core ≡ record old.core { own = old.core.own ++ nodes; pushes = old.core.pushes + length nodes }
  pub worker : new.pass.worker ≡ old.pass.worker
  pub claims : new.pass.claims ≡ old.pass.claims
  pub claimed : new.pass.claimed ≡ old.pass.claimed
  pub refused : new.pass.refused_nodes ≡ old.pass.refused_nodes
  pub longer : IsPrefix old.pass.book_seen new.pass.book_seen
  pub found : new.pass.stops_found ≡ old.pass.stops_found
  pub stops : new.pass.stops ≡ old.pass.stops
  pub looks : old.pass.stop_looks ≤ new.pass.stop_looks
  pub events : IsPrefix old.pass.events new.pass.events
  pub desk : Helps old.desk new.desk

-- The path by answer: a look that finds the stop word unset, a pop of the own deque of nodes, a pop of the own deque of
-- pieces, one steal. The path ends at the first of these that finds something; a claimed node is then carried on.
abbrev pub IsFreeTurn : Did → WorkerView → WorkerView → Type 0
IsFreeTurn did.Ran old new =
    ((n : ℕ) × (a : WorkerView) × IsOwnNode (Claimed n) (unstopped old) a × RanToIdle a new)
    ⊎ ((n : ℕ) × (a b d : WorkerView) × IsOwnNode NoNode (unstopped old) a × IsOwnPiece Empty a b
    × IsOther (Node (Claimed n)) b d × RanToIdle d new)
IsFreeTurn did.Piece old new =
    ((spot : Spot) × (a : WorkerView) × IsOwnNode NoNode (unstopped old) a × IsOwnPiece (Ran spot) a new)
    ⊎ ((spot : Spot) × (a b : WorkerView) × IsOwnNode NoNode (unstopped old) a × IsOwnPiece Empty a b × IsOther (Piece (Ran spot)) b new)
IsFreeTurn did.Nothing old new =
    ((n : ℕ) × IsOwnNode (Refused n) (unstopped old) new)
    ⊎ (((spot : Spot) × (a : WorkerView) × IsOwnNode NoNode (unstopped old) a × IsOwnPiece (Stale spot) a new)
    ⊎ ((other : StealAttempt) × (a b : WorkerView) × StoleNothing other × IsOwnNode NoNode (unstopped old) a × IsOwnPiece Empty a b
    × IsOther other b new))
