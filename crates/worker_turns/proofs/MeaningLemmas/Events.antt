-- What is read off the paths of the events that a turn made, and of its looks at the stop word.
use Rattle.std.proofs.Common.{◌≡◌, ◌<◌, ◌≤◌, ℕ, List, [], ◌∷◌, ◌++◌, ap, ◌∙◌, inl, inr, arith, append_assoc}
use Rattle.core_model.specs.declared.event.Event.TheVariants as made
use Rattle.core_model.specs.Words.{Entry}
use Rattle.worker_turns.specs.declared.attempts.PieceAttempt.{PieceAttempt}
use Rattle.worker_turns.specs.declared.attempts.PieceAttempt.TheVariants.{Ran, Stale, Empty}
use Rattle.worker_turns.specs.declared.attempts.StealAttempt.{StealAttempt}
use Rattle.worker_turns.specs.declared.attempts.StealAttempt.TheVariants as others
use Rattle.worker_turns.specs.declared.attempts.NodeAttempt.{NodeAttempt}
use Rattle.worker_turns.specs.declared.attempts.NodeAttempt.TheVariants.{Claimed, Refused, NoNode}
use Rattle.worker_turns.specs.declared.trapped.Trapped.{Trapped}
use Rattle.worker_turns.specs.declared.trapped.Trapped.TheVariants.{Left, Piece, Launched, Nothing}
use Rattle.worker_turns.specs.declared.free.Did.{Did}
use Rattle.worker_turns.specs.declared.free.Did.TheVariants as did
use Rattle.worker_crew.specs.Words.{Event}
use Rattle.table_rule.specs.declared.view.HoldView.{HoldView}
use Rattle.table_rule.specs.declared.view.PassView.{PassView}
use Rattle.table_rule.specs.Passes.{finding_none, refusing_win, refusing_leave}
use Rattle.worker_crew.specs.Workers.{WorkerView}
use Rattle.worker_turns.specs.Stops.{unstopped}
use Rattle.worker_turns.specs.Pieces.{IsOwnPiece, IsOtherPiece}
use Rattle.worker_turns.specs.Launches.{Collects, launch_events}
use Rattle.worker_turns.specs.Trapped.{IsTrappedTurn, refused_both}
use Rattle.worker_turns.specs.Free.{IsOther, IsOwnNode, StoleNothing, RanToIdle, IsFreeTurn, pass_after}
use Rattle.worker_turns.specs.Meanings.Events.{AreServed, HasTrappedEvents, HasFreeEvents}
use Rattle.worker_turns.proofs.MeaningLemmas.Stays.{own_pass, other_pass}

are_served : (workers : ℕ) (book : List (List Entry)) (posted : List ℕ) (served : List Event) (done : HoldView) → Collects workers book posted served done → AreServed book done served
are_served workers book posted served done g = elim g.batch [
  | inl (none, same, empty, quiet) ↦ inl (none.none, quiet)
  | inr (batch, all, are, events) ↦ inr (batch, all.published.book, events)
]

-- the pass after its leave and its win were refused
twice_refused : (t own : PieceAttempt) (old a new : WorkerView) → IsOwnPiece own (unstopped old) a → IsOtherPiece t (refused_both a) new → new.pass ≡ refusing_win (refusing_leave (finding_none old.pass))
twice_refused t own old a new p q = other_pass t (refused_both a) new q ∙ ap (λ (x : PassView). refusing_win (refusing_leave x)) (own_pass own old a p)

pub trapped_events : (workers : ℕ) (answer : Trapped) (old new : WorkerView) → IsTrappedTurn workers answer old new → HasTrappedEvents workers answer old.pass new.pass
trapped_events workers (Left receipt) old new (own, a, unrun, p, left, same) =
    ap (λ (x : PassView). x.events) left.left ∙ ap (λ (x : PassView). x.events ++ made.Leave receipt ∷ []) (own_pass own old a p)
trapped_events workers Piece old new (inl (spot, p)) = ap (λ (x : PassView). x.events) (own_pass (Ran spot) old new p)
trapped_events workers Piece old new (inr (own, spot, a, unrun, p, q)) = ap (λ (x : PassView). x.events) (twice_refused (Ran spot) own old a new p q)
trapped_events workers Launched old new (own, a, book, unrun, p, l, front) = (
  book,
  l.done,
  l.served,
  ap (λ (x : PassView). x.last) l.released,
  are_served workers book l.posted l.served l.done l.gathers,
  ap (λ (x : PassView). x.events) l.released ∙ ap (λ (x : PassView). (x.events ++ made.Win ∷ []) ++ launch_events workers l.served) (own_pass own old a p)
      ∙ append_assoc old.pass.events (made.Win ∷ []) (launch_events workers l.served),
)
trapped_events workers Nothing old new (own, other, a, unrun, not, p, q) = ap (λ (x : PassView). x.events) (twice_refused other own old a new p q)

pub trapped_looked : (workers : ℕ) (answer : Trapped) (old new : WorkerView) → IsTrappedTurn workers answer old new → old.pass.stop_looks < new.pass.stop_looks
trapped_looked workers (Left receipt) old new (own, a, unrun, p, left, same) =
    let now = ap (λ (x : PassView). x.stop_looks) left.left in let was = ap (λ (x : PassView). x.stop_looks) (own_pass own old a p) in omega (arith, now, was)
trapped_looked workers Piece old new (inl (spot, p)) = let now = ap (λ (x : PassView). x.stop_looks) (own_pass (Ran spot) old new p) in omega (arith, now)
trapped_looked workers Piece old new (inr (own, spot, a, unrun, p, q)) = let now = ap (λ (x : PassView). x.stop_looks) (twice_refused (Ran spot) own old a new p q) in omega (arith, now)
trapped_looked workers Launched old new (own, a, book, unrun, p, l, front) =
    let more : a.pass.stop_looks ≤ new.pass.stop_looks = l.looks in let was = ap (λ (x : PassView). x.stop_looks) (own_pass own old a p) in omega (arith, more, was)
trapped_looked workers Nothing old new (own, other, a, unrun, not, p, q) = let now = ap (λ (x : PassView). x.stop_looks) (twice_refused other own old a new p q) in omega (arith, now)

-- the pass of a free worker after its own deque of nodes, and after that of pieces
node_pass : (t : NodeAttempt) (old a : WorkerView) → IsOwnNode t (unstopped old) a → a.pass ≡ pass_after t (finding_none old.pass)
node_pass t old a p = ap (λ (m : WorkerView). m.pass) p.same

piece_pass : (t : PieceAttempt) (a b : WorkerView) → IsOwnPiece t a b → b.pass ≡ a.pass
piece_pass t a b p = ap (λ (m : WorkerView). m.pass) p.same

both_pass : (own : PieceAttempt) (old a b : WorkerView) → IsOwnNode NoNode (unstopped old) a → IsOwnPiece own a b → b.pass ≡ finding_none old.pass
both_pass own old a b p q = piece_pass own a b q ∙ node_pass NoNode old a p

-- a node was claimed, and then carried on
ran_events : (n : ℕ) (old mid new : WorkerView) → mid.pass ≡ pass_after (Claimed n) (finding_none old.pass) → RanToIdle mid new → HasFreeEvents did.Ran old.pass new.pass
ran_events n old mid new is c = (
  n,
  c.events.0,
  c.claimed ∙ ap (λ (x : PassView). x.claimed) is,
  c.events.1 ∙ ap (λ (x : PassView). x.events ++ c.events.0) is ∙ append_assoc old.pass.events (made.Claim n ∷ []) c.events.0,
)

-- the steal claimed no node
nothing_stolen : (other : StealAttempt) (old new : WorkerView) → StoleNothing other → IsOther other old new → (new.pass.events ≡ old.pass.events) × (new.pass.stop_looks ≡ old.pass.stop_looks)
nothing_stolen others.NoVictim old new unrun (one, same) = (ap (λ (m : WorkerView). m.pass.events) same, ap (λ (m : WorkerView). m.pass.stop_looks) same)
nothing_stolen (others.Node (Claimed n)) old new unrun (deck, steal, same) = absurd unrun
nothing_stolen (others.Node (Refused n)) old new unrun (deck, steal, same) = (ap (λ (m : WorkerView). m.pass.events) same, ap (λ (m : WorkerView). m.pass.stop_looks) same)
nothing_stolen (others.Node NoNode) old new unrun (deck, steal, same) = (ap (λ (m : WorkerView). m.pass.events) same, ap (λ (m : WorkerView). m.pass.stop_looks) same)
nothing_stolen (others.Piece t) old new unrun (deck, steal, same) = (ap (λ (m : WorkerView). m.pass.events) same, ap (λ (m : WorkerView). m.pass.stop_looks) same)

pub free_events : (answer : Did) (old new : WorkerView) → IsFreeTurn answer old new → HasFreeEvents answer old.pass new.pass
free_events did.Ran old new (inl (n, a, p, c)) = ran_events n old a new (node_pass (Claimed n) old a p) c
free_events did.Ran old new (inr (n, a, b, d, p, q, (deck, steal, same), c)) =
    ran_events n old d new (ap (λ (m : WorkerView). m.pass) same ∙ ap (pass_after (Claimed n)) (both_pass Empty old a b p q)) c
free_events did.Piece old new (inl (spot, a, p, q)) = ap (λ (x : PassView). x.events) (both_pass (Ran spot) old a new p q)
free_events did.Piece old new (inr (spot, a, b, p, q, (deck, steal, same))) =
    ap (λ (m : WorkerView). m.pass.events) same ∙ ap (λ (x : PassView). x.events) (both_pass Empty old a b p q)
free_events did.Nothing old new (inl (n, p)) = ap (λ (x : PassView). x.events) (node_pass (Refused n) old new p)
free_events did.Nothing old new (inr (inl (spot, a, p, q))) = ap (λ (x : PassView). x.events) (both_pass (Stale spot) old a new p q)
free_events did.Nothing old new (inr (inr (other, a, b, unrun, p, q, o))) =
    (nothing_stolen other b new unrun o).0 ∙ ap (λ (x : PassView). x.events) (both_pass Empty old a b p q)
