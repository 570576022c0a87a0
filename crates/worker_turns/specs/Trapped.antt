-- The path of a trapped worker's turn, for each answer: its steps from the worker's old view to the new one.
use Rattle.std.specs.Prelude.{ℕ, ◌≡◌, ◌≤◌, ◌+◌, ◌⊎◌, None, Some, List, Option, IfSome}
use Rattle.two_deques.specs.declared.spot.Spot.{Spot}
use Rattle.core_model.specs.Words.{Entry, Op}
use Rattle.core_model.specs.Entries.{StandsAt}
use Rattle.core_model.specs.declared.status.Receipt.{Receipt}
use Rattle.worker_turns.specs.declared.attempts.PieceAttempt.{PieceAttempt}
use Rattle.worker_turns.specs.declared.attempts.PieceAttempt.TheVariants.{Ran}
use Rattle.worker_turns.specs.declared.trapped.Trapped.{Trapped}
use Rattle.worker_turns.specs.declared.trapped.Trapped.TheVariants.{Left, Piece, Launched, Nothing}
use Rattle.table_rule.specs.declared.slot.OpRecord.{OpRecord}
use Rattle.table_rule.specs.declared.view.PassView.{PassView}
use Rattle.table_rule.specs.Passes.{finding_none, refusing_leave, leaving, refusing_win, winning}
use Rattle.table_rule.specs.Shows.{IsPrefix, entry_of}
use Rattle.worker_crew.specs.Workers.{WorkerView}
use Rattle.worker_turns.specs.Pieces.{NotRan, IsOwnPiece, IsOtherPiece}
use Rattle.worker_turns.specs.Stops.{unstopped}
use Rattle.worker_turns.specs.Launches.{Launches}

-- The pass left with the receipt of the call that it posted, and saw a book that extends the one seen before and has the
-- call's entry, with this worker and the receipt's reply, at the receipt's batch and place.
pub record IsLeft (receipt : Receipt) (old new : PassView) : Type 0 where
  pub call : OpRecord
  pub posted : old.posted ≡ Some call
  pub left : new ≡ leaving call receipt new.book_seen old
  pub longer : IsPrefix old.book_seen new.book_seen
  pub stands : StandsAt new.book_seen receipt.batch receipt.place (entry_of old.worker (record { call = call; receipt = receipt }))

-- the call that the pass posted last has the operation of its leaf under the book that the pass has seen
abbrev pub HasOwnOp : (List (List Entry) → ℕ → Option Op) → PassView → Type 0
HasOwnOp op_of p = (call : OpRecord) × (p.posted ≡ Some call) × (op_of p.book_seen call.leaf ≡ Some call.op)

-- A receipt may have this batch number: at least every answer of `since` before the post, and at most one more than the
-- least answer after it, if there is one.
abbrev pub IsDue : ℕ → PassView → Type 0
IsDue batch p = (p.before ≤ batch) × IfSome p.after (λ since. batch ≤ since + 1)

-- the worker after a refused leave and a refused win
abbrev pub refused_both : WorkerView → WorkerView
refused_both m = record m { pass = refusing_win (refusing_leave m.pass) }

-- the worker after a refused leave and a win that found this book
abbrev pub won_after : List (List Entry) → WorkerView → WorkerView
won_after book m = record m { pass = winning book (refusing_leave m.pass) }

-- The path by answer: a look that finds the stop word unset, a pop of the own deque of pieces, a leave, a win, a steal
-- of a piece. The path ends at the first of these tries that succeeds; a win is followed by the launch. The book that
-- the win finds extends the one seen before.
abbrev pub IsTrappedTurn : ℕ → Trapped → WorkerView → WorkerView → Type 0
IsTrappedTurn workers (Left receipt) old new =
    (own : PieceAttempt) × (a : WorkerView) × NotRan own × IsOwnPiece own (unstopped old) a
    × IsLeft receipt a.pass new.pass × (new ≡ record a { pass = new.pass })
IsTrappedTurn workers Piece old new =
    ((spot : Spot) × IsOwnPiece (Ran spot) (unstopped old) new)
    ⊎ ((own : PieceAttempt) × (spot : Spot) × (a : WorkerView) × NotRan own × IsOwnPiece own (unstopped old) a
    × IsOtherPiece (Ran spot) (refused_both a) new)
IsTrappedTurn workers Launched old new =
    (own : PieceAttempt) × (a : WorkerView) × (book : List (List Entry)) × NotRan own × IsOwnPiece own (unstopped old) a
    × Launches workers book (won_after book a) new × IsPrefix a.pass.book_seen book
IsTrappedTurn workers Nothing old new =
    (own : PieceAttempt) × (other : PieceAttempt) × (a : WorkerView) × NotRan own × NotRan other × IsOwnPiece own (unstopped old) a
    × IsOtherPiece other (refused_both a) new

-- unchanged: the worker, its task, the nodes that it claimed, was refused and opened, the number of looks that found
-- the stop word set, and how often the worker set it
pub record IsJobSame (old new : PassView) : Type 0 where
  pub worker : new.worker ≡ old.worker
  pub task : new.task ≡ old.task
  pub claims : new.claims ≡ old.claims
  pub claimed : new.claimed ≡ old.claimed
  pub refused : new.refused_nodes ≡ old.refused_nodes
  pub opened : new.opened ≡ old.opened
  pub found : new.stops_found ≡ old.stops_found
  pub stops : new.stops ≡ old.stops

-- All this, the call, the latest post, the receipts and the record of what `since` answered are unchanged. The worker
-- does not have the flag. The book seen, the events and the number of looks at the stop word have only grown.
pub record IsCallSame (old new : PassView) : Type 0 where
  pub job : IsJobSame old new
  pub call : new.call ≡ old.call
  pub hold : new.hold ≡ None
  pub looks : old.stop_looks ≤ new.stop_looks
  pub events : IsPrefix old.events new.events
  pub posted : new.posted ≡ old.posted
  pub left : new.left ≡ old.left
  pub book : IsPrefix old.book_seen new.book_seen
  pub greatest : new.greatest ≡ old.greatest
  pub before : new.before ≡ old.before
  pub after : new.after ≡ old.after
  pub first : new.first_since ≡ old.first_since

-- after a leave, the call that the worker posted last has the operation of its leaf under the book seen
abbrev pub LeftOwnOp : (List (List Entry) → ℕ → Option Op) → Trapped → PassView → Type 0
LeftOwnOp op_of (Left receipt) new = HasOwnOp op_of new
LeftOwnOp op_of Piece new = Unit {0}
LeftOwnOp op_of Launched new = Unit {0}
LeftOwnOp op_of Nothing new = Unit {0}

-- The effect of a trapped turn on the pass, by its answer: a leave after one look at the stop word, with a receipt
-- whose batch number is in the range that `since` allows; or no change but those of `IsCallSame`.
abbrev pub StaysTrapped : Trapped → PassView → PassView → Type 0
StaysTrapped (Left receipt) old new = IsLeft receipt (finding_none old) new × IsDue receipt.batch old
StaysTrapped Piece old new = IsCallSame old new
StaysTrapped Launched old new = IsCallSame old new
StaysTrapped Nothing old new = IsCallSame old new
