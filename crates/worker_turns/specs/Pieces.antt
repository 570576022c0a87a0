-- The outcome of a worker's pops and steals at deques, of the claims of pieces, and of posting and collecting pieces.
use Rattle.std.specs.Prelude.{ℕ, ◌≡◌, ◌+◌, ◌⊎◌, Option, None, Some, List, [], ◌∷◌, ◌++◌, length, map, drop}
use Rattle.two_deques.specs.declared.spot.Spot.{Spot}
use Rattle.two_deques.specs.declared.tries.Deck.{Deck}
use Rattle.two_deques.specs.declared.tries.Deck.TheVariants.{CoreDeck, BatchDeck}
use Rattle.two_deques.specs.declared.tries.Try.{Try}
use Rattle.two_deques.specs.Ends.{HeldEnds, with_newest, after_empty_pop, after_steal, after_failed_steal}
use Rattle.two_deques.specs.Tries.{TriesView, try_of, after_try}
use Rattle.piece_board.specs.declared.view.DeskView.{DeskView}
use Rattle.piece_board.specs.Desks.{after_refusal}
use Rattle.launch_batch.specs.declared.piece.PieceIn.{PieceIn}
use Rattle.launch_batch.specs.Pieces.{place_of}
use Rattle.worker_turns.specs.declared.attempts.PieceAttempt.{PieceAttempt}
use Rattle.worker_turns.specs.declared.attempts.PieceAttempt.TheVariants.{Ran, Stale, Empty}
use Rattle.worker_crew.specs.Workers.{WorkerView}

abbrev pub Desk : Type 0
Desk = DeskView PieceIn

module _ {T : Type 0} where
  -- a pop of the own deque gave this task, or nothing
  abbrev pub IsPop : Option T → HeldEnds T → HeldEnds T → Type 0
  IsPop None old new = new ≡ after_empty_pop old
  IsPop (Some x) old new = old ≡ with_newest x new

  -- a steal at the victim's deque gave this task, or nothing
  abbrev pub IsSteal : ℕ → Option T → HeldEnds T → HeldEnds T → Type 0
  IsSteal victim None old new = new ≡ after_failed_steal victim old
  IsSteal victim (Some x) old new = new ≡ after_steal victim x old

abbrev pub spot_of : PieceAttempt → Option Spot
spot_of (Ran s) = Some s
spot_of (Stale s) = Some s
spot_of Empty = None

-- the desk after the piece at this spot was claimed and finished
abbrev pub after_run : Spot → Desk → Desk
after_run s d = record d { given = d.given ++ (s.row, s.place) ∷ []; finishes = d.finishes + 1 }

abbrev pub desk_after : PieceAttempt → Desk → Desk
desk_after (Ran s) d = after_run s d
desk_after (Stale s) d = after_refusal s.row s.place d
desk_after Empty d = d

abbrev pub NotRan : PieceAttempt → Type 0
NotRan (Ran s) = ⊥
NotRan (Stale s) = Unit {0}
NotRan Empty = Unit {0}

-- x for the deque of nodes, y for that of pieces
abbrev pub by_deck : {A : Type 0} → Deck → A → A → A
by_deck CoreDeck x y = x
by_deck BatchDeck x y = y

-- the next try at a deque of pieces, and the tries after it: a try at a deque of nodes is skipped
abbrev pub piece_try : TriesView → Try
piece_try t = by_deck (try_of t).deck (try_of (after_try t)) (try_of t)

abbrev pub after_piece_try : TriesView → TriesView
after_piece_try t = by_deck (try_of t).deck (after_try (after_try t)) (after_try t)

-- a pop of the own deque of pieces, and the claim of what it gave, had this outcome; nothing else changed
pub record IsOwnPiece (t : PieceAttempt) (old new : WorkerView) : Type 0 where
  pub pop : IsPop (spot_of t) old.batch new.batch
  pub same : new ≡ record old { batch = new.batch; desk = desk_after t old.desk }

-- a steal at the next deque of pieces, and the claim of what it gave, had this outcome; nothing else changed
pub record IsStolenPiece (t : PieceAttempt) (old new : WorkerView) : Type 0 where
  pub steal : IsSteal (piece_try old.tries).victim (spot_of t) old.batch new.batch
  pub same : new ≡ record old { batch = new.batch; desk = desk_after t old.desk; tries = after_piece_try old.tries }

-- the same, or there is no other worker, nothing was tried, and the outcome is `Empty`
abbrev pub IsOtherPiece : PieceAttempt → WorkerView → WorkerView → Type 0
IsOtherPiece t old new =
    ((old.tries.workers ≡ 1) × (t ≡ Empty) × (new ≡ old)) ⊎ IsStolenPiece t old new

-- The desk after `collected` results were collected, at the first places of the row that are not free, while the pieces
-- `given` were claimed and finished and the claims `refused` were refused. `empty` is the new count of empty collects.
abbrev pub after_works : ℕ → List (ℕ × ℕ) → List (ℕ × ℕ) → ℕ → Desk → Desk
after_works collected given refused empty d = record d {
  posted = drop collected d.posted;
  collects = d.collects + collected;
  given = d.given ++ given;
  refused = d.refused ++ refused;
  finishes = d.finishes + length given;
  empty_collects = empty;
}

-- `collected` results were collected, at the first places of the row that are not free, while any number of pieces were
-- run and any number of claims refused. Nothing was posted.
pub record DrainsRow (collected : ℕ) (old new : Desk) : Type 0 where
  pub given : List (ℕ × ℕ)
  pub refused : List (ℕ × ℕ)
  pub is : new ≡ after_works collected given refused new.empty_collects old

-- a piece with its place, and the desk after these pieces were posted on a free row
abbrev pub with_place : PieceIn → ℕ × PieceIn
with_place input = (place_of input, input)

abbrev pub after_posts : List PieceIn → Desk → Desk
after_posts ins d = record d { posted = map with_place ins; posts = d.posts ++ map place_of ins }
