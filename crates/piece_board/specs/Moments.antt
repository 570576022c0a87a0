-- The moments at which a desk looks at the board, and what it finds there.
use Rattle.std.specs.Prelude.{ℕ, ◌≡◌, ◌≤◌, length, slice_index}
use Rattle.std.specs.List.{AllByRecursion}
use mathlib.Core.Option.{some}
use lib.ListN.{get_elem?}
use Rattle.atomic_table.specs.Table.{State}
use Rattle.piece_board.specs.declared.view.Content.{Content}
use Rattle.piece_board.specs.declared.view.Miss.{Miss}
use Rattle.piece_board.specs.declared.view.View.{View}
use Rattle.piece_board.specs.Trace.{events_by}
use Rattle.piece_board.specs.Rule.{ObeysRule}

-- A moment at which a seat has this view: a board of this many places that obeys the rule has a seat with the view, and
-- its trace is as long as the moment says. So the moment is not before the latest event of the seat, nor before any of
-- its misses.
pub record IsMomentOf {I O : Type 0} (meets : I → O → Type 0) (places : ℕ) (v : View I) (moment : ℕ) : Type 0 where
  pub board : State (Content I O) (View I)
  pub obeys : ObeysRule meets board
  pub wide : length board.words ≡ places
  pub seat : ℕ
  pub seated : get_elem? board.views seat ≡ some v
  pub long : length obeys.traced.trace ≡ moment
  pub own : events_by seat obeys.traced.trace ≡ v.events
  pub later : AllByRecursion (λ (miss : Miss). miss.moment ≤ moment) v.misses

-- What a seat of this view finds at a look at the word of place `k`: at a moment at which it has the view, the word has
-- the number that the miss notes.
pub record IsMissAt {I O : Type 0} (meets : I → O → Type 0) (places : ℕ) (v : View I) (k : ℕ) (miss : Miss)
    : Type 0 where
  pub word : miss.word ≡ k
  pub events : miss.events ≡ length v.events
  pub at : IsMomentOf meets places v miss.moment
  pub found : slice_index at.board.words k ≡ miss.found
