-- What contracts see of a board, its desks and their claims, and which of them belong together.
use Rattle.std.specs.Prelude.{ℕ, ◌≡◌, ◌<◌, ◌+◌, ◌*◌, List, length, slice_index_or, Option}
use Rattle.limits.specs.declared.TheConstants.{PLACES}
use Rattle.piece_board.specs.declared.work.Work.{Ghosts}
use Rattle.piece_board.specs.declared.board.Board.{Board}
use Rattle.piece_board.specs.declared.board.Desk.{Desk}
use Rattle.piece_board.specs.declared.board.Claim.{Claim}
use Rattle.piece_board.specs.declared.view.DeskView.{DeskView}
use Rattle.piece_board.specs.declared.view.Miss.{Miss}
use Rattle.piece_board.specs.declared.view.View.{View}
use Rattle.piece_board.specs.Desks.{fresh_desk, claimed_at}
use Rattle.piece_board.specs.Rule.{fresh_view}
use Rattle.piece_board.specs.Moments.{IsMissAt}

-- the number of workers, each of which has a row
abbrev pub workers_of : {W I O : Type 0} → Board W I O → ℕ
workers_of b = b.rows

-- the row and the place of a claim
abbrev pub spot_of : {W : Type 0} → Claim W → ℕ × ℕ
spot_of c = (c.row, c.place)

-- the claim is at a row of the board
abbrev pub IsClaimOf : {W I O : Type 0} → Board W I O → Claim W → Type 0
IsClaimOf b c = c.row < b.rows

module _ {W I O : Type 0} {g : Ghosts W I O} where
  -- the view of a desk's seat
  abbrev pub view : Desk W I O g → View I
  view d = d.seat.me.0

  abbrev pub desk_view : Desk W I O g → DeskView I
  desk_view d = d.seat.me.0.desk

  -- what a call with this desk finds in the word of place `k`, where that is not what it looks for
  unfoldable pub IsMissOf : Board W I O → Desk W I O g → ℕ → Miss → Type 0
  IsMissOf b d k miss = IsMissAt g.meets (PLACES * workers_of b) (view d) k miss

  -- the input at the claim's place, if the desk claimed it and has not finished it
  abbrev pub claimed_by : Claim W → Desk W I O g → Option I
  claimed_by c d = claimed_at c.row c.place (desk_view d)

-- the desk belongs to the board: its seat is at the board's table, and its row is one of the board's
pub record IsDeskOf {W I O : Type 0} {g : Ghosts W I O} (b : Board W I O) (d : Desk W I O g) : Type 0 where
  pub seated : d.seat.table_id ≡ b.table.shared.table_id
  pub below : d.row < b.rows

-- the initial desks of the first `n` workers, in their order
pub record AreDesksUpTo {W I O : Type 0} {g : Ghosts W I O} (n : ℕ) (b : Board W I O) (desks : List (Desk W I O g))
    : Type 0 where
  pub count : length desks ≡ n
  pub each : (w : ℕ) (d : Desk W I O g) → w < n → d ≡ slice_index_or desks w d
      → IsDeskOf b d × (desk_view d ≡ fresh_desk w)
  pub new : (w : ℕ) (d : Desk W I O g) → w < n → d ≡ slice_index_or desks w d → view d ≡ fresh_view w (w + 1)

-- the initial desks of all workers, in their order
abbrev pub AreDesks : {W I O : Type 0} {g : Ghosts W I O} → Board W I O → List (Desk W I O g) → Type 0
AreDesks b desks = AreDesksUpTo (workers_of b) b desks
