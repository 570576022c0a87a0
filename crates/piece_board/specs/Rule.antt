-- The invariant of a board. The word of a place is its state: 0 free, 1 open, 2 claimed, 3 full.
use Rattle.std.specs.Prelude.{ℕ, ◌≡◌, ◌≢◌, ◌+◌, ◌-◌, ◌*◌, ◌<◌, ◌≤◌, ◌==◌, [], length, slice_index, Option, None, Some, if◌then◌else◌}
use Rattle.std.specs.List.{sum_by}
use mathlib.Core.Option.{some}
use lib.ListN.{get_elem?}
use Rattle.atomic_table.specs.Table.{State}
use Rattle.limits.specs.declared.TheConstants.{PLACES}
use Rattle.piece_board.specs.declared.view.Content.{Content}
use Rattle.piece_board.specs.declared.view.Content.TheVariants.{Nothing, Input, Output}
use Rattle.piece_board.specs.declared.view.View.{View}
use Rattle.piece_board.specs.Entries.{entry_at, AreApart}
use Rattle.piece_board.specs.Desks.{number_of, fresh_desk}
use Rattle.piece_board.specs.Trace.{HasTrace}

-- 1 if `n` is `k`, otherwise 0
abbrev pub one_at : ℕ → ℕ → ℕ
one_at k n = if n == k then 1 else 0

module _ {I : Type 0} where
  -- an initial seat with the rows from `row` up to, but not including, `end_row`
  abbrev pub fresh_view : ℕ → ℕ → View I
  fresh_view row end_row =
      record { desk = fresh_desk row; end_row = end_row; in_hand = 0; events = []; misses = [] }

  -- the first seat, which has all rows
  abbrev pub first_view : ℕ → View I
  first_view rows = fresh_view 0 rows

  -- the two parts of the split of an initial seat: its first row, and its other rows
  abbrev pub first_row : View I → View I
  first_row v = fresh_view v.desk.row (v.desk.row + 1)

  abbrev pub without_first_row : View I → View I
  without_first_row v = fresh_view (v.desk.row + 1) v.end_row

  -- the number of claims, and of posts, that this seat made at place `k` of the board
  abbrev pub claims_at : ℕ → View I → ℕ
  claims_at k v = sum_by (λ spot. one_at k (number_of spot.0 spot.1)) v.desk.given

  abbrev pub posts_at : ℕ → View I → ℕ
  posts_at k v = sum_by (λ place. one_at k (number_of v.desk.row place)) v.desk.posts

  -- the owner's entry is right: without one the place is free; with one it is not free, and the entry is its last post
  abbrev pub IsKnown : ℕ → Option I → Option I → Type 0
  IsKnown word last None = word ≡ 0
  IsKnown word last (Some x) = (word ≢ 0) × (last ≡ Some x)

-- the slot of place `k` is on the table and holds `Nothing`, unless `seat` has it in hand
abbrev pub IsKeptEmpty : {I O : Type 0} → State (Content I O) (View I) → ℕ → ℕ → Type 0
IsKeptEmpty s k seat = (v : View _) → get_elem? s.views seat ≡ some v → v.in_hand ≢ k + 1
    → get_elem? s.homes k ≡ some (some Nothing)

-- The state of place `k`, where `last` was posted last. Its slot holds `Nothing`, or is in the owner's hand, if it is
-- free; the same with the claimer if it is claimed. An open slot holds `last`, a full one a result that meets `last`.
pub record PlaceStands {I O : Type 0} (meets : I → O → Type 0) (s : State (Content I O) (View I)) (k : ℕ)
    (last : Option I) (owner claimer : ℕ) : Type 0 where
  pub few : slice_index s.words k < 4
  pub free : slice_index s.words k ≡ 0 → IsKeptEmpty s k owner
  pub opened : slice_index s.words k ≡ 1
      → (x : I) × (last ≡ Some x) × (get_elem? s.homes k ≡ some (some (Input x)))
  pub claimed : slice_index s.words k ≡ 2 → IsKeptEmpty s k claimer
  pub full : slice_index s.words k ≡ 3
      → (x : I) × (y : O) × (last ≡ Some x) × (get_elem? s.homes k ≡ some (some (Output y))) × meets x y

-- Each place has an owner, the seat in whose rows it lies, and a claimer. A seat's `posted` list is right for each of
-- its places. An entry in a seat's `claims` means that the place is claimed, this seat is its claimer, and the entry is
-- its last post. At each place, claims equal posts, or are one less if the place is open. A trace leads to the words.
pub record ObeysRule {I O : Type 0} (meets : I → O → Type 0) (s : State (Content I O) (View I)) : Type 0 where
  pub last : ℕ → Option I
  pub owner : ℕ → ℕ
  pub claimer : ℕ → ℕ
  pub as_many : length s.words ≡ length s.homes
  pub seated : (k : ℕ) → (owner k < length s.views) × (claimer k < length s.views)
  pub places : (k : ℕ) → k < length s.homes → PlaceStands meets s k (last k) (owner k) (claimer k)
  pub owned : (seat : ℕ) (v : View I) (k : ℕ) → get_elem? s.views seat ≡ some v
      → PLACES * v.desk.row ≤ k → k < PLACES * v.end_row
      → (owner k ≡ seat)
      × IsKnown (slice_index s.words k) (last k) (entry_at (k - PLACES * v.desk.row) v.desk.posted)
  pub claims : (seat : ℕ) (v : View I) (k : ℕ) (x : I) → get_elem? s.views seat ≡ some v
      → entry_at k v.desk.claims ≡ Some x
      → (claimer k ≡ seat) × (slice_index s.words k ≡ 2) × (last k ≡ Some x)
  pub apart : (seat : ℕ) (v : View I) → get_elem? s.views seat ≡ some v
      → AreApart v.desk.posted × AreApart v.desk.claims
  pub once : (k : ℕ) → k < length s.homes
      → sum_by (claims_at k) s.views + one_at 1 (slice_index s.words k) ≡ sum_by (posts_at k) s.views
  pub traced : HasTrace s.words s.views
