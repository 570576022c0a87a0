-- What each step on a board tells the seat that makes it: a relation of the step, the seat before, the value found in
-- the word, and the seat after.
use Rattle.std.specs.Prelude.{ℕ, ◌≡◌, ◌≢◌, ◌+◌, ◌*◌, ◌<◌, ◌≤◌, [], ◌∷◌, ◌++◌, None, Some}
use Rattle.atomic_table.specs.Table.{Me, Step, rest}
use Rattle.limits.specs.declared.TheConstants.{PLACES}
use Rattle.piece_board.specs.declared.view.Content.{Content}
use Rattle.piece_board.specs.declared.view.Content.TheVariants.{Nothing, Input, Output}
use Rattle.piece_board.specs.declared.view.DeskView.{DeskView}
use Rattle.piece_board.specs.declared.view.Miss.{Miss}
use Rattle.piece_board.specs.declared.view.View.{View}
use Rattle.piece_board.specs.Desks.{number_of, posted_at, after_post, after_claim, after_refusal, after_finish, after_collect, after_empty_collect}
use Rattle.piece_board.specs.Moments.{IsMissAt}

abbrev pub SeatAt : Type 0 → Type 0 → Type 0
SeatAt I O = Me (Content I O) (View I)

abbrev pub Told : Type 0 → Type 0 → Type 1
Told I O = Step (Content I O) → SeatAt I O → ℕ → SeatAt I O → Type 0

-- with this value of `in_hand`: one more than the number of the slot in hand, or 0 for none
abbrev pub with_in_hand : {I : Type 0} → ℕ → View I → View I
with_in_hand slot v = record v { in_hand = slot }

-- after a change of the word of place `k`, with the effect `f` on the desk, and no slot in hand
abbrev pub then_desk : {I : Type 0} → ℕ → (DeskView I → DeskView I) → View I → View I
then_desk k f v = record v { desk = f v.desk; in_hand = 0; events = v.events ++ k ∷ [] }

-- the same with the slot of the place in hand
abbrev pub then_desk_with : {I : Type 0} → ℕ → (DeskView I → DeskView I) → View I → View I
then_desk_with k f v = record v { desk = f v.desk; in_hand = k + 1; events = v.events ++ k ∷ [] }

-- after a look that did not find what it was for, with the effect `f` on the desk: the view notes the miss
abbrev pub with_miss : {I : Type 0} → Miss → (DeskView I → DeskView I) → View I → View I
with_miss miss f v = record v { desk = f v.desk; in_hand = 0; misses = miss ∷ v.misses }

module _ {I O : Type 0} where
  -- the number found is not the one that the step looked for: the view notes the miss, and `f` is done to the desk
  abbrev pub Misses : (I → O → Type 0) → (DeskView I → DeskView I) → Told I O
  Misses meets f st m found n =
      (miss : Miss) × IsMissAt meets st.slots m.0 st.word miss × (miss.found ≡ found) × (n ≡ (with_miss miss f m.0, m.1))

  abbrev pub TakesInHand : Told I O
  TakesInHand st m found n = n ≡ (with_in_hand (st.word + 1) m.0, (st.word, Nothing) ∷ m.1)

  abbrev pub PutsBack : Told I O
  PutsBack st m found n = n ≡ (with_in_hand 0 m.0, rest m.1)

  -- the input in the slot in hand is posted at its place of the seat's own row, and the slot is put back
  abbrev pub Posts : Told I O
  Posts st m found n = (place : ℕ) (x : I) → st.word ≡ number_of m.0.desk.row place
      → m.1 ≡ (st.word, Input x) ∷ rest m.1 → n ≡ (then_desk st.word (after_post place x) m.0, rest m.1)

  -- if the place was open (1), the seat has claimed it and has its slot with the input in hand; otherwise it is refused
  abbrev pub Claims : (I → O → Type 0) → Told I O
  Claims meets st m found n = (row place : ℕ) → place < PLACES → st.word ≡ number_of row place
      → (found ≡ 1 → (x : I)
      × (n ≡ (then_desk_with st.word (after_claim row place x) m.0, (st.word, Input x) ∷ m.1)))
      × (found ≢ 1 → Misses meets (after_refusal row place) st m found n)

  -- the operands of the step encode a row and a place that the board, which has `slots` places, does not have
  abbrev pub Strays : (I → O → Type 0) → Told I O
  Strays meets st m found n = (row place : ℕ) → st.first ≡ 4 + row → st.second ≡ place
      → (PLACES * row < st.slots → PLACES ≤ place) → Misses meets (after_refusal row place) st m found n

  abbrev pub Finishes : Told I O
  Finishes st m found n = (row place : ℕ) → place < PLACES → st.word ≡ number_of row place
      → n ≡ (then_desk st.word (after_finish row place) m.0, rest m.1)

  -- if the place of the seat's own row was full (3), it is free, and its slot is in hand with a result that meets the
  -- input posted there last; otherwise the collect found no result
  abbrev pub Collects : (I → O → Type 0) → Told I O
  Collects meets st m found n = (place : ℕ) → st.word ≡ number_of m.0.desk.row place
      → (found ≡ 3 → (x : I) × (y : O) × (posted_at place m.0.desk ≡ Some x) × meets x y
      × (posted_at place (after_collect place m.0.desk) ≡ None)
      × (n ≡ (then_desk_with st.word (after_collect place) m.0, (st.word, Output y) ∷ m.1)))
      × (found ≢ 3 → Misses meets after_empty_collect st m found n)
