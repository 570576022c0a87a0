-- The seat of a call between its steps, and after its last step.
use Rattle.std.proofs.Common.{◌≡◌, ℕ, ◌+◌, ◌*◌, ◌<◌, ◌≤◌, List, [], ◌∷◌, get_or, Option, None, Some, IsSomeAnd, sym, refl, ap, ◌∙◌, subst, arith}
use mathlib.Core.Option.{none}
use Rattle.limits.specs.declared.TheConstants.{PLACES}
use Rattle.atomic_table.specs.Table.{step, rest, Allows}
use Rattle.piece_board.specs.declared.view.Content.{Content}
use Rattle.piece_board.specs.declared.view.Content.TheVariants.{Nothing, Input, Output}
use Rattle.piece_board.specs.declared.work.Work.{Ghosts}
use Rattle.piece_board.specs.declared.board.Board.{Board}
use Rattle.piece_board.specs.declared.board.Desk.{Desk}
use Rattle.piece_board.specs.declared.view.DeskView.{DeskView}
use Rattle.piece_board.specs.declared.view.Miss.{Miss}
use Rattle.piece_board.specs.declared.view.View.{View}
use Rattle.piece_board.specs.Entries.{entry_at}
use Rattle.piece_board.specs.Desks.{number_of, posted_at, after_post, after_refusal, after_finish}
use Rattle.piece_board.specs.Rule.{ObeysRule}
use Rattle.piece_board.specs.Moments.{IsMissAt}
use Rattle.piece_board.specs.Boards.{workers_of, IsMissOf}
use Rattle.piece_board.specs.Steps.{SeatAt, with_in_hand, then_desk, then_desk_with, Misses, Posts, Strays, Finishes, PutsBack}
use Rattle.piece_board.proofs.RuleLemmas.Steps.{IsOwn, posts, puts_own, puts_claim, finishes}

-- a place of a row of the board is a place of its table
pub within : (rows row place number places : ℕ) → places ≡ PLACES * rows → row < rows → place < PLACES
    → number ≡ number_of row place → number < places
within rows row place number places all below place_below is = omega (arith, all, below, place_below, is)

pub own_place : {I : Type 0} (v : View I) (row place number : ℕ) → v.desk.row ≡ row → v.end_row ≡ row + 1
    → place < PLACES → number ≡ number_of row place → IsOwn v number place
own_place v row place number first end below is =
    record { number = omega (arith, first, is); below = below; row = omega (arith, first, end) }

-- the value in the option, and its property
pub what_is_there : {A : Type 0} (o : Option A) (P : A → Type 0) → IsSomeAnd o P → (x : A) × (o ≡ Some x) × P x
what_is_there None P h = absurd h
what_is_there (Some x) P h = (x, refl, h)

pub it_is_there : {A : Type 0} (o : Option A) (P : A → Type 0) (x : A) → o ≡ Some x → P x → IsSomeAnd o P
it_is_there {A} o P x is h = subst (λ (q : Option A). IsSomeAnd q P) (sym is) h

module _ {I O : Type 0} where
  -- the seat after a write to the slot in hand
  pub written : (m n p : SeatAt I O) (v : View I) (k : ℕ) (x y : Content I O) → n ≡ (v, (k, x) ∷ m.1) → m.1 ≡ []
      → p ≡ (n.0, (k, y) ∷ rest n.1) → p ≡ (v, (k, y) ∷ [])
  written m n p v k x y taken empty then =
      then ∙ ap (λ (q : SeatAt I O). (q.0, (k, y) ∷ rest q.1)) taken
      ∙ ap (λ (l : List (ℕ × Content I O)). (v, (k, y) ∷ l)) empty

  -- the slot taken is in hand, so it can be written
  pub in_hand : (m n : SeatAt I O) (v : View I) (k : ℕ) (x : Content I O) → n ≡ (v, (k, x) ∷ m.1)
      → n.1 ≡ (k, x) ∷ rest n.1
  in_hand m n v k x taken =
      ap (λ (q : SeatAt I O). q.1) taken ∙ ap (λ (q : SeatAt I O). (k, x) ∷ rest q.1) (sym taken)

  -- the content read from the slot in hand is the content taken
  pub read : (m n : SeatAt I O) (v : View I) (k : ℕ) (x y : Content I O) → n ≡ (v, (k, x) ∷ m.1)
      → n.1 ≡ (k, y) ∷ rest n.1 → x ≡ y
  read m n v k x y taken is =
      ap (λ (l : List (ℕ × Content I O)). (get_or l 0 (k, x)).1) (sym (ap (λ (q : SeatAt I O). q.1) taken) ∙ is)

  -- a seat with no slot in hand, and with one row, is that of a desk
  pub is_desk : (n : SeatAt I O) (w : View I) (row : ℕ) → n ≡ (w, []) → w.in_hand ≡ 0 → w.desk.row ≡ row
      → w.end_row ≡ row + 1
      → ((n.1 ≡ []) × (n.0.in_hand ≡ 0)) × ((n.0.desk.row ≡ row) × (n.0.end_row ≡ row + 1))
  is_desk n w row is empty first end = (
    (ap (λ (q : SeatAt I O). q.1) is, ap (λ (q : SeatAt I O). q.0.in_hand) is ∙ empty),
    (ap (λ (q : SeatAt I O). q.0.desk.row) is ∙ first, ap (λ (q : SeatAt I O). q.0.end_row) is ∙ end),
  )

  pub desk_is : (n : SeatAt I O) (w : View I) → n ≡ (w, []) → n.0.desk ≡ w.desk
  desk_is n w is = ap (λ (q : SeatAt I O). q.0.desk) is

  abbrev input_or : I → Content I O → I
  input_or d (Input x) = x
  input_or d Nothing = d
  input_or d (Output y) = d

  abbrev output_or : O → Content I O → O
  output_or d (Output y) = y
  output_or d Nothing = d
  output_or d (Input x) = d

  pub one_input : (content : Content I O) (x y : I) → content ≡ Input x → content ≡ Input y → x ≡ y
  one_input content x y is too = ap (input_or x) (sym is ∙ too)

  pub one_output : (content : Content I O) (x y : O) → content ≡ Output x → content ≡ Output y → x ≡ y
  one_output content x y is too = ap (output_or x) (sym is ∙ too)

-- The effect of each call on the seat m, through the seats n, p and q after its steps.
module _ {I O : Type 0} (slots k place : ℕ) (m n p q : SeatAt I O) (empty : m.1 ≡ []) where
  pub post_leaves : (x : I) → IsOwn m.0 k place → n ≡ (with_in_hand (k + 1) m.0, (k, Nothing) ∷ m.1)
      → p ≡ (n.0, (k, Input x) ∷ rest n.1) → Posts (step slots k 1 0 none) p 1 q
      → q ≡ (then_desk k (after_post place x) m.0, [])
  post_leaves x own taken then told =
      (subst (λ (r : SeatAt I O). Posts (step slots k 1 0 none) r 1 q)
      (written m n p (with_in_hand (k + 1) m.0) k Nothing (Input x) taken empty then) told) place x own.number refl

  pub finish_leaves : (row : ℕ) (y : O) → place < PLACES → k ≡ number_of row place
      → n ≡ (with_in_hand (k + 1) m.0, (k, Nothing) ∷ m.1) → p ≡ (n.0, (k, Output y) ∷ rest n.1)
      → Finishes (step slots k 3 0 none) p 3 q → q ≡ (then_desk k (after_finish row place) m.0, [])
  finish_leaves row y below number taken then told =
      (subst (λ (r : SeatAt I O). Finishes (step slots k 3 0 none) r 3 q)
      (written m n p (with_in_hand (k + 1) m.0) k Nothing (Output y) taken empty then) told) row place below number

  -- a claim or a collect, which changes the desk in its first step
  pub take_leaves : (found : ℕ) (f : DeskView I → DeskView I) (x : Content I O)
      → n ≡ (then_desk_with k f m.0, (k, x) ∷ m.1) → p ≡ (n.0, (k, Nothing) ∷ rest n.1)
      → PutsBack (step slots k 0 0 none) p found q → q ≡ (then_desk k f m.0, [])
  take_leaves found f x taken then told =
      subst (λ (r : SeatAt I O). PutsBack (step slots k 0 0 none) r found q)
      (written m n p (then_desk_with k f m.0) k x Nothing taken empty then) told

-- a step that found nothing to take
pub nothing_leaves : {I O : Type 0} (m q : SeatAt I O) (w : View I) → m.1 ≡ [] → q ≡ (w, m.1) → q ≡ (w, [])
nothing_leaves m q w empty is = is ∙ ap (λ (l : List (ℕ × Content _ _)). (w, l)) empty

-- a claim outside the board
pub stray_leaves : {I O : Type 0} (meets : I → O → Type 0) (slots rows row place first second found : ℕ) (m q : SeatAt I O)
    → slots ≡ PLACES * rows → first ≡ row → second ≡ place → (row < rows → PLACES ≤ place)
    → Strays meets (step slots 0 (4 + first) second none) m found q → Misses meets (after_refusal row place) (step slots 0 (4 + first) second none) m found q
stray_leaves meets slots rows row place first second found m q all row_is place_is outside told =
    told row place (ap (λ (k : ℕ). 4 + k) row_is) place_is (λ below. outside (omega (arith, all, below)))

-- a miss at a place of the table, as a call tells of it
pub miss_told : {W I O : Type 0} {g : Ghosts W I O} (b : Board W I O) (d : Desk W I O g) (slots place k : ℕ)
    (miss : Miss) → slots ≡ PLACES * workers_of b → place ≡ k → IsMissAt g.meets slots d.seat.me.0 place miss
    → IsMissOf b d k miss
unfolding IsMissOf
miss_told {W} {I} {O} {g} b d slots place k miss wide is h =
    subst (λ (p : ℕ × ℕ). IsMissAt g.meets p.0 d.seat.me.0 p.1 miss) (λ e. (wide e, is e)) h

-- the steps of a seat that has exactly this slot in hand
module _ {I O : Type 0} (meets : I → O → Type 0) (n seat : ℕ) (m : SeatAt I O) (v : View I) (k : ℕ) (inside : k < n) where
  pub posts_at : (place : ℕ) (x : I) → m ≡ (with_in_hand (k + 1) v, (k, Input x) ∷ []) → IsOwn v k place
      → posted_at place v.desk ≡ None
      → Allows (ObeysRule meets) n seat m k (λ _. 1) (λ _. Posts (step n k 1 0 none) m 1)
  posts_at place x is own free =
      subst (λ (q : SeatAt I O). Allows (ObeysRule meets) n seat q k (λ _. 1) (λ _. Posts (step n k 1 0 none) q 1)) (sym is)
      (posts meets n seat (with_in_hand (k + 1) v) [] k place x inside refl
      (record { number = own.number; below = own.below; row = own.row }) free)

  pub finishes_at : (row place : ℕ) (x : I) (y : O) → m ≡ (with_in_hand (k + 1) v, (k, Output y) ∷ []) → place < PLACES
      → k ≡ number_of row place → entry_at k v.desk.claims ≡ Some x → meets x y
      → Allows (ObeysRule meets) n seat m k (λ _. 3) (λ _. Finishes (step n k 3 0 none) m 3)
  finishes_at row place x y is below number mine fits =
      subst (λ (q : SeatAt I O). Allows (ObeysRule meets) n seat q k (λ _. 3) (λ _. Finishes (step n k 3 0 none) q 3)) (sym is)
      (finishes meets n seat (with_in_hand (k + 1) v) [] k row place x y inside refl below number mine fits)

  pub puts_own_at : (place : ℕ) → m ≡ (v, (k, Nothing) ∷ []) → v.in_hand ≡ k + 1 → IsOwn v k place
      → posted_at place v.desk ≡ None
      → Allows (ObeysRule meets) n seat m k (λ y. y) (PutsBack (step n k 0 0 none) m)
  puts_own_at place is full own free =
      subst (λ (q : SeatAt I O). Allows (ObeysRule meets) n seat q k (λ y. y) (PutsBack (step n k 0 0 none) q)) (sym is)
      (puts_own meets n seat v [] k place inside full own free)

  pub puts_claim_at : (x : I) → m ≡ (v, (k, Nothing) ∷ []) → v.in_hand ≡ k + 1 → entry_at k v.desk.claims ≡ Some x
      → Allows (ObeysRule meets) n seat m k (λ y. y) (PutsBack (step n k 0 0 none) m)
  puts_claim_at x is full mine =
      subst (λ (q : SeatAt I O). Allows (ObeysRule meets) n seat q k (λ y. y) (PutsBack (step n k 0 0 none) q)) (sym is)
      (puts_claim meets n seat v [] k x inside full mine)
