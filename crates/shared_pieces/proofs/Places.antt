-- Inputs at the places of a row: they are posted one after another, and collected in their order.
use Rattle.std.proofs.Common.{◌≡◌, ℕ, zero, suc, ◌+◌, ◌<◌, ◌≤◌, None, List, [], ◌∷◌, ◌++◌, length, take, drop, get_or, sym, refl, ap, ◌∙◌, subst, arith}
use Rattle.std.proofs.lemmas.Bool.Decides.{nat_tests}
use Rattle.std.specs.Prelude.{zip}
use Rattle.piece_board.specs.Entries.{entry_at}
use Rattle.shared_pieces.specs.Batches.{AllMeet}
use Rattle.shared_pieces.specs.Rows.{placed_from}

module _ {In : Type 0} where
  -- the place after the last of them is free
  pub next_free : (place : ℕ) (ins : List In) (next : ℕ) → place + length ins ≤ next → entry_at next (placed_from place ins) ≡ None
  next_free place [] next far = refl
  next_free place (input ∷ ins) next far =
      let there = next_free (place + 1) ins next (omega (arith, far)) in
      let less : place < next = omega (arith, far) in
      grind (arith, nat_tests, less, there)

  -- one more is placed
  placed_more : (place : ℕ) (ins : List In) (input : In) → placed_from place (ins ++ input ∷ []) ≡ placed_from place ins ++ (place + length ins, input) ∷ []
  placed_more place [] input = let same : place ≡ place + 0 = omega arith in ap (λ (n : ℕ). (n, input) ∷ []) same
  placed_more place (x ∷ ins) input =
      let same : place + 1 + length ins ≡ place + suc (length ins) = omega arith in
      ap (λ l. (place, x) ∷ l) (placed_more (place + 1) ins input ∙ ap (λ (n : ℕ). placed_from (place + 1) ins ++ (n, input) ∷ []) same)

  -- what stands at a number: the first that is not collected
  at_place : (place : ℕ) (ins : List In) (k : ℕ) → k < length ins
      → (input : In) × (drop k (placed_from place ins) ≡ (place + k, input) ∷ drop (suc k) (placed_from place ins)) × (take (suc k) ins ≡ take k ins ++ input ∷ []) × (input ≡ get_or ins k input)
  at_place place [] k within = absurd (omega (arith, within))
  at_place place (x ∷ ins) zero within =
      let same : place ≡ place + 0 = omega arith in
      (x, ap (λ (n : ℕ). (n, x) ∷ placed_from (place + 1) ins) same, refl, refl)
  at_place place (x ∷ ins) (suc k) within =
      let r = at_place (place + 1) ins k (omega (arith, within)) in
      let same : place + 1 + k ≡ place + suc k = omega arith in
      (r.0, r.1 ∙ ap (λ (n : ℕ). (n, r.0) ∷ drop (suc k) (placed_from (place + 1) ins)) same, ap (λ l. x ∷ l) r.2, r.3)

  -- the same of the places from 0 on
  pub at_number : (ins : List In) (k : ℕ) → k < length ins
      → (input : In) × (drop k (placed_from 0 ins) ≡ (k, input) ∷ drop (suc k) (placed_from 0 ins)) × (take (suc k) ins ≡ take k ins ++ input ∷ []) × (input ≡ get_or ins k input)
  at_number ins k within =
      let r = at_place 0 ins k within in
      let same : 0 + k ≡ k = omega arith in
      (r.0, r.1 ∙ ap (λ (n : ℕ). (n, r.0) ∷ drop (suc k) (placed_from 0 ins)) same, r.2, r.3)

  pub placed_next : (ins : List In) (input : In) (place : ℕ) → place ≡ length ins → placed_from 0 (ins ++ input ∷ []) ≡ placed_from 0 ins ++ (place, input) ∷ []
  placed_next ins input place is =
      let same : 0 + length ins ≡ place = omega (arith, is) in
      placed_more 0 ins input ∙ ap (λ (n : ℕ). placed_from 0 ins ++ (n, input) ∷ []) same

  pub placed_long : (place : ℕ) (ins : List In) → length (placed_from place ins) ≡ length ins
  placed_long place [] = refl
  placed_long place (x ∷ ins) = ap suc (placed_long (place + 1) ins)

  -- whatever inputs are said to stand there, they are these
  pub placed_same : (place : ℕ) (ins others : List In) → placed_from place ins ≡ placed_from place others → ins ≡ others
  placed_same place [] [] is = refl
  placed_same place [] (y ∷ others) is = absurd (cc)
  placed_same place (x ∷ ins) [] is = absurd (cc)
  placed_same place (x ∷ ins) (y ∷ others) is =
      let head : x ≡ y = ap (λ (l : List (ℕ × In)). (get_or l 0 (0, x)).1) is in
      let tail : placed_from (place + 1) ins ≡ placed_from (place + 1) others = ap (drop 1) is in
      ap (λ z. z ∷ ins) head ∙ ap (λ l. y ∷ l) (placed_same (place + 1) ins others tail)

pub all_dropped : {X : Type 0} (xs : List X) (n : ℕ) → length xs ≤ n → drop n xs ≡ []
all_dropped [] zero is = refl
all_dropped [] (suc n) is = refl
all_dropped (x ∷ xs) zero is = absurd (omega (arith, is))
all_dropped (x ∷ xs) (suc n) is = all_dropped xs n (omega (arith, is))

pub all_taken : {X : Type 0} (xs : List X) (n : ℕ) → length xs ≤ n → take n xs ≡ xs
all_taken [] zero is = refl
all_taken [] (suc n) is = refl
all_taken (x ∷ xs) zero is = absurd (omega (arith, is))
all_taken (x ∷ xs) (suc n) is = ap (λ l. x ∷ l) (all_taken xs n (omega (arith, is)))

module _ {In Out : Type 0} (meets : In → Out → Type 0) where
  -- one more output meets one more input
  meet_more : (ins : List In) (outs : List Out) (input : In) (out : Out) → AllMeet meets ins outs → meets input out → AllMeet meets (ins ++ input ∷ []) (outs ++ out ∷ [])
  meet_more [] [] input out all one = (one, tt)
  meet_more [] (o ∷ outs) input out all one = absurd all
  meet_more (i ∷ ins) [] input out all one = absurd all
  meet_more (i ∷ ins) (o ∷ outs) input out all one = (all.0, meet_more ins outs input out all.1 one)

  -- one more output was collected, which meets its input
  pub met_next : (ins : List In) (k : ℕ) (input : In) (outs after : List Out) (out : Out) → take (suc k) ins ≡ take k ins ++ input ∷ []
      → AllMeet meets (take k ins) outs → meets input out → after ≡ outs ++ out ∷ [] → AllMeet meets (take (k + 1) ins) after
  met_next ins k input outs after out more all one pushed =
      let next : suc k ≡ k + 1 = omega arith in
      subst (λ (l : List In). AllMeet meets l after) (sym more ∙ ap (λ (n : ℕ). take n ins) next)
      (subst (λ (l : List Out). AllMeet meets (take k ins ++ input ∷ []) l) (sym pushed) (meet_more (take k ins) outs input out all one))

-- a pair of two lists has the items of its place
pub pair_at : {A B : Type 0} (xs : List A) (ys : List B) (k : ℕ) (p : A × B) → length xs ≡ length ys → k < length xs → p ≡ get_or (zip xs ys) k p
    → (p.0 ≡ get_or xs k p.0) × (p.1 ≡ get_or ys k p.1)
pair_at [] ys k p long within is = absurd (omega (arith, within))
pair_at (x ∷ xs) [] k p long within is = absurd (omega (arith, long))
pair_at (x ∷ xs) (y ∷ ys) zero p long within is = (ap (λ q. q.0) is, ap (λ q. q.1) is)
pair_at (x ∷ xs) (y ∷ ys) (suc k) p long within is = pair_at xs ys k p (omega (arith, long)) (omega (arith, within)) is

pub pairs_long : {A B : Type 0} (xs : List A) (ys : List B) → length xs ≡ length ys → length (zip xs ys) ≡ length xs
pairs_long [] ys long = refl
pairs_long (x ∷ xs) [] long = absurd (omega (arith, long))
pairs_long (x ∷ xs) (y ∷ ys) long = ap suc (pairs_long xs ys (omega (arith, long)))
