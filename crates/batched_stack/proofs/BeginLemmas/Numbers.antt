-- The stripes that get a piece.
use Rattle.std.proofs.Common.{◌≡◌, ℕ, zero, suc, ◌+◌, ◌<◌, ◌≤◌, Bool, true, false, cond, eqb, ◌||◌, List, [], ◌∷◌, ◌++◌, length, filter, get_or, set, refl, sym, ap, subst, ◌∙◌, arith}
use Rattle.std.specs.List.{range_with_len}
use Rattle.std.proofs.lemmas.Bool.{eqb-true, eqb-false}
use Rattle.std.proofs.lemmas.List.{get_or-set_other}
use Rattle.seq_objects.specs.Objects.{has}
use Rattle.batched_stack.specs.declared.stripe.Stripe.{Stripe}
use Rattle.batched_stack.specs.declared.piece.Piece.{Piece}
use Rattle.batched_stack.specs.Lists.{lists, rooms_in}
use Rattle.batched_stack.specs.Pieces.{numbers_in, or_first}
use Rattle.batched_stack.specs.Code.Begin.{IsTaken, IsSame}
use Rattle.batched_stack.proofs.Basics.{true_not_false}

-- a number of the range that the filter leaves out fails the test
pub not_passed : (p : ℕ → Bool) (j a n : ℕ) → has j (filter p (range_with_len a n)) ≡ false → a ≤ j
    → j < a + n → p j ≡ false
not_passed p j a zero none from below = absurd (omega (arith, from, below))
not_passed p j a (suc n) none from below =
    elim (eqb j a) as (λ e. eqb j a ≡ e → p j ≡ false) [
      | true ↦ λ e. elim (p a) as (λ b. p a ≡ b → has j (cond b (a ∷ filter p (range_with_len (a + 1) n)) (filter p (range_with_len (a + 1) n))) ≡ false → p j ≡ false) [
        | true ↦ λ passes h. absurd (true_not_false (sym (ap (λ b. b || has j (filter p (range_with_len (a + 1) n))) e) ∙ h))
        | false ↦ λ fails h. ap p (eqb-true j a e) ∙ fails
      ] refl none
      | false ↦ λ e. elim (p a) as (λ b. has j (cond b (a ∷ filter p (range_with_len (a + 1) n)) (filter p (range_with_len (a + 1) n))) ≡ false → p j ≡ false) [
        | true ↦ λ h. not_passed p j (a + 1) n (sym (ap (λ b. b || has j (filter p (range_with_len (a + 1) n))) e) ∙ h) (let other = eqb-false j a e in omega (arith, from, other)) (omega (arith, below))
        | false ↦ λ h. not_passed p j (a + 1) n h (let other = eqb-false j a e in omega (arith, from, other)) (omega (arith, below))
      ] none
    ] refl

-- if some stripe has calls, the stripes with calls are those that get a piece
pub some_called : (pieces : List Piece) (called : List ℕ) → numbers_in pieces ≡ called
    → 0 < length pieces → numbers_in pieces ≡ or_first called
some_called [] called is some = absurd (omega (arith, some))
some_called (piece ∷ pieces) called is some = subst (λ (js : List ℕ). numbers_in (piece ∷ pieces) ≡ or_first js) is refl

none_there : (pieces : List Piece) → length pieces ≡ 0 → pieces ≡ []
none_there [] none = refl
none_there (piece ∷ pieces) none = absurd (omega (arith, none))

-- if none has, stripe 0 gets one
pub none_called : (now : List Stripe) (pieces more : List Piece) (called puts : List ℕ) (takes : ℕ)
    → numbers_in pieces ≡ called → length pieces ≡ 0
    → (piece : Piece) × (more ≡ pieces ++ piece ∷ []) × IsTaken now 0 puts takes piece
    → (called ≡ []) × (numbers_in more ≡ 0 ∷ [])
none_called now pieces more called puts takes is none (piece, is_more, has) =
    let empty = none_there pieces none in
    (sym is ∙ ap numbers_in empty, ap numbers_in is_more ∙ ap (λ ps. numbers_in (ps ++ piece ∷ [])) empty ∙ ap (λ k. k ∷ []) has.number)

pub same_but_first : (old now new : List Stripe) (j : ℕ) → IsSame old now j
    → lists new ≡ set (lists now) 0 [] → ((i : ℕ) → (i ≡ 0 → ⊥)
    → get_or (rooms_in new) i 0 ≡ get_or (rooms_in now) i 0) → (j ≡ 0 → ⊥) → IsSame old new j
same_but_first old now new j same new_lists new_rooms other = record {
  items = ap (λ ls. get_or ls j []) new_lists ∙ get_or-set_other (lists now) 0 j [] [] other ∙ same.items;
  room = new_rooms j other ∙ same.room;
}

pub not_first : (j : ℕ) (js : List ℕ) → js ≡ 0 ∷ [] → has j js ≡ false → j ≡ 0 → ⊥
not_first j js is none first = true_not_false (subst (λ k. has k (0 ∷ []) ≡ false) first (subst (λ (ks : List ℕ). has j ks ≡ false) is none))

pub first_alone : (called js : List ℕ) → called ≡ [] → js ≡ 0 ∷ [] → js ≡ or_first called
first_alone called js none is = is ∙ sym (ap or_first none)

pub none_has : (j : ℕ) (called : List ℕ) → called ≡ [] → has j called ≡ false
none_has j called none = ap (has j) none
