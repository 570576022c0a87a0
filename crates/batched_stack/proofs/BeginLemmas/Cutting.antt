-- Cutting stripe by stripe.
use Rattle.std.proofs.Common.{◌≡◌, ℕ, zero, suc, ◌+◌, ◌<◌, true, false, cond, List, [], ◌∷◌, ◌++◌, length, filter, get_or, set, sym, ap, subst, ◌∙◌, append-nil, arith}
use Rattle.std.specs.List.{AllByRecursion, range_with_len}
use Rattle.std.proofs.lemmas.List.{map-append, get_or-set_other}
use Rattle.std.proofs.lemmas.List.Elements.{filter-append}
use Rattle.batched_stack.specs.declared.stripe.Stripe.{Stripe}
use Rattle.batched_stack.specs.declared.piece.Piece.{Piece}
use Rattle.batched_stack.specs.Lists.{lists, rooms_in}
use Rattle.batched_stack.specs.Pieces.{pushes_to, pops_from, is_called, numbers_in}
use Rattle.batched_stack.specs.Code.Begin.{IsCutOf, IsTaken, IsSame}
use Rattle.batched_stack.proofs.Basics.{true_not_false}
use Rattle.seq_objects.proofs.Elements.{each_push}

range_last : (a n : ℕ) → range_with_len a (suc n) ≡ range_with_len a n ++ (a + n) ∷ []
range_last a zero = let same : a ≡ a + 0 = omega arith in ap (λ k. k ∷ []) same
range_last a (suc n) =
    let same : a + 1 + n ≡ a + suc n = omega arith in
    ap (λ l. a ∷ l) (range_last (a + 1) n ∙ ap (λ k. range_with_len (a + 1) n ++ k ∷ []) same)

-- the stripes below the number are cut; the others, and those that no piece has, are unchanged
pub record IsCutBelow (old : List Stripe) (n : ℕ) (puts : List ℕ) (takes number : ℕ) (new : List Stripe) (pieces : List Piece) : Type 0 where
  pub numbers : numbers_in pieces ≡ filter (is_called n puts takes) (range_with_len 0 number)
  pub each : AllByRecursion (IsCutOf old n puts takes) pieces
  pub kept : (j : ℕ) → (j < number → is_called n puts takes j ≡ false) → IsSame old new j

called_more : (n : ℕ) (puts : List ℕ) (takes number : ℕ)
    → filter (is_called n puts takes) (range_with_len 0 (number + 1)) ≡ filter (is_called n puts takes) (range_with_len 0 number) ++ cond (is_called n puts takes number) (number ∷ []) []
called_more n puts takes number =
    let on : number + 1 ≡ suc number = omega arith in
    let zero_more : 0 + number ≡ number = omega arith in
    ap (λ k. filter (is_called n puts takes) (range_with_len 0 k)) on
    ∙ ap (filter (is_called n puts takes)) (range_last 0 number ∙ ap (λ k. range_with_len 0 number ++ k ∷ []) zero_more)
    ∙ filter-append (is_called n puts takes) (range_with_len 0 number) (number ∷ [])

-- a stripe without calls is not taken
pub skip : (old new : List Stripe) (n : ℕ) (puts : List ℕ) (takes number : ℕ) (pieces : List Piece)
    → IsCutBelow old n puts takes number new pieces → is_called n puts takes number ≡ false
    → IsCutBelow old n puts takes (number + 1) new pieces
skip old new n puts takes number pieces cut none = record {
  numbers = cut.numbers ∙ sym (called_more n puts takes number ∙ ap (λ b. filter (is_called n puts takes) (range_with_len 0 number) ++ cond b (number ∷ []) []) none ∙ append-nil (filter (is_called n puts takes) (range_with_len 0 number)));
  each = cut.each;
  kept = λ j same. cut.kept j (λ less. same (omega (arith, less)));
}

-- a stripe with calls moves to a piece
pub take_out : (old now new : List Stripe) (n : ℕ) (puts : List ℕ) (takes number : ℕ) (pieces more : List Piece) (mine : List ℕ) (taken : ℕ)
    → IsCutBelow old n puts takes number now pieces → is_called n puts takes number ≡ true
    → mine ≡ pushes_to number n puts → taken ≡ pops_from number (n + length puts) takes
    → lists new ≡ set (lists now) number [] → ((j : ℕ) → (j ≡ number → ⊥)
    → get_or (rooms_in new) j 0 ≡ get_or (rooms_in now) j 0)
    → (piece : Piece) × (more ≡ pieces ++ piece ∷ []) × IsTaken now number mine taken piece
    → IsCutBelow old n puts takes (number + 1) new more
take_out old now new n puts takes number pieces more mine taken cut called is_mine is_taken new_lists new_rooms (piece, is_more, has) =
    let here = cut.kept number (λ less. absurd (omega (arith, less))) in
    let others : (j : ℕ) → (j < number + 1 → is_called n puts takes j ≡ false) → j ≡ number → ⊥ = λ j same e. true_not_false (sym called ∙ subst (λ k. is_called n puts takes k ≡ false) e (same (omega (arith, e)))) in
    let own : IsCutOf old n puts takes piece = record {
      items = has.items ∙ here.items ∙ ap (λ k. get_or (lists old) k []) (sym has.number);
      room = has.room ∙ here.room ∙ ap (λ k. get_or (rooms_in old) k 0) (sym has.number);
      pushes = has.pushes ∙ is_mine ∙ ap (λ k. pushes_to k n puts) (sym has.number);
      pops = has.pops ∙ is_taken ∙ ap (λ k. pops_from k (n + length puts) takes) (sym has.number);
    } in
    record {
      numbers = ap numbers_in is_more ∙ map-append (λ (p : Piece). p.number) pieces (piece ∷ []) ∙ ap (λ k. numbers_in pieces ++ k ∷ []) has.number ∙ ap (λ ks. ks ++ number ∷ []) cut.numbers ∙ sym (called_more n puts takes number ∙ ap (λ b. filter (is_called n puts takes) (range_with_len 0 number) ++ cond b (number ∷ []) []) called);
      each = rw is_more (each_push (IsCutOf old n puts takes) pieces piece cut.each own);
      kept = λ j same.
          let before = cut.kept j (λ less. same (omega (arith, less))) in
          record {
            items = ap (λ ls. get_or ls j []) new_lists ∙ get_or-set_other (lists now) number j [] [] (others j same) ∙ before.items;
            room = new_rooms j (others j same) ∙ before.room;
          };
    }
