-- Each stripe after a batch.
use Rattle.std.proofs.Common.{◌≡◌, ◌≢◌, ℕ, ◌+◌, ◌-◌, ◌<◌, ◌≤◌, inl, inr, true, false, eqb, ◌||◌, List, [], ◌∷◌, ◌++◌, length, take, drop, reverse, map, filter, get_or, set, refl, sym, ap, subst, ◌∙◌, append-nil, length-append, length-set, arith}
use Rattle.std.specs.List.{AllByRecursion, range_with_len}
use Rattle.std.proofs.lemmas.Bool.{eqb-true, eqb-false, ltb-false}
use Rattle.std.proofs.lemmas.List.{get_or-set_other, get_or-set_same}
use Rattle.seq_objects.specs.Objects.{has}
use Rattle.seq_objects.specs.Pieces.{AllMeet, BatchContext}
use Rattle.batched_stack.specs.declared.piece.Piece.{Piece}
use Rattle.batched_stack.specs.declared.piece.Served.{Served}
use Rattle.batched_stack.specs.declared.piece.Rest.{Rest}
use Rattle.batched_stack.specs.Calls.{pushes_of, pops_of}
use Rattle.batched_stack.specs.Stripes.{StackView, stripe, stripe_length}
use Rattle.batched_stack.specs.Rooms.{NeedsRoom, IsNext}
use Rattle.batched_stack.specs.Pieces.{pushes_to, pops_from, is_called, or_first, numbers_in, IsPieceOf, Meets, IsContextOf}
use Rattle.batched_stack.specs.Code.End.{with_outs}
use Rattle.batched_stack.proofs.BeginLemmas.Numbers.{not_passed}
use Rattle.batched_stack.proofs.BeginLemmas.Parts.{pops_from_is, pushes_to_is}
use Rattle.batched_stack.proofs.StripeLemmas.Striped.{length_stripe, stripe_append}

-- what holds of each out for a stripe, and of the stripe where there is none, holds of what is put there
pub placed_at : {X : Type 0} (part : Served → X) (d : X) (Good : X
    → Type 0) (j : ℕ) (xs : List X) (outs : List Served) → j < length xs
    → AllByRecursion (λ out. out.number ≡ j → Good (part out)) outs
    → (has j (map (λ out. out.number) outs) ≡ false → Good (get_or xs j d))
    → Good (get_or (with_outs part xs outs) j d)
placed_at part d Good j xs [] within each stays = stays refl
placed_at part d Good j xs (out ∷ outs) within each stays =
    let ys = set xs out.number (part out) in
    placed_at part d Good j ys outs (rw (length-set xs out.number (part out)) within) each.1 (λ none.
    elim (eqb j out.number) as (λ b. eqb j out.number ≡ b → Good (get_or ys j d)) [
      | true ↦ λ e.
          let is = eqb-true j out.number e in
          let at : get_or ys j d ≡ part out = ap (λ k. get_or (set xs k (part out)) j d) (sym is) ∙ get_or-set_same xs j (part out) d within in
          subst Good (sym at) (each.0 (sym is))
      | false ↦ λ e.
          let other : j ≢ out.number = eqb-false j out.number e in
          subst Good (sym (get_or-set_other xs out.number j (part out) d other)) (stays (ap (λ b. b || has j (map (λ (o : Served). o.number) outs)) e ∙ none))
    ] refl)

-- a room that the rule gave does not need to change
pub next_stays : (room len new : ℕ) → IsNext room len new → NeedsRoom new len → ⊥
next_stays room len new (inr (stays, is)) needs = stays (subst (λ (r : ℕ). NeedsRoom r len) is needs)
next_stays room len new (inl (out, fresh)) (inl short) = absurd (omega (arith, fresh.enough, short))
next_stays room len new (inl (out, fresh)) (inr (big, small)) = elim fresh.least [ inl is ↦ absurd (omega (arith, is, big)) | inr less ↦ absurd (omega (arith, less, small)) ]

-- the items with the pushed ones, and how many remain after the pops
abbrev pub all_items : BatchContext StackView Piece → List ℕ
all_items o = o.before.items ++ pushes_of o.calls

abbrev pub left_of : BatchContext StackView Piece → ℕ
left_of o = length (all_items o) - pops_of o.calls

-- stripe j after the batch
pub record HasLeft (o : BatchContext StackView Piece) (j : ℕ) (list : List ℕ) : Type 0 where
  pub is : list ≡ take (stripe_length j (left_of o)) (stripe j (all_items o))

abbrev pub HasTaken : BatchContext StackView Piece → ℕ → List ℕ → Type 0
HasTaken o j list = list ≡ reverse (drop (stripe_length j (left_of o)) (stripe j (all_items o)))

abbrev pub HasRoom : BatchContext StackView Piece → ℕ → ℕ → Type 0
HasRoom o j room = IsNext (get_or o.before.rooms j 0) (stripe_length j (left_of o)) room

pub record IsOutcome (o : BatchContext StackView Piece) (out : Served) : Type 0 where
  pub left : HasLeft o out.number out.stripe.items.items
  pub taken : HasTaken o out.number out.popped.items
  pub room : HasRoom o out.number out.stripe.room

pushed_onto : (o : BatchContext StackView Piece) (j : ℕ) → j < 16
    → stripe j (all_items o) ≡ stripe j o.before.items ++ pushes_to j (length o.before.items) (pushes_of o.calls)
pushed_onto o j low = stripe_append j o.before.items (pushes_of o.calls) low ∙ ap (λ xs. stripe j o.before.items ++ xs) (sym (pushes_to_is j (length o.before.items) (pushes_of o.calls) low))

fewer : (j n k : ℕ)
    → stripe_length j n - (stripe_length j n - stripe_length j (n - k)) ≡ stripe_length j (n - k)
fewer j n k = omega arith

left_in : (o : BatchContext StackView Piece) (j : ℕ) → j < 16
    → length (stripe j (all_items o)) - pops_from j (length o.before.items + length (pushes_of o.calls)) (pops_of o.calls) ≡ stripe_length j (left_of o)
left_in o j low =
    let long = length_stripe j (all_items o) in
    let all = length-append o.before.items (pushes_of o.calls) in
    rw (long, pops_from_is j (length o.before.items + length (pushes_of o.calls)) (pops_of o.calls) low, all) (fewer j (length o.before.items + length (pushes_of o.calls)) (pops_of o.calls))

outcome : (o : BatchContext StackView Piece) (piece : Piece) (out : Served)
    → IsPieceOf o.before (pushes_of o.calls) (pops_of o.calls) piece → Meets piece out → IsOutcome o out
outcome o piece out of meets =
    let j = out.number in
    let low = out.low in
    let own : piece.stripe.items.items ++ piece.pushes.items ≡ stripe j (all_items o) = ap (λ xs. xs ++ piece.pushes.items) of.items ∙ ap (λ xs. stripe piece.number o.before.items ++ xs) of.pushes ∙ ap (λ k. stripe k o.before.items ++ pushes_to k (length o.before.items) (pushes_of o.calls)) (sym meets.number) ∙ sym (pushed_onto o j low) in
    let pops : piece.pops ≡ pops_from j (length o.before.items + length (pushes_of o.calls)) (pops_of o.calls) = of.pops ∙ ap (λ k. pops_from k (length o.before.items + length (pushes_of o.calls)) (pops_of o.calls)) (sym meets.number) in
    let left : length (piece.stripe.items.items ++ piece.pushes.items) - piece.pops ≡ stripe_length j (left_of o) = ap (λ xs. length xs - piece.pops) own ∙ ap (λ k. length (stripe j (all_items o)) - k) pops ∙ left_in o j low in
    let items : out.stripe.items.items ≡ take (stripe_length j (left_of o)) (stripe j (all_items o)) = meets.items ∙ ap (λ k. take k (piece.stripe.items.items ++ piece.pushes.items)) left ∙ ap (take (stripe_length j (left_of o))) own in
    let short : stripe_length j (left_of o) ≤ length (stripe j (all_items o)) = rw (length_stripe j (all_items o)) (omega arith) in
    let long : length out.stripe.items.items ≡ stripe_length j (left_of o) = ap length items ∙ Rattle.std.proofs.Common.length-take-le (stripe_length j (left_of o)) (stripe j (all_items o)) short in
    record {
      left = record { is = items };
      taken = meets.popped ∙ ap (λ k. reverse (drop k (piece.stripe.items.items ++ piece.pushes.items))) left ∙ ap (λ xs. reverse (drop (stripe_length j (left_of o)) xs)) own;
      room = subst (λ (n : ℕ). IsNext (get_or o.before.rooms j 0) n out.stripe.room) long (subst (λ (r : ℕ). IsNext r (length out.stripe.items.items) out.stripe.room) (of.room ∙ ap (λ k. get_or o.before.rooms k 0) (sym meets.number)) meets.room);
    }

pub outcomes : (o : BatchContext StackView Piece) (ins : List Piece) (outs : List Served)
    → AllByRecursion (IsPieceOf o.before (pushes_of o.calls) (pops_of o.calls)) ins → AllMeet Meets ins outs
    → AllByRecursion (IsOutcome o) outs × (map (λ out. out.number) outs ≡ numbers_in ins)
outcomes o [] [] each meet = (tt, refl)
outcomes o [] (out ∷ outs) each meet = absurd meet
outcomes o (piece ∷ ins) [] each meet = absurd meet
outcomes o (piece ∷ ins) (out ∷ outs) each meet =
    let later = outcomes o ins outs each.1 meet.1 in
    ((outcome o piece out each.0 meet.0, later.0), ap (λ k. k ∷ map (λ (x : Served). x.number) outs) meet.0.number ∙ ap (λ ks. piece.number ∷ ks) later.1)

no_first : (j : ℕ) (js : List ℕ) → has j (or_first js) ≡ false → has j js ≡ false
no_first j [] none = refl
no_first j (k ∷ js) none = none

nothing_in : (xs : List ℕ) (n : ℕ) → Rattle.std.specs.Prelude.nat_lt 0 (length xs + n) ≡ false
    → (xs ≡ []) × (n ≡ 0)
nothing_in [] n none = let no = ltb-false 0 (0 + n) none in (refl, omega (arith, no))
nothing_in (x ∷ xs) n none = let no = ltb-false 0 (length (x ∷ xs) + n) none in absurd (omega (arith, no))

-- a stripe without calls is unchanged
pub idle : (rest : Rest) (o : BatchContext StackView Piece) → IsContextOf rest o → (j : ℕ) → j < 16
    → has j (numbers_in o.ins) ≡ false
    → (stripe j (all_items o) ≡ stripe j o.before.items) × (stripe_length j (left_of o) ≡ length (stripe j (all_items o))) × (stripe_length j (left_of o) ≡ stripe_length j (length o.before.items))
idle rest o r j low none =
    let n = length o.before.items in
    let puts = pushes_of o.calls in
    let called = filter (is_called n puts (pops_of o.calls)) (range_with_len 0 16) in
    let none' : has j called ≡ false = no_first j called (ap (has j) (sym r.cut.numbers) ∙ none) in
    let quiet = not_passed (is_called n puts (pops_of o.calls)) j 0 16 none' (omega arith) (omega (arith, low)) in
    let nothing = nothing_in (pushes_to j n puts) (pops_from j (n + length puts) (pops_of o.calls)) quiet in
    let same : stripe j (all_items o) ≡ stripe j o.before.items = pushed_onto o j low ∙ ap (λ xs. stripe j o.before.items ++ xs) nothing.0 ∙ append-nil (stripe j o.before.items) in
    let left = left_in o j low in
    let all : stripe_length j (left_of o) ≡ length (stripe j (all_items o)) = omega (arith, left, nothing.1) in
    (same, all, all ∙ ap length same ∙ length_stripe j o.before.items)
