-- The stripes after the end are those of the items that serving the calls one after another leaves.
use Rattle.std.proofs.Common.{◌≡◌, ℕ, ◌+◌, ◌-◌, ◌<◌, ◌≤◌, inr, false, List, [], ◌∷◌, ◌++◌, length, take, drop, reverse, map, replicate, get_or, sym, ap, subst, ◌∙◌, length-append, length-take-le, arith}
use Rattle.std.specs.List.{AllByRecursion}
use Rattle.std.proofs.lemmas.List.{get_or-replicate, length-map, length-drop, length-reverse}
use Rattle.seq_objects.specs.declared.reply.Reply.TheVariants as reply
use Rattle.seq_objects.specs.Objects.{has}
use Rattle.seq_objects.specs.Pieces.{AllMeet, BatchContext}
use Rattle.seq_objects.specs.Serial.{replies_to_all, after_all, of_stack}
use Rattle.batched_stack.specs.declared.stripe.Stripe.{Stripe}
use Rattle.batched_stack.specs.declared.piece.Piece.{Piece}
use Rattle.batched_stack.specs.declared.piece.Served.{Served}
use Rattle.batched_stack.specs.declared.piece.Rest.{Rest}
use Rattle.batched_stack.specs.Calls.{pushes_of, pops_of}
use Rattle.batched_stack.specs.Stripes.{StackView, stripe, stripe_length, items_of}
use Rattle.batched_stack.specs.Lists.{lists, rooms_in}
use Rattle.batched_stack.specs.Rooms.{NeedsRoom, IsNext, AreNext}
use Rattle.batched_stack.specs.Pieces.{numbers_in, Meets, IsContextOf}
use Rattle.batched_stack.specs.Code.End.{with_outs, HavePopped, number_replies, stack_replies}
use Rattle.batched_stack.specs.Code.Invariant.{StackInvariant}
use Rattle.batched_stack.proofs.EndLemmas.Final.{placed_at, next_stays, all_items, left_of, HasLeft, HasTaken, HasRoom, IsOutcome, outcomes, idle}
use Rattle.batched_stack.proofs.Serial.{serial_replies, serial_after}
use Rattle.batched_stack.proofs.StripeLemmas.Striped.{length_stripe, stripe_take}
use Rattle.batched_stack.proofs.EndLemmas.Tops.{pop_replies_are, back, back_is}
use Rattle.batched_stack.proofs.StripeLemmas.Whole.{items_from}
use Rattle.batched_stack.proofs.Basics.{whole_take, whole_drop}

each_left : (o : BatchContext StackView Piece) (outs : List Served) (j : ℕ)
    → AllByRecursion (IsOutcome o) outs → AllByRecursion (λ out. out.number ≡ j
    → HasLeft o j out.stripe.items.items) outs
each_left o [] j all = tt
each_left o (out ∷ outs) j all = (λ is. subst (λ (k : ℕ). HasLeft o k out.stripe.items.items) is all.0.left, each_left o outs j all.1)

each_taken : (o : BatchContext StackView Piece) (outs : List Served) (j : ℕ)
    → AllByRecursion (IsOutcome o) outs → AllByRecursion (λ out. out.number ≡ j
    → HasTaken o j out.popped.items) outs
each_taken o [] j all = tt
each_taken o (out ∷ outs) j all = (λ is. subst (λ (k : ℕ). HasTaken o k out.popped.items) is all.0.taken, each_taken o outs j all.1)

each_room : (o : BatchContext StackView Piece) (outs : List Served) (j : ℕ)
    → AllByRecursion (IsOutcome o) outs → AllByRecursion (λ out. out.number ≡ j
    → HasRoom o j out.stripe.room) outs
each_room o [] j all = tt
each_room o (out ∷ outs) j all = (λ is. subst (λ (k : ℕ). HasRoom o k out.stripe.room) is all.0.room, each_room o outs j all.1)

module _ (rest : Rest) (o : BatchContext StackView Piece) (outs : List Served) (r : IsContextOf rest o) (m : AllMeet Meets o.ins outs) where
  all_outcomes : AllByRecursion (IsOutcome o) outs × (map (λ out. out.number) outs ≡ numbers_in o.ins)
  all_outcomes = outcomes o o.ins outs r.cut.each m

  no_piece : (j : ℕ) → has j (map (λ (out : Served). out.number) outs) ≡ false
      → has j (numbers_in o.ins) ≡ false
  no_piece j none = ap (has j) (sym all_outcomes.1) ∙ none

  pub left_at : (j : ℕ) → j < 16
      → HasLeft o j (get_or (with_outs (λ (out : Served). out.stripe.items.items) (lists rest.stripes.items) outs) j [])
  left_at j low = placed_at (λ (out : Served). out.stripe.items.items) [] (HasLeft o j) j (lists rest.stripes.items) outs (rw (length-map rest.stripes.items (λ (s : Stripe). s.items.items)) (omega (arith, low, r.sixteen))) (each_left o outs j all_outcomes.0) (λ none.
      let quiet = idle rest o r j low (no_piece j none) in
      record { is = (r.kept j low (no_piece j none)).items ∙ sym quiet.0 ∙ sym (whole_take (stripe j (all_items o)) (stripe_length j (left_of o)) quiet.1) })

  pub taken_at : (j : ℕ) → j < 16
      → HasTaken o j (get_or (with_outs (λ (out : Served). out.popped.items) (replicate 16 []) outs) j [])
  taken_at j low = placed_at (λ (out : Served). out.popped.items) [] (HasTaken o j) j (replicate 16 []) outs low (each_taken o outs j all_outcomes.0) (λ none.
      let quiet = idle rest o r j low (no_piece j none) in
      get_or-replicate 16 j [] [] low ∙ sym (ap reverse (whole_drop (stripe j (all_items o)) (stripe_length j (left_of o)) quiet.1)))

  pub room_at : (j : ℕ) → j < 16
      → HasRoom o j (get_or (with_outs (λ (out : Served). out.stripe.room) (rooms_in rest.stripes.items) outs) j 0)
  room_at j low = placed_at (λ (out : Served). out.stripe.room) 0 (HasRoom o j) j (rooms_in rest.stripes.items) outs (rw (length-map rest.stripes.items (λ (s : Stripe). s.room)) (omega (arith, low, r.sixteen))) (each_room o outs j all_outcomes.0) (λ none.
      let quiet = idle rest o r j low (no_piece j none) in
      inr (subst (λ (n : ℕ). NeedsRoom (get_or o.before.rooms j 0) n → ⊥) (sym quiet.2) (r.settled j low), (r.kept j low (no_piece j none)).room))

  pub total : length (all_items o) ≡ rest.count + rest.pushes
  total = length-append o.before.items (pushes_of o.calls) ∙ (omega (arith, r.count, r.pushes))

  pub left : left_of o ≡ rest.count + rest.pushes - rest.pops
  left = omega (arith, total, r.pops)

  few_left : left_of o ≤ length (all_items o)
  few_left = omega arith

  pub popped_long : (popped : List (List ℕ))
      → popped ≡ with_outs (λ (out : Served). out.popped.items) (replicate 16 []) outs
      → HavePopped popped (rest.count + rest.pushes) (rest.count + rest.pushes - rest.pops)
  popped_long popped is j low =
      let all = stripe j (all_items o) in
      let a = stripe_length j (left_of o) in
      let here : get_or popped j [] ≡ reverse (drop a all) = ap (λ ps. get_or ps j []) is ∙ taken_at j low in
      let long : length (get_or popped j []) ≡ length all - a = ap length here ∙ length-reverse (drop a all) ∙ length-drop a all in
      long ∙ ap (λ n. n - a) (length_stripe j (all_items o)) ∙ ap (λ n. stripe_length j n - a) total ∙ ap (λ n. stripe_length j (rest.count + rest.pushes) - stripe_length j n) left

  each_stripe : (stripes : List (List ℕ))
      → stripes ≡ with_outs (λ (out : Served). out.stripe.items.items) (lists rest.stripes.items) outs
      → (j : ℕ) → j < 16 → get_or stripes j [] ≡ stripe j (take (left_of o) (all_items o))
  each_stripe stripes is j low = ap (λ ls. get_or ls j []) is ∙ (left_at j low).is ∙ sym (stripe_take j (left_of o) (all_items o) few_left)

  items_long : length (take (left_of o) (all_items o)) ≡ left_of o
  items_long = length-take-le (left_of o) (all_items o) few_left

  pub items_are : (stripes : List (List ℕ))
      → stripes ≡ with_outs (λ (out : Served). out.stripe.items.items) (lists rest.stripes.items) outs
      → items_of stripes (rest.count + rest.pushes - rest.pops) ≡ take (left_of o) (all_items o)
  items_are stripes is = ap (items_of stripes) (sym (items_long ∙ left)) ∙ items_from stripes (take (left_of o) (all_items o)) (each_stripe stripes is)

  pub content_is : (stripes : List (List ℕ))
      → stripes ≡ with_outs (λ (out : Served). out.stripe.items.items) (lists rest.stripes.items) outs
      → of_stack (items_of stripes (rest.count + rest.pushes - rest.pops)) ≡ after_all (of_stack o.before.items) o.calls
  content_is stripes is = ap of_stack (items_are stripes is) ∙ sym (serial_after o.before.items o.calls r.may r.batch.order)

  pub rooms_are : (rooms : List ℕ)
      → rooms ≡ with_outs (λ (out : Served). out.stripe.room) (rooms_in rest.stripes.items) outs
      → AreNext o.before.rooms (rest.count + rest.pushes - rest.pops) rooms
  rooms_are rooms is j low = subst (λ (n : ℕ). IsNext (get_or o.before.rooms j 0) (stripe_length j n) (get_or rooms j 0)) left (subst (λ (rs : List ℕ). HasRoom o j (get_or rs j 0)) (sym is) (room_at j low))

  pub whole : (stripes : List Stripe) (rooms : List ℕ) → length stripes ≡ 16
      → lists stripes ≡ with_outs (λ (out : Served). out.stripe.items.items) (lists rest.stripes.items) outs
      → rooms_in stripes ≡ with_outs (λ (out : Served). out.stripe.room) (rooms_in rest.stripes.items) outs
      → rooms ≡ rooms_in stripes
      → StackInvariant stripes rooms (rest.count + rest.pushes - rest.pops)
  whole stripes rooms sixteen items are is = record {
    stripes = record {
      sixteen = sixteen;
      lengths = λ j low. ap length (each_stripe (lists stripes) items j low) ∙ length_stripe j (take (left_of o) (all_items o)) ∙ ap (stripe_length j) (items_long ∙ left);
    };
    rooms = is;
    settled = λ j low. next_stays (get_or o.before.rooms j 0) (stripe_length j (rest.count + rest.pushes - rest.pops)) (get_or rooms j 0) (rooms_are rooms (is ∙ are) j low);
  }

  found : length (all_items o) - left_of o + left_of o ≤ length (all_items o)
  found = omega arith

  pub replies_are : (popped : List (List ℕ))
      → popped ≡ with_outs (λ (out : Served). out.popped.items) (replicate 16 []) outs
      → stack_replies popped (rest.count + rest.pushes) (rest.count + rest.pushes - rest.pops) rest.pushes rest.pops ≡ replies_to_all (of_stack o.before.items) o.calls
  replies_are popped is =
      let each : (j : ℕ) → j < 16 → get_or popped j [] ≡ reverse (drop (stripe_length j (left_of o)) (stripe j (all_items o))) = λ j low. ap (λ ps. get_or ps j []) is ∙ taken_at j low in
      let numbers : back (all_items o) (length (all_items o) - left_of o) ≡ number_replies popped (length (all_items o)) (length (all_items o) - left_of o) = back_is popped (all_items o) (left_of o) (length (all_items o) - left_of o) each found in
      ap (λ n. stack_replies popped n (rest.count + rest.pushes - rest.pops) rest.pushes rest.pops) (sym total)
      ∙ ap (λ n. stack_replies popped (length (all_items o)) n rest.pushes rest.pops) (sym left)
      ∙ ap (λ n. stack_replies popped (length (all_items o)) (left_of o) n rest.pops) r.pushes
      ∙ ap (λ n. stack_replies popped (length (all_items o)) (left_of o) (length (pushes_of o.calls)) n) r.pops
      ∙ ap (λ rs. replicate (length (pushes_of o.calls)) reply.Unit ++ (rs ++ replicate (pops_of o.calls - (length (all_items o) - left_of o)) reply.Empty)) (sym numbers)
      ∙ ap (λ rs. replicate (length (pushes_of o.calls)) reply.Unit ++ rs) (sym (pop_replies_are (all_items o) (pops_of o.calls)))
      ∙ sym (serial_replies o.before.items o.calls r.may r.batch.order)
