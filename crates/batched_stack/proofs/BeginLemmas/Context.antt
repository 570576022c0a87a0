-- The pieces of a stack, in terms of the items that contracts see.
use Rattle.std.proofs.Common.{◌≡◌, ℕ, ◌+◌, ◌<◌, ◌≤◌, ◌^◌, Bool, true, false, cond, List, [], ◌∷◌, length, filter, get_or, sym, ap, subst, ◌∙◌, arith}
use Rattle.std.proofs.lemmas.List.{length-map}
use Rattle.std.specs.List.{AllByRecursion, range_with_len}
use Rattle.seq_objects.specs.declared.call.Call.{Call}
use Rattle.seq_objects.specs.Objects.{has}
use Rattle.seq_objects.specs.declared.kind.Kind.TheVariants.{Stack}
use Rattle.seq_objects.specs.Batches.{AreOneBatch, AreOf}
use Rattle.batched_stack.specs.declared.stripe.Stripe.{Stripe}
use Rattle.batched_stack.specs.declared.piece.Piece.{Piece}
use Rattle.batched_stack.specs.declared.piece.Rest.{Rest}
use Rattle.batched_stack.specs.Calls.{pushes_of, pops_of}
use Rattle.batched_stack.specs.Stripes.{stripe_length, items_of}
use Rattle.batched_stack.specs.Lists.{lists}
use Rattle.batched_stack.specs.Rooms.{NeedsRoom}
use Rattle.batched_stack.specs.Pieces.{pushes_to, pops_from, is_called, or_first, piece_numbers, numbers_in, IsPieceOf, IsContextOf}
use Rattle.batched_stack.specs.Code.Begin.{IsCutOf, IsSame}
use Rattle.batched_stack.specs.Code.Invariant.{StackInvariant}
use Rattle.batched_stack.proofs.StripeLemmas.Whole.{length_items_of, stripe_of_items}

few_passed : (p : ℕ → Bool) (js : List ℕ) → length (filter p js) ≤ length js
few_passed p [] = omega arith
few_passed p (j ∷ js) = elim (p j) as (λ b. length (cond b (j ∷ filter p js) (filter p js)) ≤ length (j ∷ js)) [
  | true ↦ omega (arith, few_passed p js)
  | false ↦ omega (arith, few_passed p js)
]

or_first_count : (js : List ℕ) → length js ≤ 16
    → (1 ≤ length (or_first js)) × (length (or_first js) ≤ 16)
or_first_count [] few = (omega arith, omega arith)
or_first_count (j ∷ js) few = (omega arith, omega (arith, few))

-- from 1 to 16 pieces
pub piece_count : (n : ℕ) (puts : List ℕ) (takes : ℕ) (pieces : List Piece)
    → numbers_in pieces ≡ piece_numbers n puts takes → (1 ≤ length pieces) × (length pieces ≤ 16)
piece_count n puts takes pieces is =
    let long : length pieces ≡ length (piece_numbers n puts takes) = sym (length-map pieces (λ (p : Piece). p.number)) ∙ ap length is in
    let both = or_first_count (filter (is_called n puts takes) (range_with_len 0 16)) (few_passed (is_called n puts takes) (range_with_len 0 16)) in
    (omega (arith, long, both.0), omega (arith, long, both.1))

numbers_seen : (stripes : List (List ℕ)) (n : ℕ) (puts : List ℕ) (takes : ℕ) (pieces : List Piece)
    → numbers_in pieces ≡ piece_numbers n puts takes
    → numbers_in pieces ≡ piece_numbers (length (items_of stripes n)) puts takes
numbers_seen stripes n puts takes pieces is = is ∙ ap (λ k. piece_numbers k puts takes) (sym (length_items_of stripes n))

pieces_seen : (stripes : List Stripe) (rooms : List ℕ) (n : ℕ) (puts : List ℕ) (takes : ℕ) (pieces : List Piece)
    → StackInvariant stripes rooms n → AllByRecursion (IsCutOf stripes n puts takes) pieces
    → AllByRecursion (IsPieceOf (record { items = items_of (lists stripes) n; rooms = rooms }) puts takes) pieces
pieces_seen stripes rooms n puts takes [] whole each = tt
pieces_seen stripes rooms n puts takes (piece ∷ pieces) whole each =
    let long = sym (length_items_of (lists stripes) n) in (
      record {
        items = each.0.items ∙ sym (stripe_of_items (lists stripes) n piece.number piece.low (whole.stripes.lengths piece.number piece.low));
        room = each.0.room ∙ ap (λ rs. get_or rs piece.number 0) (sym whole.rooms);
        pushes = each.0.pushes ∙ ap (λ k. pushes_to piece.number k puts) long;
        pops = each.0.pops ∙ ap (λ k. pops_from piece.number (k + length puts) takes) long;
      },
      pieces_seen stripes rooms n puts takes pieces whole each.1,
    )

pub remembered : (stripes : List Stripe) (rooms : List ℕ) (rest : Rest) (calls : List Call) (pieces : List Piece) → StackInvariant stripes rooms rest.count → AreOneBatch calls → AreOf Stack calls → numbers_in pieces ≡ piece_numbers rest.count (pushes_of calls) (pops_of calls) → AllByRecursion (IsCutOf stripes rest.count (pushes_of calls) (pops_of calls)) pieces → rest.pushes ≡ length (pushes_of calls) → rest.pops ≡ pops_of calls → rest.count + rest.pushes < 2 ^ 63 → length rest.stripes.items ≡ 16 → ((j : ℕ) → j < 16 → has j (numbers_in pieces) ≡ false → IsSame stripes rest.stripes.items j) → IsContextOf rest (record { before = record { items = items_of (lists stripes) rest.count; rooms = rooms }; calls = calls; ins = pieces })
remembered stripes rooms rest calls pieces whole batch may numbers each pushes pops fits sixteen kept =
    let long = length_items_of (lists stripes) rest.count in
    record {
      batch = batch;
      may = may;
      cut = record {
        numbers = numbers_seen (lists stripes) rest.count (pushes_of calls) (pops_of calls) pieces numbers;
        each = pieces_seen stripes rooms rest.count (pushes_of calls) (pops_of calls) pieces whole each;
      };
      count = sym long;
      pushes = pushes;
      pops = pops;
      fits = fits;
      sixteen = sixteen;
      kept = λ j low none. record {
        items = (kept j low none).items ∙ sym (stripe_of_items (lists stripes) rest.count j low (whole.stripes.lengths j low));
        room = (kept j low none).room ∙ ap (λ rs. get_or rs j 0) (sym whole.rooms);
      };
      settled = λ j low. subst (λ (k : ℕ). NeedsRoom (get_or rooms j 0) (stripe_length j k) → ⊥) (sym long) (whole.settled j low);
    }
