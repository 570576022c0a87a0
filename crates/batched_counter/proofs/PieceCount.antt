-- How many pieces a list is cut into.
use Rattle.std.proofs.Common.{◌≡◌, ℕ, ◌+◌, ◌-◌, ◌*◌, ◌/◌, ◌<◌, ◌≤◌, inl, inr, List, [], ◌∷◌, length, drop, refl, sym, ap, ◌∙◌, arith}
use Rattle.std.specs.Int.{div_ceil}
use Rattle.std.proofs.Math.Nat.{mul-le-mul_left}
use Rattle.std.proofs.lemmas.Bool.{cases_order}
use Rattle.std.proofs.lemmas.Grind.{common_steps, div_ceil_times}
use Rattle.seq_objects.specs.declared.call.Call.{Call}
use Rattle.seq_objects.specs.Serial.{of_counter}
use Rattle.batched_counter.specs.declared.piece.Piece.{Piece}
use Rattle.batched_counter.specs.Calls.{addends}
use Rattle.batched_counter.specs.Pieces.{Cut, IsCutInto, addends_in, piece_count}
use Rattle.batched_counter.proofs.BeginLemmas.Pieces.{length_addends}

length_drop : (n : ℕ) (xs : List ℕ) → length (drop n xs) ≡ length xs - n
length_drop n xs = grind (arith, common_steps)

-- this many pieces hold the whole list, and one piece fewer does not
covers : (size : ℕ) (xs : List ℕ) (pieces : List (List ℕ)) → 0 < size → IsCutInto size xs pieces
    → (length xs ≤ length pieces * size) × (length pieces * size < length xs + size)
covers size xs [] some cut = rw cut (omega arith, omega (arith, some))
covers size xs (piece ∷ []) some cut =
    let left = length_drop size xs in
    let none : length (drop size xs) ≡ 0 = rw cut.2 refl in
    (omega (arith, left, none), omega (arith, cut.0))
covers size xs (piece ∷ other ∷ pieces) some cut =
    let left = length_drop size xs in
    let ih = covers size (drop size xs) (other ∷ pieces) some cut.2 in
    (omega (arith, left, cut.2.0, ih.0), omega (arith, left, cut.2.0, ih.1))

-- two multiples of a size that are at least n and less than n + size are equal
same_multiple : (n size a b : ℕ) → n ≤ a * size → a * size < n + size → n ≤ b * size
    → b * size < n + size → a ≡ b
same_multiple n size a b from_a below_a from_b below_b = elim (cases_order a b) [
  | inl same ↦ same
  | inr (inl less) ↦ let more = mul-le-mul_left size less in absurd (omega (arith, more, from_a, below_b))
  | inr (inr less) ↦ let more = mul-le-mul_left size less in absurd (omega (arith, more, from_b, below_a))
]

counted : (size : ℕ) (xs : List ℕ) (pieces : List (List ℕ)) → 0 < size → IsCutInto size xs pieces
    → length pieces ≡ div_ceil (length xs) size
counted size xs pieces some cut =
    let whole = covers size xs pieces some cut in
    let up = div_ceil_times (length xs) size some in
    same_multiple (length xs) size (length pieces) (div_ceil (length xs) size) whole.0 whole.1 up.0 up.1

length_addends_in : (pieces : List Piece) → length (addends_in pieces) ≡ length pieces
length_addends_in [] = refl
length_addends_in (piece ∷ pieces) = omega (arith, length_addends_in pieces)

-- an empty list is cut into no pieces
none_counted : (size : ℕ) (xs : List ℕ) (pieces : List (List ℕ)) → length xs ≡ 0
    → IsCutInto size xs pieces → length pieces ≡ 0
none_counted size xs [] none cut = refl
none_counted size xs (piece ∷ pieces) none cut = absurd (omega (arith, none, cut.0))

pub pieces_counted : (number : ℕ) (calls : List Call) (pieces : List Piece)
    → Cut number calls pieces → length pieces ≡ piece_count (of_counter number) calls
pieces_counted number [] pieces cut = omega (arith, length_addends_in pieces, none_counted 0 [] (addends_in pieces) refl cut)
pieces_counted number (call ∷ calls) pieces cut =
    let size = (length (call ∷ calls) + 15) / 16 in
    sym (length_addends_in pieces) ∙ counted size (addends (call ∷ calls)) (addends_in pieces) (omega arith) cut
    ∙ ap (λ n. div_ceil n size) (length_addends (call ∷ calls))
