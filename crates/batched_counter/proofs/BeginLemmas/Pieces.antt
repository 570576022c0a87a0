-- The pieces into which a list of addends is cut.
use Rattle.std.proofs.Common.{◌≡◌, ℕ, ◌+◌, ◌/◌, ◌<◌, ◌≤◌, ◌-◌, min, List, [], ◌∷◌, ◌++◌, length, take, drop, refl, sym, ap, ◌∙◌, append_assoc, append-nil, arith}
use Rattle.std.proofs.lemmas.List.{take-map, drop-map}
use Rattle.std.proofs.lemmas.Grind.{common_steps}
use Rattle.seq_objects.specs.declared.call.Call.{Call}
use Rattle.batched_counter.specs.declared.piece.Piece.{Piece}
use Rattle.batched_counter.specs.Sums.{total}
use Rattle.batched_counter.specs.Calls.{addends}
use Rattle.batched_counter.specs.Pieces.{addends_in, IsCutInto}
use Rattle.key_sets.proofs.GroupLemmas.Cutting.{take_drop}

-- the concatenation of the lists
abbrev pub flat : List (List ℕ) → List ℕ
flat [] = []
flat (xs ∷ xss) = xs ++ flat xss

pub flat_is : (size : ℕ) (xs : List ℕ) (pieces : List (List ℕ)) → IsCutInto size xs pieces
    → flat pieces ≡ xs
flat_is size xs [] c = sym c
flat_is size xs (piece ∷ pieces) c = rw (c.1, flat_is size (drop size xs) pieces c.2) (take_drop size xs)

pub total_append : (xs ys : List ℕ) → total (xs ++ ys) ≡ total xs + total ys
total_append [] ys = omega arith
total_append (x ∷ xs) ys = omega (arith, total_append xs ys)

-- the sum of a part is at most the sum of the whole
total_take : (n : ℕ) (xs : List ℕ) → total (take n xs) ≤ total xs
total_take n xs = omega (arith, rw (take_drop n xs) at (total_append (take n xs) (drop n xs)))

total_drop : (n : ℕ) (xs : List ℕ) → total (drop n xs) ≤ total xs
total_drop n xs = omega (arith, rw (take_drop n xs) at (total_append (take n xs) (drop n xs)))

pub total_part : (n m limit : ℕ) (xs : List ℕ) → total xs < limit
    → total (take n (drop m xs)) < limit
total_part n m limit xs h = omega (arith, total_take n (drop m xs), total_drop m xs)

pub addends_in_more : (ins : List Piece) (piece : Piece)
    → addends_in (ins ++ piece ∷ []) ≡ addends_in ins ++ piece.addends.items ∷ []
addends_in_more [] piece = refl
addends_in_more (i ∷ ins) piece = ap (λ z. i.addends.items ∷ z) (addends_in_more ins piece)

cut_end : (size at : ℕ) (xs : List ℕ)
    → take (min (at + size) (length xs) - at) (drop at xs) ≡ take size (drop at xs)
cut_end size at xs = grind (arith, common_steps)

drop_end : (size at : ℕ) (xs : List ℕ)
    → drop (min (at + size) (length xs)) xs ≡ drop size (drop at xs)
drop_end size at xs = grind (arith, common_steps)

-- appending one more piece
pub one_more : (size at end : ℕ) (xs piece : List ℕ) (before : List (List ℕ)) → at < length xs
    → end ≡ min (at + size) (length xs) → piece ≡ take (end - at) (drop at xs)
    → ((ps : List (List ℕ)) → IsCutInto size (drop at xs) ps → IsCutInto size xs (before ++ ps))
    → (ps : List (List ℕ)) → IsCutInto size (drop end xs) ps
    → IsCutInto size xs (before ++ piece ∷ [] ++ ps)
one_more size at end xs piece before lt is e told ps c =
    let first : piece ≡ take size (drop at xs) = e ∙ (rw is (cut_end size at xs)) in
    let rest : drop end xs ≡ drop size (drop at xs) = rw is (drop_end size at xs) in
    let some : 0 < length (drop at xs) = grind (arith, common_steps) in
    let rest_cut = rw rest at c in
    rw append_assoc (told (piece ∷ ps) (some, first, rest_cut))

-- the addends of consecutive calls
pub addends_part : (n m : ℕ) (calls : List Call)
    → addends (take n (drop m calls)) ≡ take n (drop m (addends calls))
addends_part n m calls = grind (arith, common_steps, take-map {X = Call} {Y = ℕ}, drop-map {X = Call} {Y = ℕ})

pub length_addends : (calls : List Call) → length (addends calls) ≡ length calls
length_addends [] = refl
length_addends (call ∷ calls) = grind (arith, common_steps, length_addends calls)

pub sixteenth : (n : ℕ) → 0 < n → (n - 1) / 16 + 1 ≡ (n + 15) / 16
sixteenth n h = omega arith

-- at the end nothing remains to be cut
pub all_cut : (size at : ℕ) (xs : List ℕ) (cuts : List (List ℕ)) → length xs ≤ at
    → ((ps : List (List ℕ)) → IsCutInto size (drop at xs) ps → IsCutInto size xs (cuts ++ ps))
    → IsCutInto size xs cuts
all_cut size at xs cuts h told =
    let none : drop at xs ≡ [] = grind (arith, common_steps) in
    let whole = told [] none in
    rw append-nil at whole
