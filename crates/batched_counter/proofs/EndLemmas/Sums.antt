-- The replies and the number of the end, as sums of all addends.
use Rattle.std.proofs.Common.{◌≡◌, ℕ, ◌+◌, ◌<◌, ◌^◌, List, [], ◌∷◌, ◌++◌, length, drop, get_or, refl, sym, ap, subst, ◌∙◌, arith}
use Rattle.std.proofs.lemmas.List.{drop_more}
use Rattle.std.specs.List.{AllByRecursion}
use Rattle.seq_objects.specs.declared.reply.Reply.TheVariants.{Number}
use Rattle.seq_objects.specs.Pieces.{AllMeet}
use Rattle.batched_counter.specs.declared.piece.Piece.{Piece}
use Rattle.batched_counter.specs.declared.piece.Served.{Served}
use Rattle.batched_counter.specs.Sums.{total, sums_from}
use Rattle.batched_counter.specs.Pieces.{addends_in, Meets}
use Rattle.batched_counter.specs.Code.End.{CanJoin, all_replies, number_replies, number_after}
use Rattle.batched_counter.proofs.BeginLemmas.Pieces.{flat, total_append}

pub sums_shift : (base n : ℕ) (xs : List ℕ)
    → number_replies base (sums_from n xs) ≡ number_replies 0 (sums_from (base + n) xs)
sums_shift base n [] = refl
sums_shift base n (x ∷ xs) =
    let e : base + (n + x) ≡ 0 + (base + n + x) = omega arith in
    let f : base + (n + x) ≡ base + n + x = omega arith in
    let ih = sums_shift base (n + x) xs in
    rw e (ap (λ r. Number (0 + (base + n + x)) ∷ r) (rw f at ih))

pub numbers_append : (n : ℕ) (xs ys : List ℕ)
    → number_replies 0 (sums_from n (xs ++ ys)) ≡ number_replies 0 (sums_from n xs) ++ number_replies 0 (sums_from (n + total xs) ys)
numbers_append n [] ys = let e : n + 0 ≡ n = omega arith in rw e
numbers_append n (x ∷ xs) ys =
    let e : n + (x + total xs) ≡ n + x + total xs = omega arith in
    rw e (ap (λ r. Number (0 + (n + x)) ∷ r) (numbers_append (n + x) xs ys))

-- the replies, piece by piece
pub replies_are : (base : ℕ) (ins : List Piece) (outs : List Served) → AllMeet Meets ins outs
    → all_replies base outs ≡ number_replies 0 (sums_from base (flat (addends_in ins)))
replies_are base [] [] m = refl
replies_are base [] (out ∷ outs) m = absurd m
replies_are base (piece ∷ ins) [] m = absurd m
replies_are base (piece ∷ ins) (out ∷ outs) m =
    let e : base + 0 ≡ base = omega arith in
    let s = rw e at (sums_shift base 0 piece.addends.items) in
    rw (m.0.prefixes, m.0.total, replies_are (base + total piece.addends.items) ins outs m.1, s)
    (sym (numbers_append base piece.addends.items (flat (addends_in ins))))

pub end_is : (base : ℕ) (ins : List Piece) (outs : List Served) → AllMeet Meets ins outs
    → number_after base outs ≡ base + total (flat (addends_in ins))
end_is base [] [] m = omega arith
end_is base [] (out ∷ outs) m = absurd m
end_is base (piece ∷ ins) [] m = absurd m
end_is base (piece ∷ ins) (out ∷ outs) m =
    rw m.0.total (omega (arith, end_is (base + total piece.addends.items) ins outs m.1, total_append piece.addends.items (flat (addends_in ins))))

-- no sum overflows
sums_bounded : (base n limit : ℕ) (xs : List ℕ) → base + (n + total xs) < limit
    → AllByRecursion (λ p. base + p < limit) (sums_from n xs)
sums_bounded base n limit [] h = tt
sums_bounded base n limit (x ∷ xs) h = (omega arith, sums_bounded base (n + x) limit xs (omega arith))

pub bounded_all : (base : ℕ) (ins : List Piece) (outs : List Served) → AllMeet Meets ins outs
    → base + total (flat (addends_in ins)) < 2 ^ 64 → CanJoin base outs
bounded_all base [] [] m h = omega arith
bounded_all base [] (out ∷ outs) m h = absurd m
bounded_all base (piece ∷ ins) [] m h = absurd m
bounded_all base (piece ∷ ins) (out ∷ outs) m h =
    let t = total_append piece.addends.items (flat (addends_in ins)) in
    rw (m.0.prefixes, m.0.total) (sums_bounded base 0 (2 ^ 64) piece.addends.items (omega arith), omega arith, bounded_all (base + total piece.addends.items) ins outs m.1 (omega arith))

-- the numbers of the next out fit 64 bits
pub next_fits : (base i : ℕ) (outs : List Served) (out : Served) → i < length outs
    → out ≡ get_or outs i out → CanJoin base (drop i outs)
    → AllByRecursion (λ prefix. base + prefix < 2 ^ 64) out.prefixes.items
next_fits base i outs out less is fits =
    let cut : drop i outs ≡ out ∷ drop (i + 1) outs = drop_more outs i out less ∙ ap (λ o. o ∷ drop (i + 1) outs) (sym is) in
    (subst (CanJoin base) cut fits).0
