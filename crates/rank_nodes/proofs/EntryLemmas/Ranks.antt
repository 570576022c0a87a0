-- Ranks and indices on both sides of an entry.
use Rattle.std.proofs.Common.{◌≡◌, ℕ, zero, suc, ◌+◌, ◌<◌, ◌≤◌, true, false, nat_lt, List, [], ◌∷◌, ◌++◌, length, take, drop, filter, refl, ap, ◌∙◌, arith, length-append}
use Rattle.std.proofs.lemmas.Bool.Decides.{nat_tests}
use Rattle.std.proofs.lemmas.List.{length-take-le}
use Rattle.std.proofs.lemmas.List.Elements.{filter-append}
use Rattle.keyed_pieces.specs.Keyed.{AreBelow, AreFrom}
use Rattle.rank_nodes.specs.declared.entry.Entry.{Entry}
use Rattle.rank_nodes.specs.Maps.{key_of, Ascends, rank_of, key_at}
use Rattle.rank_nodes.specs.Code.Splits.{IsSplit}
use Rattle.rank_nodes.proofs.EntryLemmas.Ascending.{below_entry, from_entry}

rank_append : (key : ℕ) (low high : List Entry) → rank_of key (low ++ high) ≡ rank_of key low + rank_of key high
rank_append key low high = rw (filter-append (λ (e : Entry). nat_lt e.key key) low high) (length-append (filter (λ (e : Entry). nat_lt e.key key) low) (filter (λ (e : Entry). nat_lt e.key key) high))

rank_none : (key b : ℕ) (entries : List Entry) → key ≤ b → AreFrom key_of b entries → rank_of key entries ≡ 0
rank_none key b [] le up = refl
rank_none key b (e ∷ entries) le up =
    let test : nat_lt e.key key ≡ false = grind (arith, nat_tests, up.0) in
    rw test (rank_none key b entries le up.1)

rank_all : (key b : ℕ) (entries : List Entry) → b ≤ key → AreBelow key_of b entries → rank_of key entries ≡ length entries
rank_all key b [] le down = refl
rank_all key b (e ∷ entries) le down =
    let test : nat_lt e.key key ≡ true = grind (arith, nat_tests, down.0) in
    rw test (ap suc (rank_all key b entries le down.1))

-- the rank of a key on either side of a cut
pub rank_low : (key b : ℕ) (low high : List Entry) → key ≤ b → AreFrom key_of b high → rank_of key (low ++ high) ≡ rank_of key low
rank_low key b low high le up = omega (arith, rank_append key low high, rank_none key b high le up)

pub rank_high : (key b : ℕ) (low high : List Entry) → b ≤ key → AreBelow key_of b low → rank_of key (low ++ high) ≡ length low + rank_of key high
rank_high key b low high le down = omega (arith, rank_append key low high, rank_all key b low le down)

pub rank_left : (key : ℕ) (k : Entry) (xs ys : List Entry) → key ≤ k.key → Ascends (xs ++ k ∷ ys) → rank_of key (xs ++ k ∷ ys) ≡ rank_of key xs
rank_left key k xs ys le up = rank_low key k.key xs (k ∷ ys) le (from_entry xs k ys up)

pub rank_right : (key : ℕ) (k : Entry) (xs ys : List Entry) → k.key < key → Ascends (xs ++ k ∷ ys) → rank_of key (xs ++ k ∷ ys) ≡ length xs + 1 + rank_of key ys
rank_right key k xs ys less up =
    let test : nat_lt k.key key ≡ true = grind (arith, nat_tests, less) in
    let here : rank_of key (k ∷ ys) ≡ suc (rank_of key ys) = rw test refl in
    omega (arith, rank_high key k.key xs (k ∷ ys) (omega (arith, less)) (below_entry xs k ys up), here)

-- the rank of a key is the number of entries below a cut at the key
pub rank_of_split : (key : ℕ) (whole low high : List Entry) → IsSplit key whole low high → rank_of key whole ≡ length low
rank_of_split key whole low high cut =
    ap (rank_of key) cut.is ∙ rank_low key key low high (omega arith) cut.above ∙ rank_all key key low (omega arith) cut.below

pub rank_at : (key at : ℕ) (xs : List Entry) → IsSplit key xs (take at xs) (drop at xs) → at ≤ length xs → rank_of key xs ≡ at
rank_at key at xs cut within = rank_of_split key xs (take at xs) (drop at xs) cut ∙ length-take-le at xs within

-- the key at an index, left and right of an entry
pub at_left : (i : ℕ) (xs ys : List Entry) → i < length xs → key_at i (xs ++ ys) ≡ key_at i xs
at_left i [] ys less = absurd (omega arith)
at_left zero (x ∷ xs) ys less = refl
at_left (suc i) (x ∷ xs) ys less = at_left i xs ys (omega arith)

pub at_right : (i j : ℕ) (xs ys : List Entry) → i ≡ length xs + j → key_at i (xs ++ ys) ≡ key_at j ys
at_right i j [] ys is = let same : i ≡ j = omega arith in rw same refl
at_right zero j (x ∷ xs) ys is = absurd (omega arith)
at_right (suc i) j (x ∷ xs) ys is = at_right i j xs ys (omega arith)
