-- Entries on both sides of a key.
use Rattle.std.proofs.Common.{◌≡◌, ℕ, ◌<◌, ◌≤◌, true, false, nat_lt, List, [], ◌∷◌, ◌++◌, refl, ap, arith}
use Rattle.std.specs.List.{AllByRecursion}
use Rattle.std.proofs.lemmas.Bool.Decides.{nat_tests}
use Rattle.key_sets.proofs.KeyLemmas.Ascending.{all_map}
use Rattle.keyed_pieces.specs.Keyed.{AreBelow, AreFrom}
use Rattle.keyed_pieces.specs.Ranges.{below, from}
use Rattle.keyed_pieces.proofs.Sides.{all_below, all_from}
use Rattle.rank_nodes.specs.declared.entry.Entry.{Entry}
use Rattle.rank_nodes.specs.Maps.{key_of, AllBelow}
use Rattle.rank_nodes.specs.Code.Splits.{IsSplit}

above_all : (n key : ℕ) (high : List Entry) → n < key → AreFrom key_of key high → AllByRecursion (λ (f : Entry). n < f.key) high
above_all n key high less above = all_map (λ (f : Entry). key ≤ f.key) (λ (f : Entry). n < f.key) (λ (f : Entry) le. omega (arith, less, le)) high above

pub apart : (key : ℕ) (low high : List Entry) → AreBelow key_of key low → AreFrom key_of key high → AllBelow low high
apart key low high down up = all_map (λ (e : Entry). e.key < key) (λ (e : Entry). AllByRecursion (λ (f : Entry). e.key < f.key) high) (λ (e : Entry) less. above_all e.key key high less up) low down

none_below : (key : ℕ) (high : List Entry) → AreFrom key_of key high → (below key_of key high ≡ []) × (from key_of key high ≡ high)
none_below key [] up = (refl, refl)
none_below key (e ∷ high) up =
    let test : nat_lt e.key key ≡ false = grind (arith, nat_tests, up.0) in
    let rest = none_below key high up.1 in
    rw test (rest.0, ap (λ zs. e ∷ zs) rest.1)

-- the two sides of a cut at a key are the entries below it and the others
sides_of : (key : ℕ) (low high : List Entry) → AreBelow key_of key low → AreFrom key_of key high
    → (below key_of key (low ++ high) ≡ low) × (from key_of key (low ++ high) ≡ high)
sides_of key [] high down up = none_below key high up
sides_of key (e ∷ low) high down up =
    let test : nat_lt e.key key ≡ true = grind (arith, nat_tests, down.0) in
    let rest = sides_of key low high down.1 up in
    rw test (ap (λ zs. e ∷ zs) rest.0, rest.1)

pub split_sides : (key : ℕ) (whole low high : List Entry) → IsSplit key whole low high
    → (below key_of key whole ≡ low) × (from key_of key whole ≡ high)
split_sides key whole low high cut = rw cut.is (sides_of key low high cut.below cut.above)

pub parts_apart : (key : ℕ) (whole low high : List Entry) → low ≡ below key_of key whole → high ≡ from key_of key whole → AllBelow low high
parts_apart key whole low high low_is high_is =
    rw (low_is, high_is) (apart key (below key_of key whole) (from key_of key whole) (all_below key_of key whole) (all_from key_of key whole))
