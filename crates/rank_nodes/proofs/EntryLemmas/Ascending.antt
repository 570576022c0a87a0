-- Properties of all entries of a list, and lists whose keys ascend.
use Rattle.std.proofs.Common.{◌≡◌, ℕ, ◌+◌, ◌<◌, ◌≤◌, Bool, true, false, ◌==◌, nat_lt, if◌then◌else◌, List, [], ◌∷◌, ◌++◌, length, refl, arith}
use Rattle.std.specs.List.{AllByRecursion}
use Rattle.std.proofs.lemmas.Bool.Decides.{nat_tests}
use Rattle.key_sets.proofs.KeyLemmas.Ascending.{all_map}
use Rattle.rank_nodes.specs.declared.entry.Entry.{Entry}
use Rattle.rank_nodes.specs.Maps.{Ascends, with_entry, without_entry, AllBelow}

pub all_append : (P : Entry → Type 0) (xs ys : List Entry) → AllByRecursion P xs → AllByRecursion P ys → AllByRecursion P (xs ++ ys)
all_append P [] ys each each' = each'
all_append P (x ∷ xs) ys each each' = (each.0, all_append P xs ys each.1 each')

pub all_front : (P : Entry → Type 0) (xs ys : List Entry) → AllByRecursion P (xs ++ ys) → AllByRecursion P xs
all_front P [] ys each = tt
all_front P (x ∷ xs) ys each = (each.0, all_front P xs ys each.1)

pub all_back : (P : Entry → Type 0) (xs ys : List Entry) → AllByRecursion P (xs ++ ys) → AllByRecursion P ys
all_back P [] ys each = each
all_back P (x ∷ xs) ys each = all_back P xs ys each.1

pub all_at : (P : Entry → Type 0) (xs : List Entry) (k : Entry) (ys : List Entry) → AllByRecursion P (xs ++ k ∷ ys) → P k
all_at P xs k ys each = (all_back P xs (k ∷ ys) each).0

-- a property of all keys is preserved by insertion and removal
pub all_with : (P : ℕ → Type 0) (key val : ℕ) (entries : List Entry) → P key → AllByRecursion (λ e. P e.key) entries → AllByRecursion (λ e. P e.key) (with_entry key val entries)
all_with P key val [] here each = (here, tt)
all_with P key val (e ∷ entries) here each = step (nat_lt key e.key) (key == e.key) (all_with P key val entries here each.1) where
  step : (first same : Bool) → AllByRecursion (λ x. P x.key) (with_entry key val entries)
      → AllByRecursion (λ x. P x.key) (if first then record { key = key; val = val } ∷ e ∷ entries else (if same then record { key = key; val = val } ∷ entries else e ∷ with_entry key val entries))
  step true same rest = (here, each)
  step false true rest = (here, each.1)
  step false false rest = (each.0, rest)

pub all_without : (P : ℕ → Type 0) (key : ℕ) (entries : List Entry) → AllByRecursion (λ e. P e.key) entries → AllByRecursion (λ e. P e.key) (without_entry key entries)
all_without P key [] each = tt
all_without P key (e ∷ entries) each = step (key == e.key) (all_without P key entries each.1) where
  step : (same : Bool) → AllByRecursion (λ x. P x.key) (without_entry key entries) → AllByRecursion (λ x. P x.key) (if same then entries else e ∷ without_entry key entries)
  step true rest = each.1
  step false rest = (each.0, rest)

all_above : (m n : ℕ) (xs : List Entry) → m < n → AllByRecursion (λ (y : Entry). n < y.key) xs → AllByRecursion (λ (y : Entry). m < y.key) xs
all_above m n xs less each = all_map (λ (y : Entry). n < y.key) (λ (y : Entry). m < y.key) (λ (y : Entry) above. omega (arith, above)) xs each

-- the parts of an ascending list
pub ascends_front : (xs ys : List Entry) → Ascends (xs ++ ys) → Ascends xs
ascends_front [] ys up = tt
ascends_front (x ∷ xs) ys up = (all_front (λ y. x.key < y.key) xs ys up.0, ascends_front xs ys up.1)

pub ascends_back : (xs ys : List Entry) → Ascends (xs ++ ys) → Ascends ys
ascends_back [] ys up = up
ascends_back (x ∷ xs) ys up = ascends_back xs ys up.1

pub ascends_after : (xs : List Entry) (k : Entry) (ys : List Entry) → Ascends (xs ++ k ∷ ys) → Ascends ys
ascends_after xs k ys up = (ascends_back xs (k ∷ ys) up).1

pub below_entry : (xs : List Entry) (k : Entry) (ys : List Entry) → Ascends (xs ++ k ∷ ys) → AllByRecursion (λ (x : Entry). x.key < k.key) xs
below_entry [] k ys up = tt
below_entry (x ∷ xs) k ys up = (all_at (λ y. x.key < y.key) xs k ys up.0, below_entry xs k ys up.1)

pub above_entry : (xs : List Entry) (k : Entry) (ys : List Entry) → Ascends (xs ++ k ∷ ys) → AllByRecursion (λ (y : Entry). k.key < y.key) ys
above_entry xs k ys up = (ascends_back xs (k ∷ ys) up).0

-- no key from an entry on is below that of the entry
pub from_entry : (xs : List Entry) (k : Entry) (ys : List Entry) → Ascends (xs ++ k ∷ ys) → AllByRecursion (λ (y : Entry). k.key ≤ y.key) (k ∷ ys)
from_entry xs k ys up = (omega arith, all_map (λ (y : Entry). k.key < y.key) (λ (y : Entry). k.key ≤ y.key) (λ (y : Entry) less. omega (arith, less)) ys (above_entry xs k ys up))

-- ascending lists built from others
pub ascends_both : (low high : List Entry) → Ascends low → Ascends high → AllBelow low high → Ascends (low ++ high)
ascends_both [] high up up' below = up'
ascends_both (x ∷ low) high up up' below = (all_append (λ y. x.key < y.key) low high up.0 below.0, ascends_both low high up.1 up' below.1)

pub ascends_with : (key val : ℕ) (entries : List Entry) → Ascends entries → Ascends (with_entry key val entries)
ascends_with key val [] up = (tt, tt)
ascends_with key val (e ∷ entries) up = step (nat_lt key e.key) (key == e.key) refl refl (ascends_with key val entries up.1) where
  step : (first same : Bool) → nat_lt key e.key ≡ first → (key == e.key) ≡ same → Ascends (with_entry key val entries)
      → Ascends (if first then record { key = key; val = val } ∷ e ∷ entries else (if same then record { key = key; val = val } ∷ entries else e ∷ with_entry key val entries))
  step true same is is' rest = let less : key < e.key = grind (arith, nat_tests) in ((less, all_above key e.key entries less up.0), up)
  step false true is is' rest = let one : key ≡ e.key = grind (arith, nat_tests) in rw one up
  step false false is is' rest = (all_with (λ k. e.key < k) key val entries (grind (arith, nat_tests)) up.0, rest)

pub ascends_without : (key : ℕ) (entries : List Entry) → Ascends entries → Ascends (without_entry key entries)
ascends_without key [] up = tt
ascends_without key (e ∷ entries) up = step (key == e.key) (ascends_without key entries up.1) where
  step : (same : Bool) → Ascends (without_entry key entries) → Ascends (if same then entries else e ∷ without_entry key entries)
  step true rest = up.1
  step false rest = (all_without (λ k. e.key < k) key entries up.0, rest)

-- an ascending list is no longer than the range of its keys
pub length_in_range : (limit least : ℕ) (xs : List Entry) → Ascends xs → AllByRecursion (λ (e : Entry). least ≤ e.key) xs → AllByRecursion (λ (e : Entry). e.key < limit) xs → least ≤ limit → least + length xs ≤ limit
length_in_range limit least [] up above below le = omega arith
length_in_range limit least (x ∷ xs) up above below le =
    let a : least ≤ x.key = above.0 in
    let b : x.key < limit = below.0 in
    let rest = length_in_range limit (x.key + 1) xs up.1 (all_map (λ (e : Entry). x.key < e.key) (λ (e : Entry). x.key + 1 ≤ e.key) (λ (e : Entry) less. omega arith) xs up.0) below.1 (omega arith) in
    omega arith
