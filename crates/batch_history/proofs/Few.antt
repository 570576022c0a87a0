-- A book has no more entries than there are numbers for its leaves.
use Rattle.std.proofs.Common.{◌≡◌, ◌≢◌, ℕ, ◌<◌, ◌≤◌, ◌^◌, List, [], ◌∷◌, length, map, Bool, true, false, eqb, ◌||◌, refl, arith}
use Rattle.std.specs.List.{AllByRecursion, IsDistinct, list_any}
use Rattle.std.proofs.lemmas.Bool.Decides.{nat_tests}
use Rattle.std.proofs.lemmas.List.{length-map}
use Rattle.std.proofs.lemmas.Map.Steps.{length-le_from_distinct_below}
use Rattle.seq_objects.specs.Pairs.{AreDistinct}
use Rattle.batch_history.specs.Book.{flat, IsHistory}
use Rattle.batch_history.specs.declared.batch.Entry.{Entry}

test_apart : (x : ℕ) (ys : List ℕ) → AllByRecursion (λ y. x ≢ y) ys → AllByRecursion (λ y. eqb x y ≡ false) ys
test_apart x [] apart = tt
test_apart x (y ∷ ys) apart = (different x y apart.0, test_apart x ys apart.1) where
  different : (m n : ℕ) → m ≢ n → eqb m n ≡ false
  different m n h = grind (arith, nat_tests)

test_distinct : (xs : List ℕ) → AreDistinct xs → IsDistinct eqb xs
unfolding IsDistinct
test_distinct [] distinct = tt
test_distinct (x ∷ xs) distinct = (test_apart x xs distinct.0, test_distinct xs distinct.1)

pub found_step : (n q x : ℕ) (b rest : Bool) → eqb q x ≡ b → (b || rest) ≡ true → x < n → (rest ≡ true → q < n) → q < n
found_step n q x true rest same found below more = grind (arith, nat_tests)
found_step n q x false rest other found below more = more found

pub found_below : (n q : ℕ) (xs : List ℕ) → AllByRecursion (λ x. x < n) xs → list_any (eqb q) xs ≡ true → q < n
found_below n q [] below found = cc
found_below n q (x ∷ xs) below found =
    found_step n q x (eqb q x) (list_any (eqb q) xs) refl found below.0 (found_below n q xs below.1)

pub few_entries : (book : List (List Entry)) → IsHistory book → length (flat book) ≤ 2 ^ 32
few_entries book history =
    let leaves : List ℕ = map (λ (entry : Entry). entry.leaf) (flat book) in
    let few : length leaves ≤ 2 ^ 32 = length-le_from_distinct_below leaves (2 ^ 32) (test_distinct leaves history.leaves) (λ q. found_below (2 ^ 32) q leaves history.numbers) in
    omega (arith, few, length-map (flat book) (λ (entry : Entry). entry.leaf))
