-- Operations with a key on a set act on the part that is on the key's side of another key.
use Rattle.std.proofs.Common.{◌≡◌, ℕ, ◌<◌, ◌≤◌, Bool, true, false, ◌==◌, ◌||◌, nat_lt, if◌then◌else◌, List, [], ◌∷◌, ◌++◌, Some, None, refl, sym, ap, ◌∙◌, append_assoc, append-nil, arith}
use Rattle.std.specs.List.{AllByRecursion}
use Rattle.std.proofs.lemmas.Bool.Decides.{nat_tests}
use Rattle.key_sets.specs.Keys.{StrictlyAscends, has, with_key, without_key, least_above}
use Rattle.key_sets.proofs.KeyLemmas.Ascending.{all_map, all_at, all_above, all_below_key, all_above_key, ascends_front, ascends_after}

pub append_around : (xs : List ℕ) (j : ℕ) (ys : List ℕ) (k : ℕ) (zs : List ℕ) → (xs ++ j ∷ ys) ++ k ∷ zs ≡ xs ++ j ∷ (ys ++ k ∷ zs)
append_around xs j ys k zs = append_assoc xs (j ∷ ys) (k ∷ zs)

-- the same keys appended to both sides
pub around : (x y low a b : List ℕ) (m key j : ℕ) → x ++ m ∷ y ≡ low ++ key ∷ a → x ++ m ∷ (y ++ j ∷ b) ≡ low ++ key ∷ (a ++ j ∷ b)
around x y low a b m key j e = sym (append_assoc x (m ∷ y) (j ∷ b)) ∙ ap (λ z. z ++ j ∷ b) e ∙ append_assoc low (key ∷ a) (j ∷ b)

-- a key below all keys of a list
pub has_none : (key : ℕ) (xs : List ℕ) → AllByRecursion (λ x. key < x) xs → has key xs ≡ false
has_none key [] below = refl
has_none key (x ∷ xs) below = insertion (key == x) refl (has_none key xs below.1) where
  insertion : (same : Bool) → (key == x) ≡ same → has key xs ≡ false → (same || has key xs) ≡ false
  insertion true is rest = absurd (grind (arith, nat_tests, below.0))
  insertion false is rest = rest

without_none : (key : ℕ) (xs : List ℕ) → AllByRecursion (λ x. key < x) xs → without_key key xs ≡ xs
without_none key [] below = refl
without_none key (x ∷ xs) below = insertion (key == x) refl (without_none key xs below.1) where
  insertion : (same : Bool) → (key == x) ≡ same → without_key key xs ≡ xs → (if same then xs else x ∷ without_key key xs) ≡ x ∷ xs
  insertion true is rest = absurd (grind (arith, nat_tests, below.0))
  insertion false is rest = ap (λ zs. x ∷ zs) rest

-- a key below a lower bound of a list
pub absent : (key b : ℕ) (high : List ℕ) → key < b → AllByRecursion (λ k. b ≤ k) high → has key high ≡ false
absent key b high less up = has_none key high (all_map (λ k. b ≤ k) (λ k. key < k) (λ k le. omega (arith, less, le)) high up)

-- a key above the first of a list
pub has_past : (key x : ℕ) (xs : List ℕ) → x < key → has key (x ∷ xs) ≡ has key xs
has_past key x xs less = insertion (key == x) refl where
  insertion : (same : Bool) → (key == x) ≡ same → (same || has key xs) ≡ has key xs
  insertion true is = absurd (grind (arith, nat_tests, less))
  insertion false is = refl

pub with_past : (key x : ℕ) (xs : List ℕ) → x < key → with_key key (x ∷ xs) ≡ x ∷ with_key key xs
with_past key x xs less = insertion (nat_lt key x) (key == x) refl refl where
  insertion : (first same : Bool) → nat_lt key x ≡ first → (key == x) ≡ same
      → (if first then key ∷ x ∷ xs else (if same then x ∷ xs else x ∷ with_key key xs)) ≡ x ∷ with_key key xs
  insertion true same is is' = absurd (grind (arith, nat_tests, less))
  insertion false true is is' = absurd (grind (arith, nat_tests, less))
  insertion false false is is' = refl

without_past : (key x : ℕ) (xs : List ℕ) → x < key → without_key key (x ∷ xs) ≡ x ∷ without_key key xs
without_past key x xs less = insertion (key == x) refl where
  insertion : (same : Bool) → (key == x) ≡ same → (if same then xs else x ∷ without_key key xs) ≡ x ∷ without_key key xs
  insertion true is = absurd (grind (arith, nat_tests, less))
  insertion false is = refl

-- no key from `k` on is below `k`, where keys ascend
from_key : (xs : List ℕ) (k : ℕ) (ys : List ℕ) → StrictlyAscends (xs ++ k ∷ ys) → AllByRecursion (λ j. k ≤ j) (k ∷ ys)
from_key xs k ys up = (omega arith, all_map (λ j. k < j) (λ j. k ≤ j) (λ j less. omega (arith, less)) ys (all_above_key xs k ys up))

-- membership on either side
pub has_low : (key b : ℕ) (low high : List ℕ) → key < b → AllByRecursion (λ k. b ≤ k) high
    → has key (low ++ high) ≡ has key low
has_low key b [] high less up = absent key b high less up
has_low key b (x ∷ low) high less up = ap (λ t. (key == x) || t) (has_low key b low high less up)

pub has_high : (key b : ℕ) (low high : List ℕ) → b ≤ key → AllByRecursion (λ k. k < b) low
    → has key (low ++ high) ≡ has key high
has_high key b [] high le down = refl
has_high key b (x ∷ low) high le down = has_past key x (low ++ high) (omega (arith, le, down.0)) ∙ has_high key b low high le down.1

pub has_left : (key k : ℕ) (xs ys : List ℕ) → key < k → StrictlyAscends (xs ++ k ∷ ys) → has key (xs ++ k ∷ ys) ≡ has key xs
has_left key k xs ys less up = has_low key k xs (k ∷ ys) less (from_key xs k ys up)

pub has_right : (key k : ℕ) (xs ys : List ℕ) → k < key → StrictlyAscends (xs ++ k ∷ ys) → has key (xs ++ k ∷ ys) ≡ has key ys
has_right key k xs ys less up = has_high key k xs (k ∷ ys) (omega (arith, less)) (all_below_key xs k ys up) ∙ has_past key k ys less

pub has_here : (key k : ℕ) (xs ys : List ℕ) → key ≡ k → has key (xs ++ k ∷ ys) ≡ true
has_here key k [] ys is = insertion (key == k) (grind (arith, nat_tests)) where
  insertion : (same : Bool) → same ≡ true → (same || has key ys) ≡ true
  insertion true met = refl
  insertion false met = cc
has_here key k (x ∷ xs) ys is = insertion (key == x) (has_here key k xs ys is) where
  insertion : (same : Bool) → has key (xs ++ k ∷ ys) ≡ true → (same || has key (xs ++ k ∷ ys)) ≡ true
  insertion true rest = refl
  insertion false rest = rest

-- insertion on either side
pub with_left : (key k : ℕ) (xs ys : List ℕ) → key < k → with_key key (xs ++ k ∷ ys) ≡ with_key key xs ++ k ∷ ys
with_left key k [] ys less = insertion (nat_lt key k) (grind (arith, nat_tests)) where
  insertion : (first : Bool) → first ≡ true → (if first then key ∷ k ∷ ys else (if key == k then k ∷ ys else k ∷ with_key key ys)) ≡ key ∷ k ∷ ys
  insertion true is = refl
  insertion false is = cc
with_left key k (x ∷ xs) ys less = insertion (nat_lt key x) (key == x) (with_left key k xs ys less) where
  insertion : (first same : Bool) → with_key key (xs ++ k ∷ ys) ≡ with_key key xs ++ k ∷ ys
      → (if first then key ∷ x ∷ (xs ++ k ∷ ys) else (if same then x ∷ (xs ++ k ∷ ys) else x ∷ with_key key (xs ++ k ∷ ys)))
      ≡ (if first then key ∷ x ∷ xs else (if same then x ∷ xs else x ∷ with_key key xs)) ++ k ∷ ys
  insertion true same rest = refl
  insertion false true rest = refl
  insertion false false rest = ap (λ zs. x ∷ zs) rest

pub with_low : (key b : ℕ) (low high : List ℕ) → key < b → AllByRecursion (λ k. b ≤ k) high
    → with_key key (low ++ high) ≡ with_key key low ++ high
with_low key b low [] less up = ap (with_key key) (append-nil low) ∙ sym (append-nil (with_key key low))
with_low key b low (y ∷ high) less up = with_left key y low high (omega (arith, less, up.0))

pub with_high : (key b : ℕ) (low high : List ℕ) → b ≤ key → AllByRecursion (λ k. k < b) low
    → with_key key (low ++ high) ≡ low ++ with_key key high
with_high key b [] high le down = refl
with_high key b (x ∷ low) high le down = with_past key x (low ++ high) (omega (arith, le, down.0)) ∙ ap (λ zs. x ∷ zs) (with_high key b low high le down.1)

pub with_right : (key k : ℕ) (xs ys : List ℕ) → k < key → StrictlyAscends (xs ++ k ∷ ys) → with_key key (xs ++ k ∷ ys) ≡ xs ++ k ∷ with_key key ys
with_right key k xs ys less up =
    with_high key k xs (k ∷ ys) (omega (arith, less)) (all_below_key xs k ys up) ∙ ap (λ zs. xs ++ zs) (with_past key k ys less)

pub with_present : (key : ℕ) (xs : List ℕ) → StrictlyAscends xs → has key xs ≡ true → with_key key xs ≡ xs
with_present key [] up there = cc
with_present key (x ∷ xs) up there = insertion (nat_lt key x) (key == x) refl refl there (with_present key xs up.1) where
  insertion : (first same : Bool) → nat_lt key x ≡ first → (key == x) ≡ same → (same || has key xs) ≡ true
      → (has key xs ≡ true → with_key key xs ≡ xs)
      → (if first then key ∷ x ∷ xs else (if same then x ∷ xs else x ∷ with_key key xs)) ≡ x ∷ xs
  insertion true true is is' there rest = absurd (grind (arith, nat_tests))
  insertion true false is is' there rest =
      let none = has_none key xs (all_above key x xs (grind (arith, nat_tests)) up.0) in
      cc
  insertion false true is is' there rest = refl
  insertion false false is is' there rest = ap (λ zs. x ∷ zs) (rest there)

-- removal on either side
pub without_low : (key b : ℕ) (low high : List ℕ) → key < b → AllByRecursion (λ k. b ≤ k) high
    → without_key key (low ++ high) ≡ without_key key low ++ high
without_low key b [] high less up = without_none key high (all_map (λ k. b ≤ k) (λ k. key < k) (λ k le. omega (arith, less, le)) high up)
without_low key b (x ∷ low) high less up = step (key == x) (without_low key b low high less up) where
  step : (same : Bool) → without_key key (low ++ high) ≡ without_key key low ++ high
      → (if same then low ++ high else x ∷ without_key key (low ++ high)) ≡ (if same then low else x ∷ without_key key low) ++ high
  step true rest = refl
  step false rest = ap (λ zs. x ∷ zs) rest

pub without_high : (key b : ℕ) (low high : List ℕ) → b ≤ key → AllByRecursion (λ k. k < b) low
    → without_key key (low ++ high) ≡ low ++ without_key key high
without_high key b [] high le down = refl
without_high key b (x ∷ low) high le down = without_past key x (low ++ high) (omega (arith, le, down.0)) ∙ ap (λ zs. x ∷ zs) (without_high key b low high le down.1)

pub without_left : (key k : ℕ) (xs ys : List ℕ) → key < k → StrictlyAscends (xs ++ k ∷ ys) → without_key key (xs ++ k ∷ ys) ≡ without_key key xs ++ k ∷ ys
without_left key k xs ys less up = without_low key k xs (k ∷ ys) less (from_key xs k ys up)

pub without_right : (key k : ℕ) (xs ys : List ℕ) → k < key → StrictlyAscends (xs ++ k ∷ ys) → without_key key (xs ++ k ∷ ys) ≡ xs ++ k ∷ without_key key ys
without_right key k xs ys less up =
    without_high key k xs (k ∷ ys) (omega (arith, less)) (all_below_key xs k ys up) ∙ ap (λ zs. xs ++ zs) (without_past key k ys less)

pub without_here : (key k : ℕ) (xs ys : List ℕ) → key ≡ k → StrictlyAscends (xs ++ k ∷ ys) → without_key key (xs ++ k ∷ ys) ≡ xs ++ ys
without_here key k [] ys is up = insertion (key == k) (grind (arith, nat_tests)) where
  insertion : (same : Bool) → same ≡ true → (if same then ys else k ∷ without_key key ys) ≡ ys
  insertion true met = refl
  insertion false met = cc
without_here key k (x ∷ xs) ys is up =
    let before : x < k = all_at (λ y. x < y) xs k ys up.0 in
    without_past key x (xs ++ k ∷ ys) (omega arith) ∙ ap (λ zs. x ∷ zs) (without_here key k xs ys is up.1)

-- the least greater key on either side
pub least_left : (key k : ℕ) (xs ys : List ℕ) (found : ℕ) → least_above key xs ≡ Some found → least_above key (xs ++ k ∷ ys) ≡ Some found
least_left key k [] ys found is = absurd (cc)
least_left key k (x ∷ xs) ys found is = insertion (nat_lt key x) is (least_left key k xs ys found) where
  insertion : (more : Bool) → (if more then Some x else least_above key xs) ≡ Some found
      → (least_above key xs ≡ Some found → least_above key (xs ++ k ∷ ys) ≡ Some found)
      → (if more then Some x else least_above key (xs ++ k ∷ ys)) ≡ Some found
  insertion true is rest = is
  insertion false is rest = rest is

pub least_here : (key k : ℕ) (xs ys : List ℕ) → key < k → least_above key xs ≡ None → least_above key (xs ++ k ∷ ys) ≡ Some k
least_here key k [] ys less none = insertion (nat_lt key k) (grind (arith, nat_tests)) where
  insertion : (more : Bool) → more ≡ true → (if more then Some k else least_above key ys) ≡ Some k
  insertion true met = refl
  insertion false met = cc
least_here key k (x ∷ xs) ys less none = insertion (nat_lt key x) none (least_here key k xs ys less) where
  insertion : (more : Bool) → (if more then Some x else least_above key xs) ≡ None
      → (least_above key xs ≡ None → least_above key (xs ++ k ∷ ys) ≡ Some k)
      → (if more then Some x else least_above key (xs ++ k ∷ ys)) ≡ Some k
  insertion true none rest = absurd (cc)
  insertion false none rest = rest none

pub least_past : (key x : ℕ) (xs : List ℕ) → x ≤ key → least_above key (x ∷ xs) ≡ least_above key xs
least_past key x xs le = insertion (nat_lt key x) refl where
  insertion : (more : Bool) → nat_lt key x ≡ more → (if more then Some x else least_above key xs) ≡ least_above key xs
  insertion true is = absurd (grind (arith, nat_tests, le))
  insertion false is = refl

pub next_high : (key b : ℕ) (low high : List ℕ) → b ≤ key → AllByRecursion (λ k. k < b) low
    → least_above key (low ++ high) ≡ least_above key high
next_high key b [] high le down = refl
next_high key b (x ∷ low) high le down = least_past key x (low ++ high) (omega (arith, le, down.0)) ∙ next_high key b low high le down.1

pub least_right : (key k : ℕ) (xs ys : List ℕ) → k ≤ key → StrictlyAscends (xs ++ k ∷ ys) → least_above key (xs ++ k ∷ ys) ≡ least_above key ys
least_right key k xs ys le up = next_high key k xs (k ∷ ys) le (all_below_key xs k ys up) ∙ least_past key k ys le

pub ruleset looking = (has_left, has_right, has_here, ascends_front, ascends_after)

pub ruleset nexts = (least_left, least_here, least_right, ascends_front, ascends_after)
