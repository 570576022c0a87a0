-- Ascending lists of keys, cut at the place of a key.
use Rattle.std.proofs.Common.{◌≡◌, ℕ, ◌+◌, ◌<◌, ◌≤◌, Bool, true, false, ◌==◌, ◌||◌, nat_lt, if◌then◌else◌, List, [], ◌∷◌, ◌++◌, length, take, drop, get_or, Some, None, refl, sym, ap, ◌∙◌, subst, inl, inr, add-one, arith}
use Rattle.std.specs.List.{AllByRecursion, insert, remove}
use Rattle.std.proofs.lemmas.Bool.{cases_order}
use Rattle.std.proofs.lemmas.Bool.Decides.{nat_tests}
use Rattle.std.proofs.lemmas.List.{take-append-drop, take_more, drop_more, drop_all}
use Rattle.key_sets.specs.Keys.{StrictlyAscends, has, with_key, without_key, least_above}
use Rattle.key_sets.specs.Splits.{IsSplit}
use Rattle.key_sets.proofs.KeyLemmas.Ascending.{all_map, all_append, all_below_key, all_above_key, ascends_back}
use Rattle.key_sets.proofs.KeyLemmas.Beside.{has_none, has_past, has_high, with_past, without_here, least_past}

-- a list around one of its places
pub around_place : (at : ℕ) (xs : List ℕ) → at < length xs → xs ≡ take at xs ++ get_or xs at 0 ∷ drop (at + 1) xs
around_place at xs l = sym (take-append-drop at xs) ∙ ap (λ z. take at xs ++ z) (drop_more xs at 0 l)

pub ascends_around : (at : ℕ) (xs : List ℕ) → StrictlyAscends xs → at < length xs → StrictlyAscends (take at xs ++ get_or xs at 0 ∷ drop (at + 1) xs)
ascends_around at xs up l = subst StrictlyAscends (around_place at xs l) up

-- the keys up to one below a key, and from one that is not
pub below_up_to : (key at : ℕ) (xs : List ℕ) → StrictlyAscends xs → at < length xs → get_or xs at 0 < key → AllByRecursion (λ k. k < key) (take (at + 1) xs)
below_up_to key at xs up l less =
    let s = ascends_around at xs up l in
    rw (take_more xs at 0 l) (all_append (λ k. k < key) (take at xs) (get_or xs at 0 ∷ [])
    (all_map (λ k. k < get_or xs at 0) (λ k. k < key) (λ k h. omega arith) (take at xs) (all_below_key (take at xs) (get_or xs at 0) (drop (at + 1) xs) s))
    (less, tt))

pub above_from : (key at : ℕ) (xs : List ℕ) → StrictlyAscends xs → at < length xs → key ≤ get_or xs at 0 → AllByRecursion (λ k. key ≤ k) (drop at xs)
above_from key at xs up l le =
    let s = ascends_around at xs up l in
    rw (drop_more xs at 0 l) (le, all_map (λ k. get_or xs at 0 < k) (λ k. key ≤ k) (λ k h. omega arith) (drop (at + 1) xs) (all_above_key (take at xs) (get_or xs at 0) (drop (at + 1) xs) s))

-- membership of a key whose place is known
has_after : (key : ℕ) (low high : List ℕ) → AllByRecursion (λ k. k < key) low → has key (low ++ high) ≡ has key high
has_after key low high below = has_high key key low high (omega arith) below

has_first : (key x : ℕ) (xs : List ℕ) → StrictlyAscends (x ∷ xs) → key ≤ x → has key (x ∷ xs) ≡ (x == key)
has_first key x xs up le = insertion (key == x) refl where
  insertion : (same : Bool) → (key == x) ≡ same → (same || has key xs) ≡ (x == key)
  insertion true is = grind (arith, nat_tests)
  insertion false is =
      let none = has_none key xs (all_map (λ k. x < k) (λ k. key < k) (λ k h. omega arith) xs up.0) in
      grind (arith, nat_tests, none)

pub has_nowhere : (key at : ℕ) (xs : List ℕ) → IsSplit key xs (take at xs) (drop at xs) → length xs ≤ at → has key xs ≡ false
has_nowhere key at xs cut l = rw (drop_all at xs l) at (ap (has key) cut.is ∙ has_after key (take at xs) (drop at xs) cut.below)

pub has_at : (key at : ℕ) (xs : List ℕ) → StrictlyAscends xs → IsSplit key xs (take at xs) (drop at xs) → at < length xs → has key xs ≡ (get_or xs at 0 == key)
has_at key at xs up cut l =
    let s = ascends_around at xs up l in
    let above = rw (drop_more xs at 0 l) at cut.above in
    ap (has key) cut.is ∙ has_after key (take at xs) (drop at xs) cut.below ∙ ap (has key) (drop_more xs at 0 l)
    ∙ has_first key (get_or xs at 0) (drop (at + 1) xs) (ascends_back (take at xs) _ s) above.0

-- inserting a key at its place
with_first : (key x : ℕ) (xs : List ℕ) → key ≤ x → has key (x ∷ xs) ≡ false → with_key key (x ∷ xs) ≡ key ∷ x ∷ xs
with_first key x xs le none = insertion (nat_lt key x) (key == x) refl refl none where
  insertion : (first same : Bool) → nat_lt key x ≡ first → (key == x) ≡ same → (same || has key xs) ≡ false
      → (if first then key ∷ x ∷ xs else (if same then x ∷ xs else x ∷ with_key key xs)) ≡ key ∷ x ∷ xs
  insertion true same is is' none = refl
  insertion false true is is' none = absurd (cc)
  insertion false false is is' none = absurd (grind (arith, nat_tests, le))

with_between : (key : ℕ) (low high : List ℕ) → AllByRecursion (λ k. k < key) low → AllByRecursion (λ k. key ≤ k) high → has key (low ++ high) ≡ false → with_key key (low ++ high) ≡ low ++ key ∷ high
with_between key [] [] below above none = refl
with_between key [] (x ∷ high) below above none = with_first key x high above.0 none
with_between key (x ∷ low) high below above none =
    with_past key x (low ++ high) below.0 ∙ ap (λ z. x ∷ z) (with_between key low high below.1 above (sym (has_past key x (low ++ high) below.0) ∙ none))

pub with_at : (key at : ℕ) (xs : List ℕ) → IsSplit key xs (take at xs) (drop at xs) → has key xs ≡ false → with_key key xs ≡ insert xs at key
with_at key at xs cut none =
    ap (with_key key) cut.is ∙ with_between key (take at xs) (drop at xs) cut.below cut.above (ap (has key) (sym cut.is) ∙ none)

-- removing a key at its place
pub without_at : (key at : ℕ) (xs : List ℕ) → StrictlyAscends xs → at < length xs → key ≡ get_or xs at 0 → without_key key xs ≡ remove xs at
without_at key at xs up l is =
    ap (without_key key) (around_place at xs l) ∙ without_here key (get_or xs at 0) (take at xs) (drop (at + 1) xs) is (ascends_around at xs up l)
    ∙ ap (λ n. take at xs ++ drop n xs) (add-one at)

-- the place after all keys that are not above `key`
pub record IsAfter (key : ℕ) (xs : List ℕ) (at : ℕ) : Type 0 where
  pub up_to : AllByRecursion (λ k. k ≤ key) (take at xs)
  pub above : AllByRecursion (λ k. key < k) (drop at xs)

above_absent : (key : ℕ) (xs : List ℕ) → AllByRecursion (λ k. key ≤ k) xs → has key xs ≡ false → AllByRecursion (λ k. key < k) xs
above_absent key [] above none = tt
above_absent key (x ∷ xs) above none = insertion (key == x) refl none (above_absent key xs above.1) where
  insertion : (same : Bool) → (key == x) ≡ same → (same || has key xs) ≡ false → (has key xs ≡ false → AllByRecursion (λ k. key < k) xs)
      → (key < x) × AllByRecursion (λ k. key < k) xs
  insertion true is none rest = absurd (cc)
  insertion false is none rest = let le : key ≤ x = above.0 in (grind (arith, nat_tests), rest none)

pub after_absent : (key at : ℕ) (xs : List ℕ) → IsSplit key xs (take at xs) (drop at xs) → has key xs ≡ false → IsAfter key xs at
after_absent key at xs cut none = record {
  up_to = all_map (λ k. k < key) (λ k. k ≤ key) (λ k h. omega arith) (take at xs) cut.below;
  above = above_absent key (drop at xs) cut.above (sym (ap (has key) cut.is ∙ has_after key (take at xs) (drop at xs) cut.below) ∙ none);
}

pub within_present : (key at : ℕ) (xs : List ℕ) → IsSplit key xs (take at xs) (drop at xs) → has key xs ≡ true → at < length xs
within_present key at xs cut there =
    elim (cases_order at (length xs)) [
      | inl same ↦ let none = has_nowhere key at xs cut (omega arith) in absurd (cc)
      | inr (inl less) ↦ less
      | inr (inr more) ↦ let none = has_nowhere key at xs cut (omega arith) in absurd (cc)
    ]

pub key_present : (key at : ℕ) (xs : List ℕ) → StrictlyAscends xs → IsSplit key xs (take at xs) (drop at xs) → has key xs ≡ true → key ≡ get_or xs at 0
key_present key at xs up cut there =
    let is = has_at key at xs up cut (within_present key at xs cut there) in
    grind (arith, nat_tests)

pub after_present : (key at : ℕ) (xs : List ℕ) → StrictlyAscends xs → IsSplit key xs (take at xs) (drop at xs) → has key xs ≡ true → IsAfter key xs (at + 1)
after_present key at xs up cut there =
    let l = within_present key at xs cut there in
    let is = key_present key at xs up cut there in
    record {
      up_to = rw (take_more xs at 0 l) (all_append (λ k. k ≤ key) (take at xs) (get_or xs at 0 ∷ []) (all_map (λ k. k < key) (λ k. k ≤ key) (λ k h. omega arith) (take at xs) cut.below) (omega arith, tt));
      above = all_map (λ k. get_or xs at 0 < k) (λ k. key < k) (λ k h. omega arith) (drop (at + 1) xs) (all_above_key (take at xs) (get_or xs at 0) (drop (at + 1) xs) (ascends_around at xs up l));
    }

-- the least key above a key
least_after : (key : ℕ) (low high : List ℕ) → AllByRecursion (λ k. k ≤ key) low → least_above key (low ++ high) ≡ least_above key high
least_after key [] high below = refl
least_after key (x ∷ low) high below = least_past key x (low ++ high) below.0 ∙ least_after key low high below.1

least_first : (key x : ℕ) (xs : List ℕ) → key < x → least_above key (x ∷ xs) ≡ Some x
least_first key x xs less = insertion (nat_lt key x) (grind (arith, nat_tests)) where
  insertion : (more : Bool) → more ≡ true → (if more then Some x else least_above key xs) ≡ Some x
  insertion true met = refl
  insertion false met = cc

pub least_nowhere : (key at : ℕ) (xs : List ℕ) → IsAfter key xs at → length xs ≤ at → least_above key xs ≡ None
least_nowhere key at xs place l =
    ap (least_above key) (sym (take-append-drop at xs)) ∙ least_after key (take at xs) (drop at xs) place.up_to ∙ ap (least_above key) (drop_all at xs l)

pub least_at : (key at : ℕ) (xs : List ℕ) → IsAfter key xs at → at < length xs → least_above key xs ≡ Some (get_or xs at 0)
least_at key at xs place l =
    let above = rw (drop_more xs at 0 l) at place.above in
    ap (least_above key) (around_place at xs l) ∙ least_after key (take at xs) (get_or xs at 0 ∷ drop (at + 1) xs) place.up_to ∙ least_first key (get_or xs at 0) (drop (at + 1) xs) above.0
