-- Ascending lists of entries, cut at the place of a key.
use Rattle.std.proofs.Common.{◌≡◌, ℕ, ◌+◌, ◌<◌, ◌≤◌, Bool, true, false, ◌==◌, nat_lt, if◌then◌else◌, List, [], ◌∷◌, ◌++◌, length, take, drop, get_or, set, Some, None, refl, sym, ap, ◌∙◌, subst, inl, inr, add-one, arith}
use Rattle.std.specs.List.{AllByRecursion, insert, remove}
use Rattle.std.proofs.lemmas.Bool.{cases_order}
use Rattle.std.proofs.lemmas.Bool.Decides.{nat_tests}
use Rattle.std.proofs.lemmas.List.{take-append-drop, take_more, drop_more, drop_all, take-set, drop-set}
use Rattle.key_sets.proofs.KeyLemmas.Ascending.{all_map}
use Rattle.keyed_pieces.specs.Keyed.{AreBelow, AreFrom}
use Rattle.rank_nodes.specs.declared.entry.Entry.{Entry}
use Rattle.rank_nodes.specs.Maps.{key_of, Ascends, value_at, with_entry, without_entry}
use Rattle.rank_nodes.specs.Code.Splits.{IsSplit}
use Rattle.rank_nodes.proofs.EntryLemmas.Ascending.{all_append, below_entry, above_entry}
use Rattle.rank_nodes.proofs.EntryLemmas.Beside.{value_high, value_here, with_here, with_high, without_here}

-- a list around one of its places
pub around_place : (at : ℕ) (xs : List Entry) (d : Entry) → at < length xs → xs ≡ take at xs ++ get_or xs at d ∷ drop (at + 1) xs
around_place at xs d l = sym (take-append-drop at xs) ∙ ap (λ z. take at xs ++ z) (drop_more xs at d l)

ascends_around : (at : ℕ) (xs : List Entry) (d : Entry) → Ascends xs → at < length xs → Ascends (take at xs ++ get_or xs at d ∷ drop (at + 1) xs)
ascends_around at xs d up l = subst Ascends (around_place at xs d l) up

-- the entries up to one below a key, and from one that is not
pub below_up_to : (key at : ℕ) (xs : List Entry) (d : Entry) → Ascends xs → at < length xs → (get_or xs at d).key < key → AreBelow key_of key (take (at + 1) xs)
below_up_to key at xs d up l less =
    let s = ascends_around at xs d up l in
    rw (take_more xs at d l) (all_append (λ e. e.key < key) (take at xs) (get_or xs at d ∷ [])
    (all_map (λ (e : Entry). e.key < (get_or xs at d).key) (λ (e : Entry). e.key < key) (λ (e : Entry) h. omega (arith, h, less)) (take at xs) (below_entry (take at xs) (get_or xs at d) (drop (at + 1) xs) s))
    (less, tt))

pub above_from : (key at : ℕ) (xs : List Entry) (d : Entry) → Ascends xs → at < length xs → key ≤ (get_or xs at d).key → AreFrom key_of key (drop at xs)
above_from key at xs d up l le =
    let s = ascends_around at xs d up l in
    rw (drop_more xs at d l) (le, all_map (λ (e : Entry). (get_or xs at d).key < e.key) (λ (e : Entry). key ≤ e.key) (λ (e : Entry) h. omega (arith, h, le)) (drop (at + 1) xs) (above_entry (take at xs) (get_or xs at d) (drop (at + 1) xs) s))

-- the value of a key whose place is known
pub value_nowhere : (key at : ℕ) (xs : List Entry) → IsSplit key xs (take at xs) (drop at xs) → length xs ≤ at → value_at key xs ≡ None
value_nowhere key at xs cut l =
    let all = ap (value_at key) cut.is ∙ value_high key key (take at xs) (drop at xs) (omega arith) cut.below in
    all ∙ ap (value_at key) (drop_all at xs l)

pub value_found : (key at : ℕ) (xs : List Entry) (d : Entry) → Ascends xs → at < length xs → (get_or xs at d).key ≡ key → value_at key xs ≡ Some (get_or xs at d).val
value_found key at xs d up l is =
    ap (value_at key) (around_place at xs d l) ∙ value_here key (get_or xs at d) (take at xs) (drop (at + 1) xs) (sym is) (ascends_around at xs d up l)

none_above : (key : ℕ) (xs : List Entry) → AllByRecursion (λ (e : Entry). key < e.key) xs → value_at key xs ≡ None
none_above key [] each = refl
none_above key (e ∷ xs) each =
    let test : (key == e.key) ≡ false = grind (arith, nat_tests, each.0) in
    rw test (none_above key xs each.1)

pub value_missed : (key at : ℕ) (xs : List Entry) (d : Entry) → Ascends xs → IsSplit key xs (take at xs) (drop at xs) → at < length xs → ((get_or xs at d).key ≡ key → ⊥) → value_at key xs ≡ None
value_missed key at xs d up cut l other =
    let above = rw (drop_more xs at d l) at cut.above in
    let k = get_or xs at d in
    let more : key < k.key = grind (arith, above.0, other) in
    let rest : AllByRecursion (λ (e : Entry). key < e.key) (drop (at + 1) xs) = all_map (λ (e : Entry). k.key < e.key) (λ (e : Entry). key < e.key) (λ (e : Entry) h. omega (arith, h, more)) (drop (at + 1) xs) (above_entry (take at xs) k (drop (at + 1) xs) (ascends_around at xs d up l)) in
    ap (value_at key) cut.is ∙ value_high key key (take at xs) (drop at xs) (omega arith) cut.below ∙ ap (value_at key) (drop_more xs at d l) ∙ none_above key (k ∷ drop (at + 1) xs) (more, rest)

-- inserting an entry at the place of its key
with_between : (key val : ℕ) (high : List Entry) → AreFrom key_of key high → value_at key high ≡ None → with_entry key val high ≡ record { key = key; val = val } ∷ high
with_between key val [] above none = refl
with_between key val (e ∷ high) above none = step (nat_lt key e.key) (key == e.key) refl refl none where
  step : (first same : Bool) → nat_lt key e.key ≡ first → (key == e.key) ≡ same → (if same then Some e.val else value_at key high) ≡ None
      → (if first then record { key = key; val = val } ∷ e ∷ high else (if same then record { key = key; val = val } ∷ high else e ∷ with_entry key val high)) ≡ record { key = key; val = val } ∷ e ∷ high
  step true same is is' none = refl
  step false true is is' none = absurd (cc)
  step false false is is' none = absurd (grind (arith, nat_tests, above.0))

pub with_at : (key val at : ℕ) (xs : List Entry) → IsSplit key xs (take at xs) (drop at xs) → value_at key xs ≡ None → with_entry key val xs ≡ insert xs at (record { key = key; val = val })
with_at key val at xs cut none =
    let none' = sym (ap (value_at key) cut.is ∙ value_high key key (take at xs) (drop at xs) (omega arith) cut.below) ∙ none in
    ap (with_entry key val) cut.is ∙ with_high key val key (take at xs) (drop at xs) (omega arith) cut.below
    ∙ ap (λ z. take at xs ++ z) (with_between key val (drop at xs) cut.above none')

-- the entry of a present key is at the key's place
pub within_present : (key at v : ℕ) (xs : List Entry) → IsSplit key xs (take at xs) (drop at xs) → value_at key xs ≡ Some v → at < length xs
within_present key at v xs cut there =
    elim (cases_order at (length xs)) [
      | inl same ↦ let none = value_nowhere key at xs cut (omega arith) in absurd (cc)
      | inr (inl less) ↦ less
      | inr (inr more) ↦ let none = value_nowhere key at xs cut (omega arith) in absurd (cc)
    ]

pub key_present : (key at v : ℕ) (xs : List Entry) (d : Entry) → Ascends xs → IsSplit key xs (take at xs) (drop at xs) → value_at key xs ≡ Some v → key ≡ (get_or xs at d).key
key_present key at v xs d up cut there =
    let l = within_present key at v xs cut there in
    let above = rw (drop_more xs at d l) at cut.above in
    elim (cases_order key (get_or xs at d).key) [
      | inl same ↦ same
      | inr (inl less) ↦ let none = value_missed key at xs d up cut l (λ is. omega (arith, less, is)) in absurd (cc)
      | inr (inr more) ↦ absurd (omega (arith, above.0, more))
    ]

set_parts : (at : ℕ) (xs : List Entry) (e : Entry) → at < length xs → take at xs ++ e ∷ drop (at + 1) xs ≡ set xs at e
set_parts at xs e l = rw (take-set xs at e, drop-set xs at e l) at (take-append-drop at (set xs at e))

pub with_set : (key val at v : ℕ) (xs : List Entry) → Ascends xs → IsSplit key xs (take at xs) (drop at xs) → value_at key xs ≡ Some v → with_entry key val xs ≡ set xs at (record { key = key; val = val })
with_set key val at v xs up cut there =
    let d : Entry = record { key = key; val = val } in
    let l = within_present key at v xs cut there in
    ap (with_entry key val) (around_place at xs d l) ∙ with_here key val (get_or xs at d) (take at xs) (drop (at + 1) xs) (key_present key at v xs d up cut there) (ascends_around at xs d up l)
    ∙ set_parts at xs (record { key = key; val = val }) l

-- and removal takes it out there
pub without_at : (key at v : ℕ) (xs : List Entry) → Ascends xs → IsSplit key xs (take at xs) (drop at xs) → value_at key xs ≡ Some v → without_entry key xs ≡ remove xs at
without_at key at v xs up cut there =
    let d : Entry = record { key = key; val = v } in
    let l = within_present key at v xs cut there in
    ap (without_entry key) (around_place at xs d l) ∙ without_here key (get_or xs at d) (take at xs) (drop (at + 1) xs) (key_present key at v xs d up cut there) (ascends_around at xs d up l)
    ∙ ap (λ n. take at xs ++ drop n xs) (add-one at)
