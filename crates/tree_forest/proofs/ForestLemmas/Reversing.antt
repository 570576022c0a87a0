-- Reversed entries, and the first of their keys.
use Rattle.std.proofs.Common.{◌≡◌, ℕ, ◌-◌, List, [], ◌∷◌, ◌++◌, length, reverse, Some, None, Option, refl, sym, ap, ◌∙◌, subst, arith, length-append}
use Rattle.std.specs.Prelude.{slice_get}
use Rattle.std.proofs.lemmas.List.{reverse-append, reverse-reverse}
use Rattle.tree23.specs.declared.trees.KeyedTree.{KeyedTree}
use Rattle.tree23.specs.SideBySide.{entry_keys, AreKeyedTrees}
use Rattle.tree23.proofs.SideBySideLemmas.KeyedTrees.{entries_push}

-- reversed entries are still keyed trees
pub entries_turned : (entries : List KeyedTree) → AreKeyedTrees entries → AreKeyedTrees (reverse entries)
entries_turned [] each = tt
entries_turned (e ∷ entries) each = subst AreKeyedTrees (sym (reverse-append (e ∷ []) entries)) (entries_push (reverse entries) e (entries_turned entries each.1) each.0)

-- the first element of a concatenation
pub first_here : (k : ℕ) (xs ys : List ℕ) → Some k ≡ slice_get xs 0 → Some k ≡ slice_get (xs ++ ys) 0
first_here k [] ys is = absurd (cc)
first_here k (x ∷ xs) ys is = is

pub first_past : (first : Option ℕ) (xs ys : List ℕ) → None ≡ slice_get xs 0 → first ≡ slice_get ys 0 → first ≡ slice_get (xs ++ ys) 0
first_past first [] ys none is = is
first_past first (x ∷ xs) ys none is = absurd (cc)

-- the key of the last entry is the first key of the reversed entries
get_last : (xs : List KeyedTree) (e : KeyedTree) → slice_get (xs ++ e ∷ []) (length xs) ≡ Some e
get_last [] e = refl
get_last (x ∷ xs) e = get_last xs e

last_of : (items r : List KeyedTree) (e : KeyedTree) → reverse items ≡ e ∷ r → slice_get items (length items - 1) ≡ Some e
last_of items r e is =
    let snoc : items ≡ reverse r ++ e ∷ [] = sym (reverse-reverse items) ∙ ap reverse is ∙ reverse-append (e ∷ []) r in
    let place : length items - 1 ≡ length (reverse r) = omega (arith, ap length snoc, length-append (reverse r) (e ∷ [])) in
    ap (λ n. slice_get items n) place ∙ ap (λ z. slice_get z (length (reverse r))) snoc ∙ get_last (reverse r) e

pub first_after : (items : List KeyedTree) (e : KeyedTree) → slice_get items (length items - 1) ≡ Some e → Some e.key ≡ slice_get (entry_keys (reverse items)) 0
first_after items e is = step (reverse items) refl where
  step : (r : List KeyedTree) → reverse items ≡ r → Some e.key ≡ slice_get (entry_keys r) 0
  step [] eq =
      let none : items ≡ [] = sym (reverse-reverse items) ∙ ap reverse eq in
      let gone : None ≡ Some e = rw none at is in
      absurd (cc)
  step (e' ∷ r) eq = let same : Some e' ≡ Some e = sym (last_of items r e' eq) ∙ is in cc

pub none_after : (items : List KeyedTree) → slice_get items (length items - 1) ≡ None → None ≡ slice_get (entry_keys (reverse items)) 0
none_after items is = step (reverse items) refl where
  step : (r : List KeyedTree) → reverse items ≡ r → None ≡ slice_get (entry_keys r) 0
  step [] eq = refl
  step (e ∷ r) eq = let gone : Some e ≡ None = sym (last_of items r e eq) ∙ is in absurd (cc)
