-- That the structure is lost stays known to the seat of some caller.
use Rattle.std.proofs.Common.{◌≡◌, ◌⊎◌, ℕ, zero, suc, ◌<◌, List, [], ◌∷◌, ◌++◌, length, set, Bool, true, false, ◌||◌, if◌then◌else◌, sym, refl, ap, ◌∙◌, subst, inl, inr, arith, length-set}
use mathlib.Core.Logic.{dite}
use mathlib.Core.Option.{some, some-injective, some-ne-none}
use native.Mathlib.Decide.{ℕ_discrete}
use lib.ListN.{get_elem?}
use Rattle.atomic_table.proofs.Lists.{set_here, set_else, at_longer, at_last}
use Rattle.shared_calls.specs.declared.view.Entry.{Entry}
use Rattle.shared_calls.specs.declared.view.View.{View}
use Rattle.shared_calls.specs.Rule.{IsKnownToSome}

pub true_or : (a b : Bool) → a ≡ true → (a || b) ≡ true
true_or true b e = refl
true_or false b e = cc

pub or_true : (a b : Bool) → b ≡ true → (a || b) ≡ true
or_true true b e = refl
or_true false b e = e

pub one_is_true : (a b : Bool) → (a || b) ≡ true → (a ≡ true) ⊎ (b ≡ true)
one_is_true true b e = inl refl
one_is_true false b e = inr e

pub not_true : (a : Bool) → (a ≡ true → ⊥) → a ≡ false
not_true false never = refl
not_true true never = absurd (never refl)

module _ {O R : Type 0} where
  -- what two seats know of a lost structure, one of them knows
  pub both_know : (a b : Bool) (x y log : List (Entry O R)) (flag p : ℕ) → (a ≡ true → (flag ≡ p) × (log ≡ x)) → (b ≡ true → (flag ≡ p) × (log ≡ y))
      → (a || b) ≡ true → (flag ≡ p) × (log ≡ (if a then x else y))
  both_know true b x y log flag p left right e = left refl
  both_know false b x y log flag p left right e = right e

  pub inside : (views : List (View O R)) (id : ℕ) (v : View O R) → get_elem? views id ≡ some v → id < length views
  inside [] id v at = absurd (some-ne-none v (sym at))
  inside (x ∷ views) zero v at = omega arith
  inside (x ∷ views) (suc id) v at = let less = inside views id v at in omega (arith, less)

  -- the seat that knows it is this one
  knows : (views : List (View O R)) (id : ℕ) (v : View O R) → get_elem? views id ≡ some v → (t : IsKnownToSome views) → t.0 ≡ id → (v.from < v.to) × (v.lost ≡ true)
  knows views id v me t is =
      let same : t.1 ≡ v = some-injective t.1 v (sym t.2 ∙ (ap (λ (i : ℕ). get_elem? views i) is ∙ me)) in
      (subst (λ (u : View O R). u.from < u.to) same t.3, ap (λ (u : View O R). u.lost) (sym same) ∙ t.4)

  -- a seat's view changes
  pub known_set : (views : List (View O R)) (id : ℕ) (v w : View O R) → get_elem? views id ≡ some v
      → (v.from < v.to → v.lost ≡ true → (w.from < w.to) × (w.lost ≡ true)) → IsKnownToSome views → IsKnownToSome (set views id w)
  known_set views id v w me stays t = dite (ℕ_discrete t.0 id)
      (λ is. let k = knows views id v me t is in let now = stays k.0 k.1 in (id, w, set_here views id w (inside views id v me), now.0, now.1))
      (λ far. (t.0, t.1, set_else views id t.0 w far ∙ t.2, t.3, t.4))

  -- a seat is added
  pub known_longer : (views more : List (View O R)) → IsKnownToSome views → IsKnownToSome (views ++ more)
  known_longer views more t = (t.0, t.1, at_longer views more t.0 t.1 t.2, t.3, t.4)

  -- a seat's view goes to a new seat
  pub known_moves : (views : List (View O R)) (id : ℕ) (v spent : View O R) → get_elem? views id ≡ some v → IsKnownToSome views → IsKnownToSome (set views id spent ++ v ∷ [])
  known_moves views id v spent me t = dite (ℕ_discrete t.0 id)
      (λ is. let k = knows views id v me t is in (length views, v, at_last (set views id spent) v (length views) (length-set views id spent), k.0, k.1))
      (λ far. (t.0, t.1, at_longer (set views id spent) (v ∷ []) t.0 t.1 (set_else views id t.0 spent far ∙ t.2), t.3, t.4))

  -- two seats are joined
  pub known_joins : (views : List (View O R)) (id other : ℕ) (v w both spent : View O R) → ¬ (other ≡ id) → get_elem? views id ≡ some v → get_elem? views other ≡ some w
      → (v.from < v.to → v.lost ≡ true → (both.from < both.to) × (both.lost ≡ true)) → (w.from < w.to → w.lost ≡ true → (both.from < both.to) × (both.lost ≡ true))
      → IsKnownToSome views → IsKnownToSome (set (set views id both) other spent)
  known_joins views id other v w both spent ne me there left right t =
      let here : get_elem? (set (set views id both) other spent) id ≡ some both = set_else (set views id both) other id spent (λ e. ne (sym e)) ∙ set_here views id both (inside views id v me) in
      dite (ℕ_discrete t.0 id)
      (λ is. let k = knows views id v me t is in let now = left k.0 k.1 in (id, both, here, now.0, now.1))
      (λ far. dite (ℕ_discrete t.0 other)
      (λ is. let k = knows views other w there t is in let now = right k.0 k.1 in (id, both, here, now.0, now.1))
      (λ further. (t.0, t.1, set_else (set views id both) other t.0 spent further ∙ (set_else views id t.0 both far ∙ t.2), t.3, t.4)))
