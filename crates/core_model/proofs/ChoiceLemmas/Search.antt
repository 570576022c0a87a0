-- What the searches of a turn find.
use Rattle.std.proofs.Common.{ℕ, zero, suc, ◌≡◌, ◌<◌, ◌||◌, Bool, true, false, if◌then◌else◌, Option, Some, None, arith, refl, inl, inr}
use Rattle.std.proofs.lemmas.Bool.{cases_eq}
use Rattle.core_model.specs.Choice.{some_below, first_of, least_below}

-- what holds of both sides of a choice holds of it
pub if_both : {A : Type 0} (P : A → Type 0) (b : Bool) (x y : A) → (b ≡ true → P x) → (b ≡ false → P y) → P (if b then x else y)
if_both P true x y so else_so = so refl
if_both P false x y so else_so = else_so refl

neither_true : (a b : Bool) → (a || b) ≡ false → (a ≡ false) × (b ≡ false)
neither_true true b e = absurd (grind arith)
neither_true false b e = (refl, e)

abbrev IsFound : (ℕ → Bool) → Type 0
IsFound chosen = (n : ℕ) × (chosen n ≡ true)

found_step : (chosen : ℕ → Bool) (k : ℕ) (a b : Bool) → chosen k ≡ b → (a || b) ≡ true → (a ≡ true → IsFound chosen) → IsFound chosen
found_step chosen k true b e either before = before refl
found_step chosen k false b e either before = (k, rw e either)

pub some_is_found : (chosen : ℕ → Bool) (k : ℕ) → some_below chosen k ≡ true → IsFound chosen
unfolding some_below
some_is_found chosen zero e = absurd (grind arith)
some_is_found chosen (suc k) e = found_step chosen k (some_below chosen k) (chosen k) refl e (some_is_found chosen k)

pub none_is_found : (chosen : ℕ → Bool) (k : ℕ) → some_below chosen k ≡ false → (n : ℕ) → n < k → chosen n ≡ false
unfolding some_below
none_is_found chosen zero e n below = absurd (omega (arith, below))
none_is_found chosen (suc k) e n below =
    let both = neither_true (some_below chosen k) (chosen k) e in
    elim (cases_eq n k) [
      | inl same ↦ rw same both.1
      | inr other ↦ none_is_found chosen k both.0 n (omega (arith, below, other))
    ]

least_step : (chosen : ℕ → Bool) (k u : ℕ) (o : Option ℕ) (b : Bool) → chosen k ≡ b → first_of o b k ≡ Some u → (o ≡ Some u → chosen u ≡ true) → chosen u ≡ true
least_step chosen k u (Some x) b e least before = before least
least_step chosen k u None true e least before = grind arith
least_step chosen k u None false e least before = absurd (grind arith)

pub least_is_chosen : (chosen : ℕ → Bool) (k u : ℕ) → least_below chosen k ≡ Some u → chosen u ≡ true
unfolding least_below
least_is_chosen chosen zero u e = absurd (grind arith)
least_is_chosen chosen (suc k) u e = least_step chosen k u (least_below chosen k) (chosen k) refl e (least_is_chosen chosen k u)

no_first : (o : Option ℕ) (b : Bool) (k : ℕ) → first_of o b k ≡ None → (o ≡ None) × (b ≡ false)
no_first (Some x) b k e = absurd (grind arith)
no_first None true k e = absurd (grind arith)
no_first None false k e = (refl, refl)

pub no_least : (chosen : ℕ → Bool) (k : ℕ) → least_below chosen k ≡ None → (n : ℕ) → n < k → chosen n ≡ false
unfolding least_below
no_least chosen zero e n below = absurd (omega (arith, below))
no_least chosen (suc k) e n below =
    let both = no_first (least_below chosen k) (chosen k) k e in
    elim (cases_eq n k) [
      | inl same ↦ rw same both.1
      | inr other ↦ no_least chosen k both.0 n (omega (arith, below, other))
    ]
