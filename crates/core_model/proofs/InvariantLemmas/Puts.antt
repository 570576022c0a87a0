-- Functions with one value changed.
use Rattle.std.proofs.Common.{ℕ, ◌≡◌, ◌≢◌, arith, inl, inr, subst, sym}
use Rattle.std.proofs.lemmas.Bool.Decides.{nat_tests}
use Rattle.std.proofs.lemmas.Bool.{cases_eq}
use Rattle.core_model.specs.State.{put}

-- the changed value
pub put_at : {A : Type 0} (f : ℕ → A) (w v : ℕ) (x : A) → v ≡ w → put f w x v ≡ x
put_at f w v x e = grind (arith, nat_tests)

-- the other values
pub put_other : {A : Type 0} (f : ℕ → A) (w v : ℕ) (x : A) → v ≢ w → put f w x v ≡ f v
put_other f w v x e = grind (arith, nat_tests)

-- what holds of x at w and of f elsewhere
pub put_each : {A : Type 0} (P : A → Type 0) (f : ℕ → A) (w : ℕ) (x : A) → P x → ((v : ℕ) → v ≢ w → P (f v)) → (v : ℕ) → P (put f w x v)
put_each P f w x here there v = elim (cases_eq v w) [
  | inl e ↦ subst P (sym (put_at f w v x e)) here
  | inr e ↦ subst P (sym (put_other f w v x e)) (there v e)
]
