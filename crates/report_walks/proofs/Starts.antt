-- The table of the leaves that start at each tick, one leaf more.
use Rattle.std.proofs.Common.{◌≡◌, ℕ, zero, suc, ◌+◌, ◌*◌, ◌<◌, inl, inr, List, [], ◌∷◌, length, Option, Some, refl, sym, ap, subst, ◌∙◌, arith}
use Rattle.std.specs.Prelude.{set, slice_get}
use Rattle.std.proofs.lemmas.Bool.{cases_lt, cases_eq}
use Rattle.std.proofs.lemmas.Option.{same_Some}
use Rattle.batch_history.specs.declared.row.Row.{Row}
use Rattle.report_walks.specs.Code.Spans.{IsRow, AreTimed}

set_here : (xs : List (Option ℕ)) (i : ℕ) (x : Option ℕ) → i < length xs → slice_get (set xs i x) i ≡ Some x
set_here [] i x low = absurd (omega (arith, low))
set_here (y ∷ xs) zero x low = refl
set_here (y ∷ xs) (suc i) x low = set_here xs i x (omega (arith, low))

set_there : (xs : List (Option ℕ)) (i j : ℕ) (x : Option ℕ) → (j ≡ i → ⊥) → slice_get (set xs i x) j ≡ slice_get xs j
set_there [] i j x other = refl
set_there (y ∷ xs) zero zero x other = absurd (other refl)
set_there (y ∷ xs) zero (suc j) x other = refl
set_there (y ∷ xs) (suc i) zero x other = refl
set_there (y ∷ xs) (suc i) (suc j) x other = set_there xs i j x (λ same. other (ap suc same))

module _ (rows : List Row) (starts : List (Option ℕ)) (leaf : ℕ) (at : Row) (timed : AreTimed rows) (long : length starts ≡ 2 * length rows) (is_at : IsRow rows leaf at) where
  inside : at.start < length starts
  inside = omega (arith, timed.starts_first leaf at is_at, timed.small leaf at is_at, long)

  pub each_more : ((u : ℕ) (row : Row) → u < leaf → IsRow rows u row → slice_get starts row.start ≡ Some (Some u))
      → (u : ℕ) (row : Row) → u < leaf + 1 → IsRow rows u row → slice_get (set starts at.start (Some leaf)) row.start ≡ Some (Some u)
  each_more each u row low is = elim (cases_lt u leaf) [
    | inl less ↦ set_there starts at.start row.start (Some leaf) (timed.apart u leaf row at (λ same. omega (arith, less, same)) is is_at) ∙ each u row less is
    | inr more ↦ (
        let here : u ≡ leaf = omega (arith, low, more) in
        let same : row ≡ at = same_Some row at (sym (subst (λ (v : ℕ). slice_get rows v ≡ Some row) here is) ∙ is_at) in
        subst (λ (r : Row). slice_get (set starts at.start (Some leaf)) r.start ≡ Some (Some u)) (sym same)
        (set_here starts at.start (Some leaf) inside ∙ ap (λ (v : ℕ). Some (Some v)) (sym here)))
  ]

  pub only_more : ((tick u : ℕ) → slice_get starts tick ≡ Some (Some u) → (row : Row) × IsRow rows u row × (row.start ≡ tick))
      → (tick u : ℕ) → slice_get (set starts at.start (Some leaf)) tick ≡ Some (Some u) → (row : Row) × IsRow rows u row × (row.start ≡ tick)
  only_more only tick u is = elim (cases_eq tick at.start) [
    | inl same ↦ (
        let set_is : slice_get (set starts at.start (Some leaf)) tick ≡ Some (Some leaf) = subst (λ (t : ℕ). slice_get (set starts at.start (Some leaf)) t ≡ Some (Some leaf)) (sym same) (set_here starts at.start (Some leaf) inside) in
        let one : leaf ≡ u = let both : Some (Some leaf) ≡ Some (Some u) = sym set_is ∙ is in cc in
        (at, subst (λ (v : ℕ). IsRow rows v at) one is_at, sym same))
    | inr other ↦ only tick u (sym (set_there starts at.start tick (Some leaf) other) ∙ is)
  ]
