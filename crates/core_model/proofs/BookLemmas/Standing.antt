-- What is found in a book stands there.
use Rattle.std.proofs.Common.{ℕ, suc, ◌≡◌, ◌+◌, Some, List, [], ◌∷◌, arith, refl, ap, subst, inl, inr}
use Rattle.std.specs.Prelude.{slice_get}
use Rattle.std.proofs.lemmas.Bool.{cases_eq}
use Rattle.core_model.proofs.Words.{Entry}
use Rattle.core_model.specs.Entries.{StandsAt}
use Rattle.core_model.specs.Operations.{Place, place_in, place_from, place_of}
use Rattle.batch_history.proofs.BookLemmas.Books.{picks_first, picks_later, place_in_batch, which_place}

-- in a batch, from a place on
stands_in : (k i : ℕ) (b : List Entry) (u : ℕ) (p : Place) → place_in k i b u ≡ Some p → (j : ℕ) × (p.place ≡ i + j) × (slice_get b j ≡ Some p.entry)
stands_in k i [] u p e = absurd (cc)
stands_in k i (x ∷ xs) u p e = elim (cases_eq x.leaf u) [
  | inl at ↦
      let first : Place = record { batch = k; place = i; entry = x } in
      let is : first ≡ p = picks_first x.leaf u first p (place_in k (i + 1) xs u) at e in
      let place : i ≡ p.place = ap (λ (q : Place). q.place) is in
      (0, omega (arith, place), ap (λ (q : Place). Some q.entry) is)
  | inr other ↦
      let later = stands_in k (i + 1) xs u p (picks_later x.leaf u (record { batch = k; place = i; entry = x }) p (place_in k (i + 1) xs u) other e) in
      let place = later.1 in
      (suc later.0, omega (arith, place), later.2)
]

-- in the batches from a number on
stands_from : (k : ℕ) (bs : List (List Entry)) (u : ℕ) (p : Place) → place_from k bs u ≡ Some p
    → (j : ℕ) × (p.batch ≡ k + j) × (b : List Entry) × (slice_get bs j ≡ Some b) × (slice_get b p.place ≡ Some p.entry)
stands_from k [] u p e = absurd (cc)
stands_from k (b ∷ bs) u p e = elim (which_place (place_in k 0 b u) (place_from (k + 1) bs u) p e) [
  | inl first ↦
      let at = stands_in k 0 b u p first in
      let batch = place_in_batch k 0 b u p first in
      let place = at.1 in
      let same : at.0 ≡ p.place = omega (arith, place) in
      (0, omega (arith, batch), b, refl, subst (λ (j : ℕ). slice_get b j ≡ Some p.entry) same at.2)
  | inr later ↦
      let more = stands_from (k + 1) bs u p later in
      let batch = more.1 in
      (suc more.0, omega (arith, batch), more.2, more.3, more.4)
]

pub found_stands : (book : List (List Entry)) (u : ℕ) (p : Place) → place_of book u ≡ Some p → StandsAt book p.batch p.place p.entry
unfolding place_of
found_stands book u p e =
    let at = stands_from 0 book u p e in
    let batch = at.1 in
    let same : at.0 ≡ p.batch = omega (arith, batch) in
    (at.2, subst (λ (j : ℕ). slice_get book j ≡ Some at.2) same at.3, at.4)
