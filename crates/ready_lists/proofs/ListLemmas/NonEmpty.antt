-- Counting the non-empty lists of ready nodes.
use Rattle.std.proofs.Common.{ℕ, zero, suc, ◌≡◌, ◌≢◌, ◌<◌, ◌≤◌, ◌+◌, ◌-◌, List, [], ◌∷◌, length, get_or, replicate, slice_set, arith, refl, inl, inr, sym, ap, subst}
use Rattle.std.proofs.lemmas.List.{get_or_past, get_or_read, length-set}
use Rattle.std.proofs.lemmas.Bool.{cases_eq, cases_lt}
use Rattle.core_model.specs.State.{put}
use Rattle.core_model.specs.Lists.{times}
use Rattle.ready_lists.specs.Places.{at}
use Rattle.ready_lists.specs.Code.NonEmpty.{non_empty_in, one_if_non_empty}
use Rattle.core_model.specs.Measure.{total}
use Rattle.ready_lists.proofs.PlaceLemmas.Copies.{at_copies}
use Rattle.core_model.proofs.InvariantLemmas.Puts.{put_at, put_other}
use Rattle.core_model.proofs.MeasureLemmas.Jobs.{total_change}
use Rattle.core_model.proofs.MeasureLemmas.Lowers.{total_zero}
use Rattle.ready_lists.proofs.PlaceLemmas.Written.{at_written}

one_at_most : (xs : List ℕ) → one_if_non_empty xs ≤ 1
one_at_most [] = omega arith
one_at_most (x ∷ xs) = omega arith

none_in : (xs : List ℕ) → one_if_non_empty xs ≡ 0 → xs ≡ []
none_in [] e = refl
none_in (x ∷ xs) e = absurd (omega (arith, e))

ones_at_most : (f : ℕ → ℕ) (n : ℕ) → ((m : ℕ) → f m ≤ 1) → total f n ≤ n
ones_at_most f zero h = omega arith
ones_at_most f (suc n) h = let a = h n in let b : total f n ≤ n = ones_at_most f n h in omega arith

-- at most all lists are non-empty
count_at_most : (xs : List (List ℕ)) → non_empty_in xs ≤ length xs
count_at_most xs = ones_at_most (λ w. one_if_non_empty (at xs [] w)) (length xs) (λ w. one_at_most (at xs [] w))

-- the count before and after one list is replaced
put_count : (f : ℕ → List ℕ) (w n : ℕ) (x : List ℕ) → w < n
    → total (λ v. one_if_non_empty (put f w x v)) n + one_if_non_empty (f w) ≡ total (λ v. one_if_non_empty (f v)) n + one_if_non_empty x
put_count f w n x below =
    rw (put_at f w w x refl) at (total_change (λ v. one_if_non_empty (f v)) (λ v. one_if_non_empty (put f w x v)) w n below (λ v other. ap one_if_non_empty (put_other f w v x other)))

count_set : (xs : List (List ℕ)) (w : ℕ) (old q : List ℕ) → w < length xs → old ≡ get_or xs w old
    → non_empty_in (slice_set xs w q) + one_if_non_empty old ≡ non_empty_in xs + one_if_non_empty q
count_set xs w old q below is =
    subst (λ (f : ℕ → List ℕ). total (λ v. one_if_non_empty (f v)) (length (slice_set xs w q)) + one_if_non_empty old ≡ non_empty_in xs + one_if_non_empty q)
    (sym (at_written xs w q [] below)) (rw (length-set xs w q, get_or_read xs w old below is []) (put_count (at xs []) w (length xs) q below))

-- the count includes a list that is not empty
pub counted : (xs : List (List ℕ)) (w : ℕ) {before : ℕ} {old : List ℕ} → w < length xs → old ≡ get_or xs w old
    → before ≡ one_if_non_empty old → before ≤ non_empty_in xs
counted xs w {before} {old} below is one =
    let e = rw (← (get_or_read xs w old below is [])) at (put_count (at xs []) w (length xs) [] below) in omega (arith, e, one)

module _ (xs : List (List ℕ)) (w : ℕ) {number before after : ℕ} {old : List ℕ} (q : List ℕ) (below : w < length xs) (is : old ≡ get_or xs w old)
    (count : number ≡ non_empty_in xs) (one : before ≡ one_if_non_empty old) (then : after ≡ one_if_non_empty q) where
  -- the incremental count is right after a list is replaced
  pub recounted : number - before + after ≡ non_empty_in (slice_set xs w q)
  recounted =
      let e = count_set xs w old q below is in
      let l = counted xs w below is one in omega (arith, e, l, count, one, then)

  pub recounted_at_most : number - before + after ≤ length xs
  recounted_at_most = rw (recounted, ← (length-set xs w q)) (count_at_most (slice_set xs w q))

-- a list that contains a node counts as one
pub one_where_stands : (n : ℕ) (xs : List ℕ) → times n xs ≢ 0 → 1 ≡ one_if_non_empty xs
one_where_stands n [] stands = absurd (stands refl)
one_where_stands n (x ∷ xs) stands = refl

-- if all lists are empty, the count is 0
pub none_counted : (xs : List (List ℕ)) → at xs [] ≡ (λ w. []) → non_empty_in xs ≡ 0
none_counted xs e = total_zero (λ w. one_if_non_empty (at xs [] w)) (length xs) (λ w. ap (λ (f : ℕ → List ℕ). one_if_non_empty (f w)) e)

each_zero : (f : ℕ → ℕ) (n : ℕ) → total f n ≡ 0 → (m : ℕ) → m < n → f m ≡ 0
each_zero f zero e m below = absurd (omega (arith, below))
each_zero f (suc n) e m below = elim (cases_eq m n) [
  | inl same ↦ let a = ap f same in omega (arith, e, a)
  | inr other ↦ each_zero f n (omega (arith, e)) m (omega (arith, below, other))
]

-- if the count is 0, each list is empty
pub each_empty : (xs : List (List ℕ)) → non_empty_in xs ≡ 0 → (w : ℕ) → at xs [] w ≡ []
each_empty xs e w = elim (cases_lt w (length xs)) [
  | inl below ↦ none_in (at xs [] w) (each_zero (λ v. one_if_non_empty (at xs [] v)) (length xs) e w below)
  | inr past ↦ get_or_past xs w [] past
]

-- fresh empty lists count 0
pub none_opened : (n : ℕ) → 0 ≡ non_empty_in (replicate n [])
none_opened n = sym (none_counted (replicate n []) (at_copies n []))
