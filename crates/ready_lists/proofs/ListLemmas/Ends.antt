-- Removing a number that occurs once in a list, at one of its ends.
use Rattle.std.proofs.Common.{ℕ, zero, suc, ◌≡◌, ◌≢◌, ◌<◌, ◌≤◌, ◌+◌, ◌-◌, ◌⊎◌, List, [], ◌∷◌, length, get_or, arith, refl, inl, inr, sym, ◌∙◌, Bool, true, false, take, drop}
use Rattle.std.proofs.lemmas.Grind.{common_steps}
use Rattle.std.proofs.lemmas.List.{get_or_past}
use Rattle.std.proofs.lemmas.Bool.{cases_eq, cases_lt}
use Rattle.std.proofs.lemmas.Bool.Decides.{nat_tests}
use Rattle.core_model.specs.Lists.{without, times}
use Rattle.ready_lists.specs.Places.{at}
use Rattle.ready_lists.specs.Ends.{IsOldest, IsNewest, IsAtEnd}
use Rattle.core_model.proofs.InvariantLemmas.Puts.{put_at, put_other}
use Rattle.core_model.specs.State.{put}
use Rattle.core_model.proofs.ChoiceLemmas.Ready.{without_none}

oldest_goes : (n : ℕ) (xs : List ℕ) → times n xs ≤ 1 → IsOldest n xs → without n xs ≡ drop 1 xs
oldest_goes n [] once is = refl
oldest_goes n (x ∷ xs) once is = let none = without_none n xs in let e = is.1 in grind (arith, nat_tests, none, common_steps)

last_times : (n k : ℕ) (xs : List ℕ) → length xs ≡ suc k → get_or xs k n ≡ n → 1 ≤ times n xs
last_times n k [] len is = absurd (omega arith)
last_times n zero (x ∷ xs) len is = grind (arith, nat_tests, common_steps)
last_times n (suc k) (x ∷ xs) len is = let ih = last_times n k xs (omega arith) is in grind (arith, nat_tests, ih)

newest_goes : (n k : ℕ) (xs : List ℕ) → times n xs ≤ 1 → length xs ≡ suc k → get_or xs k n ≡ n → without n xs ≡ take k xs
newest_goes n k [] once len is = absurd (omega arith)
newest_goes n zero (x ∷ []) once len is = grind (arith, nat_tests, common_steps)
newest_goes n zero (x ∷ y ∷ xs) once len is = absurd (omega arith)
newest_goes n (suc k) (x ∷ xs) once len is =
    let l = last_times n k xs (omega arith) is in
    let ih = newest_goes n k xs in grind (arith, nat_tests, l, ih, common_steps)

newest_at : (n m : ℕ) (xs : List ℕ) → times n xs ≤ 1 → 0 < length xs → m ≡ length xs → get_or xs (m - 1) n ≡ n → without n xs ≡ take (m - 1) xs
newest_at n zero xs once some len is = absurd (omega (arith, some, len))
newest_at n (suc k) xs once some len is = let e : suc k - 1 ≡ k = omega arith in rw e (newest_goes n k xs once (sym len) (rw e at is))

pub newest_taken : (n k : ℕ) (xs ys : List ℕ) → IsAtEnd n xs → IsNewest n xs → k ≡ length xs → ys ≡ take (k - 1) xs → ys ≡ without n xs
newest_taken n k xs ys h is len e = e ∙ sym (newest_at n k xs h.once is.0 len (rw (← len) at is.1))

pub oldest_taken : (n : ℕ) (xs ys : List ℕ) → IsAtEnd n xs → IsOldest n xs → ys ≡ drop 1 xs → ys ≡ without n xs
oldest_taken n xs ys h is e = rw e (sym (oldest_goes n xs h.once is))

not_newest : (n t : ℕ) (xs : List ℕ) → (t ≢ 0 → IsOldest n xs ⊎ IsNewest n xs) → (IsOldest n xs → ⊥) → (IsNewest n xs → ⊥) → t ≡ 0
not_newest n zero xs h o e = refl
not_newest n (suc t) xs h o e = absurd (pick (h (omega arith)))
  where
    pick : IsOldest n xs ⊎ IsNewest n xs → ⊥
    pick (inl x) = o x
    pick (inr x) = e x

pub none_there : (n : ℕ) (xs : List ℕ) → IsAtEnd n xs → (newest oldest : Bool) → (IsNewest n xs → newest ≡ true) → (IsOldest n xs → oldest ≡ true)
    → newest ≡ false → oldest ≡ false → times n xs ≡ 0
none_there n xs h newest oldest is_new is_old e f = not_newest n (times n xs) xs h.end (λ p. let z = is_old p in cc) (λ p. let z = is_new p in cc)

-- if the number is in one list only, removing it there removes it from all
pub removed_one : (old : ℕ → List ℕ) (w n : ℕ) → ((v : ℕ) → w ≢ v → times n (old v) ≡ 0) → put old w (without n (old w)) ≡ (λ v. without n (old v))
removed_one old w n none = λ i v. removed v i
  where
    removed : (v : ℕ) → put old w (without n (old w)) v ≡ without n (old v)
    removed v = elim (cases_eq v w) [
      | inl same ↦ put_at old w v (without n (old w)) same ∙ rw same refl
      | inr other ↦ put_other old w v (without n (old w)) other ∙ sym (without_none n (old v) (none v (λ same. other (sym same))))
    ]

-- removing an absent number changes nothing
pub removed_none : (old : ℕ → List ℕ) (w n : ℕ) → times n (old w) ≡ 0 → put old w (without n (old w)) ≡ old
removed_none old w n none = λ i v. removed v i
  where
    removed : (v : ℕ) → put old w (without n (old w)) v ≡ old v
    removed v = elim (cases_eq v w) [
      | inl same ↦ put_at old w v (without n (old w)) same ∙ rw same (without_none n (old w) none)
      | inr other ↦ put_other old w v (without n (old w)) other
    ]

pub none_so_far : (old : ℕ → List ℕ) (n w : ℕ) → ((v : ℕ) → v < w → times n (old v) ≡ 0) → times n (old w) ≡ 0 → (v : ℕ) → v < w + 1 → times n (old v) ≡ 0
none_so_far old n w before here v below = elim (cases_eq v w) [
  | inl same ↦ rw same here
  | inr other ↦ before v (omega (arith, below, other))
]

-- a number in no list: removing it from all changes nothing
pub removed_all : (xs : List (List ℕ)) (n : ℕ) → ((v : ℕ) → v < length xs → times n (at xs [] v) ≡ 0) → at xs [] ≡ (λ v. without n (at xs [] v))
removed_all xs n none = λ i v. removed v i
  where
    removed : (v : ℕ) → at xs [] v ≡ without n (at xs [] v)
    removed v = elim (cases_lt v (length xs)) [
      | inl below ↦ sym (without_none n (at xs [] v) (none v below))
      | inr past ↦ let e = get_or_past xs v [] past in rw e refl
    ]

pub oldest_stands : (n : ℕ) (xs : List ℕ) → IsOldest n xs → times n xs ≢ 0
oldest_stands n [] h none = absurd (omega (arith, h.0))
oldest_stands n (x ∷ xs) h none = let e = h.1 in grind (arith, nat_tests, e, none, common_steps)

newest_some : (n k : ℕ) (xs : List ℕ) → length xs ≡ k → 0 < k → get_or xs (k - 1) n ≡ n → times n xs ≢ 0
newest_some n zero xs len some is none = absurd (omega (arith, some))
newest_some n (suc k) xs len some is none =
    let e : suc k - 1 ≡ k = omega arith in
    let l = last_times n k xs len (rw e at is) in absurd (omega (arith, l, none))

pub newest_stands : (n : ℕ) (xs : List ℕ) → IsNewest n xs → times n xs ≢ 0
newest_stands n xs h = newest_some n (length xs) xs refl h.0 h.1
