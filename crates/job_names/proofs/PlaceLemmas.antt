-- Places of names.
use Rattle.std.proofs.Common.{ℕ, zero, suc, ◌≡◌, ◌+◌, ◌<◌, ◌≤◌, List, [], ◌∷◌, ◌++◌, length, get_or, Bool, true, false, Some, None, arith, refl, sym, ap, ◌∙◌, append_assoc}
use Rattle.std.specs.Prelude.{if◌then◌else◌}
use Rattle.std.specs.List.Sorted.{IsNonDecreasingBy}
use Rattle.std.proofs.lemmas.List.Sorted.{IsNonDecreasingBy-from_default}
use Rattle.job_names.specs.declared.name.Name.{Name}
use Rattle.job_names.specs.declared.scopes.Let.{Let}
use Rattle.job_names.specs.Names.{same_name}
use Rattle.job_names.specs.Scopes.{last_of}
use Rattle.job_names.specs.Code.Places.{places_from}

-- the places of two lists, one behind the other
pub places_append : (name : Name) (first second : ℕ) (xs ys : List Let) → first + length xs ≡ second → places_from name first (xs ++ ys) ≡ places_from name first xs ++ places_from name second ys
places_append name first second [] ys h = let e : first ≡ second = omega (arith, h) in ap (λ n. places_from name n ys) e
places_append name first second (x ∷ xs) ys h =
    let e : suc first + length xs ≡ second = omega (arith, h) in
    ap (λ l. (if same_name x.name name then first ∷ [] else []) ++ l) (places_append name (suc first) second xs ys e)
    ∙ sym (append_assoc (if same_name x.name name then first ∷ [] else []) (places_from name (suc first) xs) (places_from name second ys))

-- what the places of a list are within
within_step : (b : Bool) (first n : ℕ) (rest : List ℕ) → ((k : ℕ) → k < length rest → (suc first ≤ get_or rest k 0) × (get_or rest k 0 < suc first + n)) → (k : ℕ) → k < length ((if b then first ∷ [] else []) ++ rest) → (first ≤ get_or ((if b then first ∷ [] else []) ++ rest) k 0) × (get_or ((if b then first ∷ [] else []) ++ rest) k 0 < first + suc n)
within_step true first n rest h zero lt = (omega arith, omega arith)
within_step true first n rest h (suc k) lt = let p = h k (omega (arith, lt)) in (omega (arith, p.0), omega (arith, p.1))
within_step false first n rest h k lt = let p = h k lt in (omega (arith, p.0), omega (arith, p.1))

pub places_within : (name : Name) (first : ℕ) (xs : List Let) (k : ℕ) → k < length (places_from name first xs) → (first ≤ get_or (places_from name first xs) k 0) × (get_or (places_from name first xs) k 0 < first + length xs)
places_within name first [] k h = absurd (omega (arith, h))
places_within name first (x ∷ xs) k h = within_step (same_name x.name name) first (length xs) (places_from name (suc first) xs) (places_within name (suc first) xs) k h

-- the places ascend
rise_step : (b : Bool) (first : ℕ) (rest : List ℕ) → ((k : ℕ) → k < length rest → suc first ≤ get_or rest k 0) → ((i j : ℕ) → i ≤ j → j < length rest → get_or rest i 0 ≤ get_or rest j 0) → (i j : ℕ) → i ≤ j → j < length ((if b then first ∷ [] else []) ++ rest) → get_or ((if b then first ∷ [] else []) ++ rest) i 0 ≤ get_or ((if b then first ∷ [] else []) ++ rest) j 0
rise_step true first rest low h zero zero le lt = omega arith
rise_step true first rest low h zero (suc j) le lt = let p = low j (omega (arith, lt)) in omega (arith, p)
rise_step true first rest low h (suc i) zero le lt = absurd (omega (arith, le))
rise_step true first rest low h (suc i) (suc j) le lt = h i j (omega (arith, le)) (omega (arith, lt))
rise_step false first rest low h i j le lt = h i j le lt

pub places_rise : (name : Name) (first : ℕ) (xs : List Let) (i j : ℕ) → i ≤ j → j < length (places_from name first xs) → get_or (places_from name first xs) i 0 ≤ get_or (places_from name first xs) j 0
places_rise name first [] i j le lt = absurd (omega (arith, lt))
places_rise name first (x ∷ xs) i j le lt =
    rise_step (same_name x.name name) first (places_from name (suc first) xs) (λ k l. (places_within name (suc first) xs k l).0) (places_rise name (suc first) xs) i j le lt

pub places_ascend : (name : Name) (xs : List Let) → IsNonDecreasingBy (λ (place : ℕ). place) (places_from name 0 xs)
places_ascend name xs = IsNonDecreasingBy-from_default (λ place. place) (places_from name 0 xs) 0 (places_rise name 0 xs)

-- the last place is that of the last let with the name
pub data IsLast : Name → ℕ → List Let → Type 0 where
  nowhere : {name : Name} {first : ℕ} {xs : List Let} → (places_from name first xs ≡ []) → (last_of name xs ≡ None) → IsLast name first xs
  somewhere : {name : Name} {first : ℕ} {xs : List Let} (k : ℕ) → k < length xs → (front : List ℕ) → (places_from name first xs ≡ front ++ (first + k) ∷ []) → ((d : Let) → last_of name xs ≡ Some (get_or xs k d).number) → IsLast name first xs

last_step : (name : Name) (first : ℕ) (x : Let) (xs : List Let) (b : Bool) → (same_name x.name name) ≡ b → IsLast name (suc first) xs → IsLast name first (x ∷ xs)
last_step name first x xs false e (nowhere p n) = nowhere (rw e p) (rw (e, n) refl)
last_step name first x xs true e (nowhere p n) = somewhere 0 (omega arith) [] (let z : first ≡ first + 0 = omega arith in rw (e, p) (ap (λ f. f ∷ []) z)) (λ d. rw (e, n) refl)
last_step name first x xs b e (somewhere k lt front p n) =
    somewhere (suc k) (omega (arith, lt)) ((if same_name x.name name then first ∷ [] else []) ++ front)
    (let q : suc first + k ≡ first + suc k = omega arith in
    ap (λ l. (if same_name x.name name then first ∷ [] else []) ++ l) (p ∙ ap (λ m. front ++ m ∷ []) q)
    ∙ sym (append_assoc (if same_name x.name name then first ∷ [] else []) front ((first + suc k) ∷ [])))
    (λ d. rw (n d) refl)

pub last_place : (name : Name) (first : ℕ) (xs : List Let) → IsLast name first xs
last_place name first [] = nowhere refl refl
last_place name first (x ∷ xs) = last_step name first x xs (same_name x.name name) refl (last_place name (suc first) xs)
