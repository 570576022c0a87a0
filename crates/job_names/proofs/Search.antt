-- The last let with a name among some, by the places of the name.
use Rattle.std.proofs.Common.{ℕ, zero, suc, ◌≡◌, ◌+◌, ◌-◌, ◌<◌, ◌≤◌, List, [], ◌∷◌, ◌++◌, length, get_or, take, drop, Option, Some, None, arith, refl, sym, ap, subst, ◌∙◌, append_assoc, append-nil, length-append, length-take, length-drop, take-append-drop, get_or-take, get_or-drop}
use Rattle.job_names.specs.declared.name.Name.{Name}
use Rattle.job_names.specs.declared.scopes.Let.{Let}
use Rattle.job_names.specs.Scopes.{last_of}
use Rattle.job_names.specs.Code.Places.{places_from}
use Rattle.job_names.proofs.PlaceLemmas.{places_append, places_within, IsLast, nowhere, somewhere, last_place}

left : (xs ys : List ℕ) (k : ℕ) → k < length xs → get_or (xs ++ ys) k 0 ≡ get_or xs k 0
left [] ys k h = absurd (omega (arith, h))
left (x ∷ xs) ys zero h = refl
left (x ∷ xs) ys (suc k) h = left xs ys k (omega (arith, h))

right : (xs ys : List ℕ) (k j : ℕ) → k ≡ length xs + j → get_or (xs ++ ys) k 0 ≡ get_or ys j 0
right [] ys k j h = let e : k ≡ j = omega (arith, h) in ap (λ i. get_or ys i 0) e
right (x ∷ xs) ys zero j h = absurd (omega (arith, h))
right (x ∷ xs) ys (suc k) j h = right xs ys k j (omega (arith, h))

-- what stands below the end is the first list
cut_count : (xs ys : List ℕ) (end n : ℕ)
    → ((k : ℕ) → k < length xs → get_or xs k 0 < end) → ((k : ℕ) → k < length ys → end ≤ get_or ys k 0)
    → n ≤ length (xs ++ ys) → ((k : ℕ) → k < n → get_or (xs ++ ys) k 0 < end) → ((k : ℕ) → n ≤ k → k < length (xs ++ ys) → end ≤ get_or (xs ++ ys) k 0)
    → n ≡ length xs
cut_count xs ys end n low high most below above =
    let long = length-append xs ys in
    let not_less : n < length xs → ⊥ = λ lt.
    (let a = above n (omega arith) (omega (arith, lt, long)) in let b = low n lt in let e = left xs ys n lt in omega (arith, a, b, e)) in
    let not_more : length xs < n → ⊥ = λ lt.
    (let a = below (length xs) lt in let b = high 0 (omega (arith, lt, most, long)) in let e = right xs ys (length xs) 0 (omega arith) in omega (arith, a, b, e)) in
    omega (arith, not_less, not_more)

-- what a search for the last let with a name, from `start` to below `end`, finds: `place` is the last place below the
-- end
pub data Outcome : Option ℕ → List Let → (start n place : ℕ) → Type 0 where
  none : {r : Option ℕ} {lets : List Let} {start n place : ℕ} → r ≡ None → (0 < n → place < start) → Outcome r lets start n place
  some : {r : Option ℕ} {lets : List Let} {start n place : ℕ} → 0 < n → start ≤ place → ((d : Let) → r ≡ Some (get_or lets place d).number) → Outcome r lets start n place

outcome_of : (name : Name) (start end n : ℕ) (lets : List Let) (places : List ℕ) (front rest : List ℕ)
    → start ≤ end → end ≤ length lets
    → ((k : ℕ) → k < length front → get_or front k 0 < start)
    → places ≡ (front ++ places_from name start (drop start (take end lets))) ++ rest
    → n ≡ length (front ++ places_from name start (drop start (take end lets)))
    → IsLast name start (drop start (take end lets))
    → Outcome (last_of name (drop start (take end lets))) lets start n (get_or places (n - 1) 0)
outcome_of name start end n lets places front rest le within low is count (nowhere p q) =
    none q (λ pos.
    let long : n ≡ length front = count ∙ ap (λ l. length (front ++ l)) p ∙ ap length (append-nil front) in
    let a = low (n - 1) (omega (arith, long, pos)) in
    let e : get_or places (n - 1) 0 ≡ get_or front (n - 1) 0 =
    ap (λ l. get_or l (n - 1) 0) (is ∙ ap (λ l. (front ++ l) ++ rest) p ∙ ap (λ l. l ++ rest) (append-nil front)) ∙ left front rest (n - 1) (omega (arith, long, pos)) in
    omega (arith, a, e))
outcome_of name start end n lets places front rest le within low is count (somewhere k lt mid p q) =
    let split : (front ++ places_from name start (drop start (take end lets))) ≡ (front ++ mid) ++ (start + k) ∷ [] =
    ap (λ l. front ++ l) p ∙ sym (append_assoc front mid ((start + k) ∷ [])) in
    let long : n ≡ length (front ++ mid) + 1 = count ∙ ap length split ∙ length-append (front ++ mid) ((start + k) ∷ []) in
    let at : get_or places (n - 1) 0 ≡ start + k =
    ap (λ l. get_or l (n - 1) 0) (is ∙ ap (λ l. l ++ rest) split ∙ append_assoc (front ++ mid) ((start + k) ∷ []) rest)
    ∙ right (front ++ mid) ((start + k) ∷ rest) (n - 1) 0 (omega (arith, long)) in
    let short = length-drop start (take end lets) in
    let shorter = length-take end lets in
    let below : start + k < end = omega (arith, lt, short, shorter) in
    some (omega (arith, long)) (omega (arith, at))
    (λ d. q d ∙ ap (λ l. Some l.number) (get_or-drop start (take end lets) k d ∙ get_or-take end lets (start + k) d below ∙ ap (λ i. get_or lets i d) (sym at)))

pub outcome : (name : Name) (start end n : ℕ) (lets : List Let) (places : List ℕ)
    → places ≡ places_from name 0 lets → start ≤ end → end ≤ length lets
    → n ≤ length places → ((k : ℕ) → k < n → get_or places k 0 < end) → ((k : ℕ) → n ≤ k → k < length places → end ≤ get_or places k 0)
    → Outcome (last_of name (drop start (take end lets))) lets start n (get_or places (n - 1) 0)
outcome name start end n lets places same le within most below above =
    let pre = take start (take end lets) in
    let mid = drop start (take end lets) in
    let taken = length-take end lets in
    let pre_long : length pre ≡ start = length-take start (take end lets) ∙ (omega (arith, taken)) in
    let mid_long = length-drop start (take end lets) in
    let front = places_from name 0 pre in
    let middle = places_from name start mid in
    let rest = places_from name end (drop end lets) in
    let first : places_from name 0 (take end lets) ≡ front ++ middle =
    ap (places_from name 0) (sym (take-append-drop start (take end lets))) ∙ places_append name 0 start pre mid (omega (arith, pre_long)) in
    let is : places ≡ (front ++ middle) ++ rest =
    same ∙ ap (places_from name 0) (sym (take-append-drop end lets)) ∙ places_append name 0 end (take end lets) (drop end lets) (omega (arith, taken)) ∙ ap (λ l. l ++ rest) first in
    let low : (k : ℕ) → k < length (front ++ middle) → get_or (front ++ middle) k 0 < end = λ k h.
    subst (λ l. get_or l k 0 < end) first
    (let w = places_within name 0 (take end lets) k (subst (λ l. k < length l) (sym first) h) in omega (arith, w.1, taken)) in
    let high : (k : ℕ) → k < length rest → end ≤ get_or rest k 0 = λ k h. (places_within name end (drop end lets) k h).0 in
    let count : n ≡ length (front ++ middle) =
    cut_count (front ++ middle) rest end n low high (subst (λ l. n ≤ length l) is most)
    (λ k h. subst (λ l. get_or l k 0 < end) is (below k h))
    (λ k h i. subst (λ l. end ≤ get_or l k 0) is (above k h (subst (λ l. k < length l) (sym is) i))) in
    outcome_of name start end n lets places front rest le within
    (λ k h. let w = places_within name 0 pre k h in omega (arith, w.1, pre_long))
    is count (last_place name start mid)
