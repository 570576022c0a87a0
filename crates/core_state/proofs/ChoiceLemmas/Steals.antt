-- The search for a node to claim, list by list.
use Rattle.std.proofs.Common.{ℕ, zero, suc, ◌≡◌, ◌<◌, ◌≤◌, ◌+◌, ◌-◌, ◌%◌, Option, Some, None, List, [], ◌∷◌, length, arith, refl, sym, ◌∙◌, ap}
use Rattle.std.specs.List.{slice_get}
use Rattle.core_model.specs.Choice.{choice_steal, oldest_or, last_of}
use Rattle.core_state.specs.Code.Lookups.{claim_choice}
use Rattle.core_state.specs.Words.{Event, Claim}

abbrev claim_of : Option ℕ → Option Event
claim_of None = None
claim_of (Some n) = Some (Claim n)

last_get : (x : ℕ) (xs : List ℕ) → slice_get (x ∷ xs) (length xs) ≡ Some (last_of x xs)
last_get x [] = refl
last_get x (y ∷ ys) = last_get y ys

-- an own list that is not empty: its last number is claimed
pub newest_claim : (p : ℕ) (ready : ℕ → List ℕ) (w n : ℕ) (own : List ℕ) → slice_get own (length own - 1) ≡ Some n → Some (Claim n) ≡ claim_choice p ready w own
newest_claim p ready w n [] e = absurd (cc)
newest_claim p ready w n (x ∷ xs) e =
    let k : length (x ∷ xs) - 1 ≡ length xs = omega arith in ap (λ o. claim_of o) (sym (rw k at e) ∙ last_get x xs)

-- a list with no last number is empty
pub no_newest : (own : List ℕ) → slice_get own (length own - 1) ≡ None → own ≡ []
no_newest [] e = refl
no_newest (x ∷ xs) e =
    let k : length (x ∷ xs) - 1 ≡ length xs = omega arith in
    let some : None ≡ Some (last_of x xs) = sym (rw k at e) ∙ last_get x xs in absurd (cc)

pub steal_suc : (q : ℕ → List ℕ) (p from many : ℕ) → choice_steal q p from (suc many) ≡ oldest_or (q (from % p)) (choice_steal q p (from + 1) many)
unfolding choice_steal
steal_suc q p from many = refl

pub steal_step : (q : ℕ → List ℕ) (w p k : ℕ) → k < p → choice_steal q p (w + k) (p - k) ≡ oldest_or (q ((w + k) % p)) (choice_steal q p (w + (k + 1)) (p - (k + 1)))
steal_step q w p k below =
    let e : p - k ≡ suc (p - (k + 1)) = omega arith in
    let f : w + (k + 1) ≡ w + k + 1 = omega arith in
    rw (e, f) (steal_suc q p (w + k) (p - (k + 1)))

first_of : (xs : List ℕ) (n : ℕ) (other : Option Event) → slice_get xs 0 ≡ Some n → oldest_or xs other ≡ Some (Claim n)
first_of [] n other e = absurd (cc)
first_of (x ∷ xs) n other e = ap (λ o. claim_of o) e

none_of : (xs : List ℕ) → slice_get xs 0 ≡ None → xs ≡ []
none_of [] h = refl
none_of (x ∷ xs) h = absurd (cc)

pub found : (q : ℕ → List ℕ) (w p k n : ℕ) → q w ≡ [] → choice_steal q p (w + k) (p - k) ≡ choice_steal q p (w + 1) (p - 1) → k < p
    → slice_get (q ((w + k) % p)) 0 ≡ Some n → Some (Claim n) ≡ claim_choice p q w (q w)
found q w p k n own so_far below e = rw own (sym (first_of (q ((w + k) % p)) n (choice_steal q p (w + (k + 1)) (p - (k + 1))) e) ∙ (sym (steal_step q w p k below) ∙ so_far))

pub passed : (q : ℕ → List ℕ) (w p k : ℕ) → choice_steal q p (w + k) (p - k) ≡ choice_steal q p (w + 1) (p - 1) → k < p
    → slice_get (q ((w + k) % p)) 0 ≡ None → choice_steal q p (w + (k + 1)) (p - (k + 1)) ≡ choice_steal q p (w + 1) (p - 1)
passed q w p k so_far below none =
    let e : q ((w + k) % p) ≡ [] = none_of (q ((w + k) % p)) none in
    let f = steal_step q w p k below in let g = rw e at f in sym g ∙ so_far

pub steal_zero : (q : ℕ → List ℕ) (p from : ℕ) → choice_steal q p from 0 ≡ None
unfolding choice_steal
steal_zero q p from = refl

pub nothing : (q : ℕ → List ℕ) (w p k : ℕ) → q w ≡ [] → choice_steal q p (w + k) (p - k) ≡ choice_steal q p (w + 1) (p - 1) → p ≤ k → None ≡ claim_choice p q w (q w)
nothing q w p k own so_far past = let e : p - k ≡ 0 = omega arith in rw own (sym (steal_zero q p (w + k)) ∙ (rw e at so_far))

-- if all lists are empty, nothing can be claimed
none_to_steal : (q : ℕ → List ℕ) (p from many : ℕ) → ((w : ℕ) → q w ≡ []) → choice_steal q p from many ≡ None
none_to_steal q p from zero h = steal_zero q p from
none_to_steal q p from (suc many) h = steal_suc q p from many ∙ rw (h (from % p)) (none_to_steal q p (from + 1) many h)

pub none_to_claim : (q : ℕ → List ℕ) (p w : ℕ) → ((v : ℕ) → q v ≡ []) → None ≡ claim_choice p q w (q w)
none_to_claim q p w none = rw (none w) (sym (none_to_steal q p (w + 1) (p - 1) none))
