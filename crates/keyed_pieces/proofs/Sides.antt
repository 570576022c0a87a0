-- Ascending entries are those below a key, followed by the others.
use Rattle.std.proofs.Common.{◌≡◌, ℕ, zero, suc, ◌+◌, ◌<◌, ◌≤◌, inl, inr, Bool, true, false, not, cond, ◌==◌, nat_lt, if◌then◌else◌, List, [], ◌∷◌, ◌++◌, length, filter, get_or, refl, ap, sym, ◌∙◌, append-nil, arith}
use Rattle.std.proofs.lemmas.Bool.{cases_order}
use Rattle.std.proofs.lemmas.Bool.Decides.{nat_tests}
use Rattle.key_sets.specs.Groups.{group_of}
use Rattle.key_sets.proofs.Filters.{all_filter, all_passed, filter_all}
use Rattle.key_sets.proofs.KeyLemmas.Ascending.{all_map}
use Rattle.key_sets.proofs.KeyLemmas.Sides.{is_less, is_not_less}
use Rattle.keyed_pieces.specs.Keyed.{AscendsBy, AreBelow, AreFrom}
use Rattle.keyed_pieces.specs.Ranges.{below, from, ranges, side_by_side}

pub all_below : {E : Type 0} (at : E → ℕ) (b : ℕ) (entries : List E) → AreBelow at b (below at b entries)
all_below at b entries = all_passed (λ e. at e < b) (λ e. nat_lt (at e) b) (λ e is. is_less (at e) b is) entries

pub all_from : {E : Type 0} (at : E → ℕ) (b : ℕ) (entries : List E) → AreFrom at b (from at b entries)
all_from at b entries = all_passed (λ e. b ≤ at e) (λ e. not (nat_lt (at e) b)) (λ e is. is_not_less (at e) b is) entries

none_below : {E : Type 0} (at : E → ℕ) (b : ℕ) (entries : List E) → AreFrom at b entries → (below at b entries ≡ []) × (from at b entries ≡ entries)
none_below at b [] up = (refl, refl)
none_below at b (e ∷ entries) up =
    let test : nat_lt (at e) b ≡ false = grind (arith, nat_tests, up.0) in
    let rest = none_below at b entries up.1 in
    rw test (rest.0, ap (λ zs. e ∷ zs) rest.1)

pub both_sides : {E : Type 0} (at : E → ℕ) (b : ℕ) (entries : List E) → AscendsBy at entries → entries ≡ below at b entries ++ from at b entries
both_sides at b [] up = refl
both_sides {E} at b (e ∷ entries) up = step (nat_lt (at e) b) refl (both_sides at b entries up.1) where
  step : (t : Bool) → nat_lt (at e) b ≡ t → entries ≡ below at b entries ++ from at b entries
      → e ∷ entries ≡ cond t (e ∷ below at b entries) (below at b entries) ++ cond (not t) (e ∷ from at b entries) (from at b entries)
  step true is rest = ap (λ zs. e ∷ zs) rest
  step false is rest =
      let high : AreFrom at b entries = all_map (λ x. at e < at x) (λ x. b ≤ at x) (λ x less. let le : b ≤ at e = grind (arith, nat_tests, is) in omega (arith, le, less)) entries up.0 in
      let none = none_below at b entries high in
      rw (none.0, none.1) refl

pub ascends_from : {E : Type 0} (at : E → ℕ) (b : ℕ) (entries : List E) → AscendsBy at entries → AscendsBy at (from at b entries)
ascends_from at b [] up = tt
ascends_from {E} at b (e ∷ entries) up = step (not (nat_lt (at e) b)) (ascends_from at b entries up.1) where
  step : (t : Bool) → AscendsBy at (from at b entries) → AscendsBy at (cond t (e ∷ from at b entries) (from at b entries))
  step true rest = (all_filter (λ x. at e < at x) (λ x. not (nat_lt (at x) b)) entries up.0, rest)
  step false rest = rest

-- the number of ranges, and their concatenation
pub range_count : {E : Type 0} (at : E → ℕ) (starts : List ℕ) (entries : List E) → length (ranges at starts entries) ≡ length starts + 1
range_count at [] entries = refl
range_count at (b ∷ starts) entries =
    let e : suc (length starts) + 1 ≡ suc (length starts + 1) = omega arith in
    rw e (ap suc (range_count at starts (from at b entries)))

pub ranges_joined : {E : Type 0} (at : E → ℕ) (starts : List ℕ) (entries : List E) → AscendsBy at entries → side_by_side (ranges at starts entries) ≡ entries
ranges_joined at [] entries up = append-nil entries
ranges_joined at (b ∷ starts) entries up =
    ap (λ high. below at b entries ++ high) (ranges_joined at starts (from at b entries) (ascends_from at b entries up)) ∙ sym (both_sides at b entries up)

-- group 0 has the entries below the first start; the entries of group n + 1 are those of group n among the rest
first_group : {E : Type 0} (at : E → ℕ) (b : ℕ) (starts : List ℕ) (entries : List E)
    → below at b entries ≡ filter (λ e. group_of (at e) (b ∷ starts) == 0) entries
first_group at b starts [] = refl
first_group {E} at b starts (e ∷ entries) = step (nat_lt (at e) b) (first_group at b starts entries) where
  step : (t : Bool) → below at b entries ≡ filter (λ e. group_of (at e) (b ∷ starts) == 0) entries
      → cond t (e ∷ below at b entries) (below at b entries) ≡ cond ((if t then 0 else suc (group_of (at e) starts)) == 0) (e ∷ filter (λ e. group_of (at e) (b ∷ starts) == 0) entries) (filter (λ e. group_of (at e) (b ∷ starts) == 0) entries)
  step true rest = ap (λ zs. e ∷ zs) rest
  step false rest = let test : (suc (group_of (at e) starts) == 0) ≡ false = grind (arith, nat_tests) in rw test rest

pub same_next : (m n : ℕ) → (suc m == suc n) ≡ (m == n)
same_next m n = elim (cases_order m n) [
  | inl same ↦ (let yes : (suc m == suc n) ≡ true = grind (arith, nat_tests, same) in let yes' : (m == n) ≡ true = grind (arith, nat_tests, same) in rw (yes, yes') refl)
  | inr apart ↦
      let other : m ≡ n → ⊥ = λ e. elim apart [ inl less ↦ omega (arith, e, less) | inr more ↦ omega (arith, e, more) ] in
      let no : (suc m == suc n) ≡ false = grind (arith, nat_tests, other) in
      let no' : (m == n) ≡ false = grind (arith, nat_tests, other) in
      rw (no, no') refl
]

next_group : {E : Type 0} (at : E → ℕ) (b : ℕ) (starts : List ℕ) (group : ℕ) (entries : List E)
    → filter (λ e. group_of (at e) starts == group) (from at b entries) ≡ filter (λ e. group_of (at e) (b ∷ starts) == suc group) entries
next_group at b starts group [] = refl
next_group {E} at b starts group (e ∷ entries) = step (nat_lt (at e) b) (next_group at b starts group entries) where
  step : (t : Bool) → filter (λ e. group_of (at e) starts == group) (from at b entries) ≡ filter (λ e. group_of (at e) (b ∷ starts) == suc group) entries
      → filter (λ e. group_of (at e) starts == group) (cond (not t) (e ∷ from at b entries) (from at b entries))
      ≡ cond ((if t then 0 else suc (group_of (at e) starts)) == suc group) (e ∷ filter (λ e. group_of (at e) (b ∷ starts) == suc group) entries) (filter (λ e. group_of (at e) (b ∷ starts) == suc group) entries)
  step true rest = let test : (0 == suc group) ≡ false = grind (arith, nat_tests) in rw test rest
  step false rest = rw (same_next (group_of (at e) starts) group) (ap (λ zs. cond (group_of (at e) starts == group) (e ∷ zs) zs) rest)

none_passes : {E : Type 0} (test : E → Bool) (entries : List E) → ((e : E) → test e ≡ false) → [] ≡ filter test entries
none_passes test [] none = refl
none_passes test (e ∷ entries) none = rw (none e) (none_passes test entries none)

pub range_is : {E : Type 0} (at : E → ℕ) (starts : List ℕ) (entries : List E) (group : ℕ)
    → get_or (ranges at starts entries) group [] ≡ filter (λ e. group_of (at e) starts == group) entries
range_is at [] entries zero = sym (filter_all (λ e. 0 == 0) (λ e. grind (arith, nat_tests)) entries)
range_is at [] entries (suc group) = none_passes (λ e. 0 == suc group) entries (λ e. grind (arith, nat_tests))
range_is at (b ∷ starts) entries zero = first_group at b starts entries
range_is at (b ∷ starts) entries (suc group) = range_is at starts (from at b entries) group ∙ next_group at b starts group entries
