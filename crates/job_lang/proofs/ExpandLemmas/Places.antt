-- The places of named objects among the distinct ones.
use Rattle.std.proofs.Common.{◌≡◌, ℕ, zero, suc, ◌+◌, ◌<◌, List, [], ◌∷◌, ◌++◌, length, map, Bool, true, false, not, Option, Some, None, refl, sym, ap, ◌∙◌, subst, arith}
use Rattle.std.specs.Prelude.{◌||◌, ◌&&◌, if◌then◌else◌, slice_get, slice_index_or}
use Rattle.std.specs.List.{list_any, position_or_len, AllByRecursion}
use Rattle.seq_objects.specs.Verbs.{same_kind}
use Rattle.job_names.specs.Names.{same_name}
use Rattle.job_names.proofs.SameNames.{and_left, and_right, same_from, same_to}
use Rattle.job_lang.specs.Objects.{NamedObject, same_object, with_object, named_behind, number_among}
use Rattle.job_lang.specs.Code.Numbered.{numbers_behind}
use Rattle.seq_objects.proofs.Verbs.{same_is, same_self}

both_true : (a b : Bool) → a ≡ true → b ≡ true → (a && b) ≡ true
both_true true b h k = k
both_true false b h k = cc

pub object_from : (x y : NamedObject) → same_object x y ≡ true → x ≡ y
object_from x y h =
    let kind = sym (same_is x.kind y.kind (and_left (same_kind x.kind y.kind) (same_name x.name y.name) h)) in
    let name = same_from x.name y.name (and_right (same_kind x.kind y.kind) (same_name x.name y.name) h) in
    λ i. record { kind = kind i; name = name i }

pub object_self : (x : NamedObject) → same_object x x ≡ true
object_self x = both_true (same_kind x.kind x.kind) (same_name x.name x.name) (same_self x.kind) (same_to x.name x.name refl)

-- the object is among these
abbrev pub Has : List NamedObject → NamedObject → Type 0
Has objects x = list_any (same_object x) objects ≡ true

-- places in any lists

module _ {X : Type 0} (test : X → Bool) where
  pub any_front : (xs ys : List X) → list_any test xs ≡ true → list_any test (xs ++ ys) ≡ true
  any_front [] ys h = cc
  any_front (x ∷ xs) ys h = by (test x) (any_front xs ys) h
    where
      by : (b : Bool) → (list_any test xs ≡ true → list_any test (xs ++ ys) ≡ true) → (b || list_any test xs) ≡ true → (b || list_any test (xs ++ ys)) ≡ true
      by true more h = refl
      by false more h = more h

  pub any_last : (xs : List X) (y : X) → test y ≡ true → list_any test (xs ++ y ∷ []) ≡ true
  any_last [] y h = ap (λ b. b || false) h
  any_last (x ∷ xs) y h = by (test x) (any_last xs y h)
    where
      by : (b : Bool) → list_any test (xs ++ y ∷ []) ≡ true → (b || list_any test (xs ++ y ∷ [])) ≡ true
      by true more = refl
      by false more = more

  pub place_front : (xs ys : List X) → list_any test xs ≡ true → position_or_len test (xs ++ ys) ≡ position_or_len test xs
  place_front [] ys h = cc
  place_front (x ∷ xs) ys h = by (test x) (place_front xs ys) h
    where
      by : (b : Bool) → (list_any test xs ≡ true → position_or_len test (xs ++ ys) ≡ position_or_len test xs) → (b || list_any test xs) ≡ true → (if not b then 1 + position_or_len test (xs ++ ys) else 0) ≡ (if not b then 1 + position_or_len test xs else 0)
      by true more h = refl
      by false more h = ap (λ n. 1 + n) (more h)

  pub place_none : (xs : List X) → list_any test xs ≡ false → position_or_len test xs ≡ length xs
  place_none [] h = refl
  place_none (x ∷ xs) h = by (test x) (place_none xs) h
    where
      by : (b : Bool) → (list_any test xs ≡ false → position_or_len test xs ≡ length xs) → (b || list_any test xs) ≡ false → (if not b then 1 + position_or_len test xs else 0) ≡ suc (length xs)
      by true more h = cc
      by false more h = omega (arith, more h)

  pub place_last : (xs : List X) (y : X) → list_any test xs ≡ false → test y ≡ true → position_or_len test (xs ++ y ∷ []) ≡ length xs
  place_last [] y h t = ap (λ b. if not b then 1 else 0) t
  place_last (x ∷ xs) y h t = by (test x) (λ k. place_last xs y k t) h
    where
      by : (b : Bool) → (list_any test xs ≡ false → position_or_len test (xs ++ y ∷ []) ≡ length xs) → (b || list_any test xs) ≡ false → (if not b then 1 + position_or_len test (xs ++ y ∷ []) else 0) ≡ suc (length xs)
      by true more h = cc
      by false more h = omega (arith, more h)

  pub place_below : (xs : List X) → list_any test xs ≡ true → position_or_len test xs < length xs
  place_below [] h = cc
  place_below (x ∷ xs) h = by (test x) (place_below xs) h
    where
      by : (b : Bool) → (list_any test xs ≡ true → position_or_len test xs < length xs) → (b || list_any test xs) ≡ true → (if not b then 1 + position_or_len test xs else 0) < suc (length xs)
      by true more h = omega arith
      by false more h = let less = more h in omega (arith, less)

  -- the first place at which the test passes
  pub place_is : (xs : List X) (i : ℕ) (x : X) → slice_get xs i ≡ Some x → test x ≡ true → ((j : ℕ) (y : X) → j < i → slice_get xs j ≡ Some y → test y ≡ false) → position_or_len test xs ≡ i
  place_is [] i x e t others = cc
  place_is (first ∷ xs) zero x e t others = let same : first ≡ x = cc in ap (λ b. if not b then 1 + position_or_len test xs else 0) (ap test same ∙ t)
  place_is (first ∷ xs) (suc i) x e t others =
      ap (λ b. if not b then 1 + position_or_len test xs else 0) (others 0 first (omega arith) refl)
      ∙ ap (λ n. 1 + n) (place_is xs i x e t (λ j y less f. others (suc j) y (omega (arith, less)) f)) ∙ omega arith

  pub none_passes : (xs : List X) → ((j : ℕ) (y : X) → slice_get xs j ≡ Some y → test y ≡ false) → list_any test xs ≡ false
  none_passes [] others = refl
  none_passes (x ∷ xs) others = ap (λ b. b || list_any test xs) (others 0 x refl) ∙ none_passes xs (λ j y f. others (suc j) y f)

  pub one_passes : (xs : List X) (i : ℕ) (x : X) → slice_get xs i ≡ Some x → test x ≡ true → list_any test xs ≡ true
  one_passes [] i x e t = cc
  one_passes (first ∷ xs) zero x e t = let same : first ≡ x = cc in ap (λ b. b || list_any test xs) (ap test same ∙ t)
  one_passes (first ∷ xs) (suc i) x e t = by (test first) (one_passes xs i x e t)
    where
      by : (b : Bool) → list_any test xs ≡ true → (b || list_any test xs) ≡ true
      by true more = refl
      by false more = more

-- what stands at the place of an object
pub at_place : {Y : Type 0} (f : NamedObject → Y) (objects : List NamedObject) (x : NamedObject) (d : Y) → Has objects x → slice_index_or (map f objects) (position_or_len (same_object x) objects) d ≡ f x
at_place f [] x d h = cc
at_place f (y ∷ objects) x d h = by (same_object x y) refl (at_place f objects x d) h
  where
    by : (b : Bool) → same_object x y ≡ b → (Has objects x → slice_index_or (map f objects) (position_or_len (same_object x) objects) d ≡ f x) → (b || list_any (same_object x) objects) ≡ true → slice_index_or (f y ∷ map f objects) (if not b then 1 + position_or_len (same_object x) objects else 0) d ≡ f x
    by true e more h = ap f (sym (object_from x y e))
    by false e more h = let next : 1 + position_or_len (same_object x) objects ≡ suc (position_or_len (same_object x) objects) = omega arith in
        ap (λ n. slice_index_or (f y ∷ map f objects) n d) next ∙ more h

-- two objects at one place are the same
pub one_place : (objects : List NamedObject) (x y : NamedObject) → Has objects x → Has objects y → position_or_len (same_object x) objects ≡ position_or_len (same_object y) objects → x ≡ y
one_place objects x y h k e =
    sym (at_place (λ o. o) objects x x h) ∙ ap (λ n. slice_index_or (map (λ o. o) objects) n x) e ∙ at_place (λ o. o) objects y x k

-- one more object

with_by : (b : Bool) (objects : List NamedObject) (x : NamedObject) → list_any (same_object x) objects ≡ b → with_object objects x ≡ (if b then objects else objects ++ x ∷ [])
with_by b objects x e = ap (λ c. if c then objects else objects ++ x ∷ []) e

pub with_old : (objects : List NamedObject) (x : NamedObject) → Has objects x → with_object objects x ≡ objects
with_old objects x h = with_by true objects x h

pub with_new : (objects : List NamedObject) (x : NamedObject) → list_any (same_object x) objects ≡ false → with_object objects x ≡ objects ++ x ∷ []
with_new objects x h = with_by false objects x h

has_with : (objects : List NamedObject) (x : NamedObject) → Has (with_object objects x) x
has_with objects x = by (list_any (same_object x) objects) refl
  where
    by : (b : Bool) → list_any (same_object x) objects ≡ b → Has (with_object objects x) x
    by true e = subst (λ os. Has os x) (sym (with_old objects x e)) e
    by false e = subst (λ os. Has os x) (sym (with_new objects x e)) (any_last (same_object x) objects x (object_self x))

kept_with : (objects : List NamedObject) (x y : NamedObject) → Has objects y → Has (with_object objects x) y
kept_with objects x y h = by (list_any (same_object x) objects) refl
  where
    by : (b : Bool) → list_any (same_object x) objects ≡ b → Has (with_object objects x) y
    by true e = subst (λ os. Has os y) (sym (with_old objects x e)) h
    by false e = subst (λ os. Has os y) (sym (with_new objects x e)) (any_front (same_object y) objects (x ∷ []) h)

place_with : (objects : List NamedObject) (x y : NamedObject) → Has objects y → position_or_len (same_object y) (with_object objects x) ≡ position_or_len (same_object y) objects
place_with objects x y h = by (list_any (same_object x) objects) refl
  where
    by : (b : Bool) → list_any (same_object x) objects ≡ b → position_or_len (same_object y) (with_object objects x) ≡ position_or_len (same_object y) objects
    by true e = ap (position_or_len (same_object y)) (with_old objects x e)
    by false e = ap (position_or_len (same_object y)) (with_new objects x e) ∙ place_front (same_object y) objects (x ∷ []) h

place_own : (objects : List NamedObject) (x : NamedObject) → position_or_len (same_object x) (with_object objects x) ≡ position_or_len (same_object x) objects
place_own objects x = by (list_any (same_object x) objects) refl
  where
    by : (b : Bool) → list_any (same_object x) objects ≡ b → position_or_len (same_object x) (with_object objects x) ≡ position_or_len (same_object x) objects
    by true e = ap (position_or_len (same_object x)) (with_old objects x e)
    by false e = ap (position_or_len (same_object x)) (with_new objects x e) ∙ place_last (same_object x) objects x e (object_self x) ∙ sym (place_none (same_object x) objects e)

-- the objects of leaves, behind those of others

pub has_behind : (leaves : List (Option NamedObject)) (objects : List NamedObject) (x : NamedObject) → Has objects x → Has (named_behind objects leaves) x
has_behind [] objects x h = h
has_behind (None ∷ leaves) objects x h = has_behind leaves objects x h
has_behind (Some y ∷ leaves) objects x h = has_behind leaves (with_object objects y) x (kept_with objects y x h)

pub place_behind : (leaves : List (Option NamedObject)) (objects : List NamedObject) (x : NamedObject) → Has objects x → position_or_len (same_object x) (named_behind objects leaves) ≡ position_or_len (same_object x) objects
place_behind [] objects x h = refl
place_behind (None ∷ leaves) objects x h = place_behind leaves objects x h
place_behind (Some y ∷ leaves) objects x h = place_behind leaves (with_object objects y) x (kept_with objects y x h) ∙ place_with objects y x h

pub named_is_there : (leaves : List (Option NamedObject)) (objects : List NamedObject) (u : ℕ) (x : NamedObject) → slice_get leaves u ≡ Some (Some x) → Has (named_behind objects leaves) x
named_is_there [] objects u x e = cc
named_is_there (None ∷ leaves) objects zero x e = cc
named_is_there (None ∷ leaves) objects (suc u) x e = named_is_there leaves objects u x e
named_is_there (Some y ∷ leaves) objects zero x e =
    let same : y ≡ x = cc in has_behind leaves (with_object objects y) x (subst (λ z. Has (with_object objects y) z) same (has_with objects y))
named_is_there (Some y ∷ leaves) objects (suc u) x e = named_is_there leaves (with_object objects y) u x e

-- the numbers that leaves get one after another are those among all objects
pub same_numbers : (leaves : List (Option NamedObject)) (objects : List NamedObject) → numbers_behind objects leaves ≡ map (number_among (named_behind objects leaves)) leaves
same_numbers [] objects = refl
same_numbers (None ∷ leaves) objects = ap (λ ns. 0 ∷ ns) (same_numbers leaves objects)
same_numbers (Some x ∷ leaves) objects =
    let all = named_behind (with_object objects x) leaves in
    let here : position_or_len (same_object x) objects ≡ position_or_len (same_object x) all = sym (place_behind leaves (with_object objects x) x (has_with objects x) ∙ place_own objects x) in
    ap (λ ns. number_among objects (Some x) ∷ ns) (same_numbers leaves (with_object objects x)) ∙ ap (λ n. (n + 1) ∷ map (number_among all) leaves) here

pub each_named : (P : NamedObject → Type 0) (leaves : List (Option NamedObject)) (objects : List NamedObject) → ((u : ℕ) (x : NamedObject) → slice_get leaves u ≡ Some (Some x) → P x) → AllByRecursion P objects → AllByRecursion P (named_behind objects leaves)
each_named P [] objects each all = all
each_named P (None ∷ leaves) objects each all = each_named P leaves objects (λ u x e. each (suc u) x e) all
each_named P (Some y ∷ leaves) objects each all = each_named P leaves (with_object objects y) (λ u x e. each (suc u) x e) (by (list_any (same_object y) objects) refl)
  where
    last : (os : List NamedObject) → AllByRecursion P os → AllByRecursion P (os ++ y ∷ [])
    last [] all = (each 0 y refl, tt)
    last (o ∷ os) all = (all.0, last os all.1)

    by : (b : Bool) → list_any (same_object y) objects ≡ b → AllByRecursion P (with_object objects y)
    by true e = subst (AllByRecursion P) (sym (with_old objects y e)) all
    by false e = subst (AllByRecursion P) (sym (with_new objects y e)) (last objects all)
