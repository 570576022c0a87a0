-- Where an entry stands in a book whose leaves are distinct.
use Rattle.std.proofs.Common.{ℕ, zero, suc, ◌≡◌, ◌≢◌, ◌+◌, Option, None, Some, List, [], ◌∷◌, ◌++◌, map, Contains, inl, inr, arith, refl, sym, subst, ◌∙◌, ap}
use Rattle.std.specs.Prelude.{slice_get}
use Rattle.std.specs.List.{AllByRecursion}
use Rattle.std.proofs.lemmas.List.{map-append, length-map, get_or-map}
use Rattle.std.proofs.lemmas.List.Elements.{Contains-append_cases, Contains-append_left, Contains-append_right}
use Rattle.batch_history.specs.declared.batch.Entry.{Entry}
use Rattle.seq_objects.specs.Pairs.{AreDistinct}
use Rattle.batch_history.specs.Book.{flat}
use Rattle.core_model.specs.Operations.{Place, place_in, or_else, place_from, place_of}
use Rattle.batch_history.proofs.BookLemmas.Books.{takes, skips}
use Rattle.seq_objects.proofs.Elements.{each_front, each_at, distinct_front, distinct_back}

-- the leaves of entries
abbrev pub leaves_of : List Entry → List ℕ
leaves_of es = map (λ (e : Entry). e.leaf) es

-- the entry stands at this place, in this batch
pub record IsPlaced (place : Option Place) (batch : ℕ) (e : Entry) : Type 0 where
  pub at : Place
  pub is : place ≡ Some at
  pub in_batch : at.batch ≡ batch
  pub entry : at.entry ≡ e

-- an entry's leaf is among the leaves
pub contains_leaf : (es : List Entry) (e : Entry) → Contains es e → Contains (leaves_of es) e.leaf
contains_leaf es e h = (h.0, omega (arith, h.1, length-map es (λ (x : Entry). x.leaf)), get_or-map (λ (x : Entry). x.leaf) es h.0 e e.leaf h.1 ∙ ap (λ (x : Entry). x.leaf) h.2)

-- what the second of two lists contains is not in the first, if they are distinct together
distinct_across : (xs ys : List ℕ) (y : ℕ) → AreDistinct (xs ++ ys) → Contains ys y → AllByRecursion (λ x. x ≢ y) xs
distinct_across [] ys y h there = tt
distinct_across (x ∷ xs) ys y h there = (each_at (λ z. x ≢ z) ys y (each_front (λ z. x ≢ z) xs ys h.0).1 there, distinct_across xs ys y h.1 there)

-- a leaf of which there is no entry has no place
pub none_in : (k i : ℕ) (b : List Entry) (u : ℕ) → AllByRecursion (λ x. x ≢ u) (leaves_of b) → place_in k i b u ≡ None
none_in k i [] u apart = refl
none_in k i (x ∷ xs) u apart = skips x.leaf u (record { batch = k; place = i; entry = x }) (place_in k (i + 1) xs u) apart.0 ∙ none_in k (i + 1) xs u apart.1

-- the place of an entry in a batch
pub placed_in : (k i : ℕ) (b : List Entry) (e : Entry) → AreDistinct (leaves_of b) → Contains b e → IsPlaced (place_in k i b e.leaf) k e
placed_in k i [] e distinct h = absurd (omega (arith, h.1))
placed_in k i (x ∷ xs) e distinct (zero, low, is) = record {
  at = record { batch = k; place = i; entry = x };
  is = takes x.leaf e.leaf (record { batch = k; place = i; entry = x }) (place_in k (i + 1) xs e.leaf) (ap (λ (y : Entry). y.leaf) is);
  in_batch = refl;
  entry = is;
}
placed_in k i (x ∷ xs) e distinct (suc j, low, is) =
    let there : Contains xs e = (j, omega (arith, low), is) in
    let apart = each_at (λ l. x.leaf ≢ l) (leaves_of xs) e.leaf distinct.0 (contains_leaf xs e there) in
    let more = placed_in k (i + 1) xs e distinct.1 there in
    record { at = more.at; is = skips x.leaf e.leaf (record { batch = k; place = i; entry = x }) (place_in k (i + 1) xs e.leaf) apart ∙ more.is; in_batch = more.in_batch; entry = more.entry }

-- the entries of a batch are among those of the book
pub in_flat : (bs : List (List Entry)) (j : ℕ) (batch : List Entry) (e : Entry) → slice_get bs j ≡ Some batch → Contains batch e → Contains (flat bs) e
in_flat [] j batch e is h = cc
in_flat (b ∷ bs) zero batch e is h = let same : batch ≡ b = cc in Contains-append_left b (flat bs) e (subst (λ (x : List Entry). Contains x e) same h)
in_flat (b ∷ bs) (suc j) batch e is h = Contains-append_right b (flat bs) e (in_flat bs j batch e is h)

-- and the other way round
in_a_batch : (bs : List (List Entry)) (e : Entry) → Contains (flat bs) e → (j : ℕ) × (batch : List Entry) × (slice_get bs j ≡ Some batch) × Contains batch e
in_a_batch [] e h = absurd (omega (arith, h.1))
in_a_batch (b ∷ bs) e h = elim (Contains-append_cases b (flat bs) e h) [
  | inl here' ↦ (0, b, refl, here')
  | inr there ↦ let more = in_a_batch bs e there in (suc more.0, more.1, more.2, more.3)
]

-- the place of an entry in the batches from a number on
placed_from : (k : ℕ) (bs : List (List Entry)) (j : ℕ) (batch : List Entry) (e : Entry) → AreDistinct (leaves_of (flat bs)) → slice_get bs j ≡ Some batch → Contains batch e
    → IsPlaced (place_from k bs e.leaf) (k + j) e
placed_from k [] j batch e distinct is h = cc
placed_from k (b ∷ bs) zero batch e distinct is h =
    let same : batch ≡ b = cc in
    let both : AreDistinct (leaves_of b ++ leaves_of (flat bs)) = rw map-append at distinct in
    let here' = placed_in k 0 b e (distinct_front (leaves_of b) (leaves_of (flat bs)) both) (subst (λ (x : List Entry). Contains x e) same h) in
    record { at = here'.at; is = ap (λ o. or_else o (place_from (k + 1) bs e.leaf)) here'.is; in_batch = here'.in_batch ∙ omega arith; entry = here'.entry }
placed_from k (b ∷ bs) (suc j) batch e distinct is h =
    let both : AreDistinct (leaves_of b ++ leaves_of (flat bs)) = rw map-append at distinct in
    let there = contains_leaf (flat bs) e (in_flat bs j batch e is h) in
    let none = none_in k 0 b e.leaf (distinct_across (leaves_of b) (leaves_of (flat bs)) e.leaf both there) in
    let more = placed_from (k + 1) bs j batch e (distinct_back (leaves_of b) (leaves_of (flat bs)) both) is h in
    record { at = more.at; is = ap (λ o. or_else o (place_from (k + 1) bs e.leaf)) none ∙ more.is; in_batch = more.in_batch ∙ omega arith; entry = more.entry }

-- the place of an entry of a batch
pub entry_placed : (bs : List (List Entry)) (j : ℕ) (batch : List Entry) (e : Entry) → AreDistinct (leaves_of (flat bs)) → slice_get bs j ≡ Some batch → Contains batch e
    → IsPlaced (place_of bs e.leaf) j e
unfolding place_of
entry_placed bs j batch e distinct is h = let at = placed_from 0 bs j batch e distinct is h in record { at = at.at; is = at.is; in_batch = at.in_batch ∙ omega arith; entry = at.entry }

-- and of an entry of the book
pub entry_there : (bs : List (List Entry)) (e : Entry) → AreDistinct (leaves_of (flat bs)) → Contains (flat bs) e → (j : ℕ) × IsPlaced (place_of bs e.leaf) j e
entry_there bs e distinct h = let at = in_a_batch bs e h in (at.0, entry_placed bs at.0 at.1 e distinct at.2 at.3)

-- an entry is determined by its leaf
pub one_entry : (bs : List (List Entry)) (e f : Entry) → AreDistinct (leaves_of (flat bs)) → Contains (flat bs) e → Contains (flat bs) f → e.leaf ≡ f.leaf → e ≡ f
one_entry bs e f distinct h g same =
    let a = entry_there bs e distinct h in
    let b = entry_there bs f distinct g in
    let places : Some a.1.at ≡ Some b.1.at = sym a.1.is ∙ ap (place_of bs) same ∙ b.1.is in
    let place : a.1.at ≡ b.1.at = cc in
    sym a.1.entry ∙ ap (λ (p : Place). p.entry) place ∙ b.1.entry
