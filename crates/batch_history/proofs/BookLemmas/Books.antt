-- Where entries stand in a book, and what a longer book is.
use Rattle.std.proofs.Common.{ℕ, zero, suc, get_or, ◌≡◌, ◌≢◌, ◌<◌, ◌+◌, ◌==◌, Bool, true, false, if◌then◌else◌, Option, Some, None, List, [], ◌⊎◌, inl, inr, ◌∷◌, ◌++◌, length, arith, refl, inl, inr, subst, sym, ◌∙◌, ap, add-zero, zero-add}
use Rattle.std.proofs.Common.{append-nil, append_assoc}
use Rattle.seq_objects.specs.Stores.{Store, opening_store, store_after}
use Rattle.std.specs.List.{AllByRecursion}
use Rattle.std.proofs.lemmas.Bool.Decides.{nat_tests}
use Rattle.std.proofs.lemmas.Bool.{cases_eq}
use Rattle.batch_history.specs.declared.batch.Entry.{Entry}
use Rattle.batch_history.specs.Book.{flat, IsLegalFrom}
use Rattle.batch_history.specs.declared.place.Place.{Place}
use Rattle.batch_history.specs.Places.{place_in, or_else, place_from, place_of}
use Rattle.batch_history.specs.Serving.{served_book, served}
use Rattle.seq_objects.proofs.Elements.{each_append, each_front, each_so}

-- the first of three places
or_else_assoc : (a b c : Option Place) → or_else a (or_else b c) ≡ or_else (or_else a b) c
or_else_assoc (Some p) b c = refl
or_else_assoc None b c = refl

-- the first of a place and none
pub or_else_none : (a : Option Place) → or_else a None ≡ a
or_else_none (Some p) = refl
or_else_none None = refl

-- a leaf's place in a longer book
place_from_append : (k : ℕ) (bs : List (List Entry)) (b : List Entry) (u : ℕ) → place_from k (bs ++ b ∷ []) u ≡ or_else (place_from k bs u) (place_in (k + length bs) 0 b u)
place_from_append k [] b u = rw add-zero (or_else_none (place_in k 0 b u))
place_from_append k (c ∷ cs) b u =
    let e : (k + 1) + length cs ≡ k + length (c ∷ cs) = omega arith in
    ap (or_else (place_in k 0 c u)) (place_from_append (k + 1) cs b u ∙ ap (λ n. or_else (place_from (k + 1) cs u) (place_in n 0 b u)) e)
    ∙ or_else_assoc (place_in k 0 c u) (place_from (k + 1) cs u) (place_in (k + length (c ∷ cs)) 0 b u)

-- a leaf's place in a longer book
pub place_append : (bs : List (List Entry)) (b : List Entry) (u : ℕ) → place_of (bs ++ b ∷ []) u ≡ or_else (place_of bs u) (place_in (length bs) 0 b u)
unfolding place_of
place_append bs b u = place_from_append 0 bs b u ∙ ap (λ n. or_else (place_from 0 bs u) (place_in n 0 b u)) (zero-add (length bs))

-- what is found stands in the batch, if it does in the rest of it
first_or : (t : Bool) (k i : ℕ) (x : Entry) (o : Option Place) (p : Place) → (if t then Some (record { batch = k; place = i; entry = x }) else o) ≡ Some p
    → (o ≡ Some p → p.batch ≡ k) → p.batch ≡ k
first_or true k i x o p e h = cc
first_or false k i x o p e h = h e

-- what is found in a batch has its number
pub place_in_batch : (k i : ℕ) (b : List Entry) (u : ℕ) (p : Place) → place_in k i b u ≡ Some p → p.batch ≡ k
place_in_batch k i [] u p e = cc
place_in_batch k i (x ∷ xs) u p e = first_or (x.leaf == u) k i x (place_in k (i + 1) xs u) p e (place_in_batch k (i + 1) xs u p)

-- a choice that takes the first
pub takes : (m u : ℕ) (a : Place) (o : Option Place) → m ≡ u → (if m == u then Some a else o) ≡ Some a
takes m u a o same = grind (arith, nat_tests)

-- and one that does not
pub skips : (m u : ℕ) (a : Place) (o : Option Place) → m ≢ u → (if m == u then Some a else o) ≡ o
skips m u a o other = grind (arith, nat_tests)

-- the first entry is what is found, if it is of the leaf
pub picks_first : (m u : ℕ) (a p : Place) (o : Option Place) → m ≡ u → (if m == u then Some a else o) ≡ Some p → a ≡ p
picks_first m u a p o at e = grind (arith, nat_tests)

-- else what is found is in the rest
pub picks_later : (m u : ℕ) (a p : Place) (o : Option Place) → m ≢ u → (if m == u then Some a else o) ≡ Some p → o ≡ Some p
picks_later m u a p o other e = grind (arith, nat_tests)

-- what is found is an entry of the leaf, of which holds what holds of each entry
pub found_entry : (P : Entry → Type 0) (k i : ℕ) (b : List Entry) (u : ℕ) (p : Place) → AllByRecursion P b → place_in k i b u ≡ Some p → P p.entry × (p.entry.leaf ≡ u)
found_entry P k i [] u p h e = cc
found_entry P k i (x ∷ xs) u p h e = elim (cases_eq x.leaf u) [
  | inl at ↦
      let q : record { batch = k; place = i; entry = x } ≡ p = picks_first x.leaf u (record { batch = k; place = i; entry = x }) p (place_in k (i + 1) xs u) at e in
      subst (λ (y : Place). P y.entry × (y.entry.leaf ≡ u)) q (h.0, at)
  | inr other ↦ found_entry P k (i + 1) xs u p h.1 (picks_later x.leaf u (record { batch = k; place = i; entry = x }) p (place_in k (i + 1) xs u) other e)
]

-- the first entry is found by its own leaf
first_there : (m : ℕ) (a : Place) (o : Option Place) → (if m == m then Some a else o) ≢ None
first_there m a o = grind (arith, nat_tests)

-- what is found in the rest is found
later_there : (t : Bool) (a : Place) (o : Option Place) → o ≢ None → (if t then Some a else o) ≢ None
later_there true a o h e = cc
later_there false a o h e = h e

-- each entry's leaf is found
pub each_found : (k i : ℕ) (b : List Entry) → AllByRecursion (λ (e : Entry). place_in k i b e.leaf ≢ None) b
each_found k i [] = tt
each_found k i (x ∷ xs) = (
  first_there x.leaf (record { batch = k; place = i; entry = x }) (place_in k (i + 1) xs x.leaf),
  each_so (λ (e : Entry). place_in k (i + 1) xs e.leaf ≢ None) (λ (e : Entry). place_in k i (x ∷ xs) e.leaf ≢ None)
      (λ e h. later_there (x.leaf == e.leaf) (record { batch = k; place = i; entry = x }) (place_in k (i + 1) xs e.leaf) h)
      xs (each_found k (i + 1) xs),
)

-- the first of two places is there, if the one is
or_first : (a b : Option Place) → a ≢ None → or_else a b ≢ None
or_first (Some p) b h e = cc
or_first None b h e = h refl

-- or the other
or_second : (a b : Option Place) → b ≢ None → or_else a b ≢ None
or_second (Some p) b h e = cc
or_second None b h e = h e

-- each entry's leaf is found in the batches from a number on
each_found_from : (k : ℕ) (bs : List (List Entry)) → AllByRecursion (λ (e : Entry). place_from k bs e.leaf ≢ None) (flat bs)
each_found_from k [] = tt
each_found_from k (b ∷ bs) =
    each_append (λ (e : Entry). place_from k (b ∷ bs) e.leaf ≢ None) b (flat bs)
    (each_so (λ (e : Entry). place_in k 0 b e.leaf ≢ None) (λ (e : Entry). place_from k (b ∷ bs) e.leaf ≢ None) (λ e h. or_first (place_in k 0 b e.leaf) (place_from (k + 1) bs e.leaf) h) b (each_found k 0 b))
    (each_so (λ (e : Entry). place_from (k + 1) bs e.leaf ≢ None) (λ (e : Entry). place_from k (b ∷ bs) e.leaf ≢ None) (λ e h. or_second (place_in k 0 b e.leaf) (place_from (k + 1) bs e.leaf) h) (flat bs) (each_found_from (k + 1) bs))

-- each entry's leaf has a place in the book
pub each_in_book : (bs : List (List Entry)) → AllByRecursion (λ (e : Entry). place_of bs e.leaf ≢ None) (flat bs)
unfolding place_of
each_in_book bs = each_found_from 0 bs

-- the entries of a longer book
pub flat_append : (bs : List (List Entry)) (b : List Entry) → flat (bs ++ b ∷ []) ≡ flat bs ++ b
flat_append [] b = append-nil b
flat_append (c ∷ cs) b = ap (λ l. c ++ l) (flat_append cs b) ∙ sym (append_assoc c (flat cs) b)

-- what holds of each entry of a book holds of each in one of its batches
pub each_in_batch : (P : Entry → Type 0) (bs : List (List Entry)) (n : ℕ) (d : List Entry) → n < length bs → AllByRecursion P (flat bs) → AllByRecursion P (get_or bs n d)
each_in_batch P [] n d below all = absurd (omega (arith, below))
each_in_batch P (b ∷ bs) zero d below all = (each_front P b (flat bs) all).0
each_in_batch P (b ∷ bs) (suc n) d below all = each_in_batch P bs n d (omega (arith, below)) (each_front P b (flat bs) all).1

-- the objects after serving two lists
pub served_append : (store : Store) (xs ys : List Entry) → served store (xs ++ ys) ≡ served (served store xs) ys
served_append store [] ys = refl
served_append store (x ∷ xs) ys = served_append (store_after store x.op) xs ys

-- two lists that are legal one after the other
pub legal_append : (store : Store) (xs ys : List Entry) → IsLegalFrom store xs → IsLegalFrom (served store xs) ys → IsLegalFrom store (xs ++ ys)
legal_append store [] ys h g = g
legal_append store (x ∷ xs) ys h g = (h.0, legal_append (store_after store x.op) xs ys h.1 g)

-- which of two places the first of them is
pub which_place : (p q : Option Place) (x : Place) → or_else p q ≡ Some x → (p ≡ Some x) ⊎ (q ≡ Some x)
which_place (Some y) q x e = inl e
which_place None q x e = inr e

-- what is found in the batches from a number on
found_from : (P : Entry → Type 0) (k : ℕ) (bs : List (List Entry)) (u : ℕ) (p : Place) → AllByRecursion P (flat bs) → place_from k bs u ≡ Some p → P p.entry × (p.entry.leaf ≡ u)
found_from P k [] u p h e = cc
found_from P k (b ∷ bs) u p h e =
    let both = each_front P b (flat bs) h in
    elim (which_place (place_in k 0 b u) (place_from (k + 1) bs u) p e) [
      | inl f ↦ found_entry P k 0 b u p both.0 f
      | inr f ↦ found_from P (k + 1) bs u p both.1 f
    ]

-- what is found in a book is an entry of the leaf, of which holds what holds of each entry
pub found_in_book : (P : Entry → Type 0) (bs : List (List Entry)) (u : ℕ) (p : Place) → AllByRecursion P (flat bs) → place_of bs u ≡ Some p → P p.entry × (p.entry.leaf ≡ u)
unfolding place_of
found_in_book P bs u p h e = found_from P 0 bs u p h e

-- one more batch is served after those before it
pub served_then : (book : List (List Entry)) (batch : List Entry) → served_book (book ++ batch ∷ []) ≡ served (served_book book) batch
served_then book batch = ap (served opening_store) (flat_append book batch) ∙ served_append opening_store (flat book) batch

-- what is found in the batches from a number on has a number below their end
place_from_below : (k : ℕ) (bs : List (List Entry)) (u : ℕ) (p : Place) → place_from k bs u ≡ Some p → p.batch < k + length bs
place_from_below k [] u p e = cc
place_from_below k (b ∷ bs) u p e = elim (which_place (place_in k 0 b u) (place_from (k + 1) bs u) p e) [
  | inl f ↦ omega (arith, place_in_batch k 0 b u p f)
  | inr f ↦ omega (arith, place_from_below (k + 1) bs u p f)
]

-- what is found in a book has the number of one of its batches
pub place_below : (bs : List (List Entry)) (u : ℕ) (p : Place) → place_of bs u ≡ Some p → p.batch < length bs
unfolding place_of
place_below bs u p e = omega (arith, place_from_below 0 bs u p e)
