-- The search for a leaf's entry: forward in a batch, and from the last batch back to the first.
use Rattle.std.proofs.Common.{ℕ, zero, suc, ◌≡◌, ◌≢◌, ◌<◌, ◌≤◌, ◌+◌, true, false, Option, Some, None, List, [], ◌∷◌, ◌++◌, length, map, take, drop, get_or, arith, refl, sym, ◌∙◌, ap, add-one, drop-cons, length-append}
use Rattle.std.specs.Prelude.{is_some}
use Rattle.std.proofs.lemmas.List.{map-append, take_more, length-take-le}
use Rattle.std.proofs.Math.ListN.{drop_of_length-le}
use Rattle.std.specs.List.{AllByRecursion}
use Rattle.batch_history.specs.declared.batch.Entry.{Entry}
use Rattle.seq_objects.specs.Pairs.{AreDistinct}
use Rattle.batch_history.specs.Book.{flat}
use Rattle.batch_history.specs.declared.place.Place.{Place}
use Rattle.batch_history.specs.Places.{place_in, or_else, place_of}
use Rattle.batch_history.proofs.BookLemmas.Books.{takes, skips, or_else_none, place_append, found_entry, found_in_book, flat_append}
use Rattle.seq_objects.proofs.Elements.{distinct_front}

module _ (k : ℕ) (entries : List Entry) (u n : ℕ) (d : Entry) (below : n < length entries) where
  abbrev place : Place
  place = record { batch = k; place = n; entry = get_or entries n d }

  opened : place_in k n (drop n entries) u ≡ place_in k n (get_or entries n d ∷ drop (n + 1) entries) u
  opened =
      let e : drop n entries ≡ get_or entries n d ∷ drop (n + 1) entries = rw (add-one, drop-cons entries n d) in
      ap (λ (l : List Entry). place_in k n l u) e

  -- the entry at this place is the leaf's: found
  pub found_here : (get_or entries n d).leaf ≡ u → place_in k n (drop n entries) u ≡ Some place
  found_here e = opened ∙ takes (get_or entries n d).leaf u place (place_in k (n + 1) (drop (n + 1) entries) u) e

  -- it is not: the search moves on
  pub passed_here : (get_or entries n d).leaf ≢ u → place_in k n (drop n entries) u ≡ place_in k (n + 1) (drop (n + 1) entries) u
  passed_here e = opened ∙ skips (get_or entries n d).leaf u place (place_in k (n + 1) (drop (n + 1) entries) u) e

-- past the end nothing is found
pub passed_all : (k : ℕ) (entries : List Entry) (u n : ℕ) → length entries ≤ n → place_in k n (drop n entries) u ≡ None
passed_all k entries u n past = ap (λ (l : List Entry). place_in k n l u) (drop_of_length-le entries past)

-- a batch is no longer than the book
pub batch_short : (bs : List (List Entry)) (n : ℕ) (d : List Entry) → n < length bs → length (get_or bs n d) ≤ length (flat bs)
batch_short [] n d below = absurd (omega (arith, below))
batch_short (b ∷ bs) zero d below = omega (arith, length-append b (flat bs))
batch_short (b ∷ bs) (suc n) d below = let h = batch_short bs n d (omega (arith, below)) in omega (arith, length-append b (flat bs), h)

-- if the leaves are distinct, an entry's leaf differs from those of `ys`
behind : (x : Entry) (xs ys : List Entry) → AllByRecursion (λ l. x.leaf ≢ l) (map (λ (e : Entry). e.leaf) (xs ++ ys))
    → AllByRecursion (λ (e : Entry). x.leaf ≢ e.leaf) ys
behind x [] [] h = tt
behind x [] (y ∷ ys) h = (h.0, behind x [] ys h.1)
behind x (z ∷ zs) ys h = behind x zs ys h.1

-- no entry of the first list has the leaf of one of the second
apart : (xs ys : List Entry) → AreDistinct (map (λ (e : Entry). e.leaf) (xs ++ ys))
    → AllByRecursion (λ (a : Entry). AllByRecursion (λ (b : Entry). a.leaf ≢ b.leaf) ys) xs
apart [] ys h = tt
apart (x ∷ xs) ys h = (behind x xs ys h.0, apart xs ys h.1)

-- A leaf found in one batch is in no earlier one, since leaves are distinct.
not_before : (bs : List (List Entry)) (b : List Entry) (u k : ℕ) (p q : Place) → AreDistinct (map (λ (e : Entry). e.leaf) (flat bs ++ b))
    → place_in k 0 b u ≡ Some p → place_of bs u ≡ Some q → ⊥
not_before bs b u k p q distinct e f =
    let first = found_in_book (λ (a : Entry). AllByRecursion (λ (x : Entry). a.leaf ≢ x.leaf) b) bs u q (apart (flat bs) b distinct) f in
    let second = found_entry (λ (x : Entry). q.entry.leaf ≢ x.leaf) k 0 b u p first.0 e in
    second.0 (first.1 ∙ sym second.1)

-- So the entry found from the last batch back is the first one of the leaf.
place_last : (bs : List (List Entry)) (b : List Entry) (u : ℕ) (o : Option Place) → AreDistinct (map (λ (e : Entry). e.leaf) (flat bs ++ b))
    → place_in (length bs) 0 b u ≡ o → is_some o ≡ true → place_of (bs ++ b ∷ []) u ≡ o
place_last bs b u None distinct e some = absurd (cc)
place_last bs b u (Some p) distinct e some =
    place_append bs b u
    ∙ elim (place_of bs u) as (λ o. place_of bs u ≡ o → or_else o (place_in (length bs) 0 b u) ≡ Some p) [
      | None ↦ λ f. e
      | Some q ↦ λ f. absurd (not_before bs b u (length bs) p q distinct e f)
    ] refl

-- If the last batch has no entry of the leaf, the search goes on in the batches before it.
place_not_last : (bs : List (List Entry)) (b : List Entry) (u : ℕ) → place_in (length bs) 0 b u ≡ None → place_of (bs ++ b ∷ []) u ≡ place_of bs u
place_not_last bs b u e = place_append bs b u ∙ (ap (or_else (place_of bs u)) e ∙ or_else_none (place_of bs u))

-- an empty book has no entries to find
pub place_none : (u : ℕ) → place_of [] u ≡ None
unfolding place_of
place_none u = refl

none_place : (o : Option Place) → is_some o ≡ false → o ≡ None
none_place None none = refl
none_place (Some p) none = cc

-- one step of the backward search, at batch `n` of the book
module _ (bs : List (List Entry)) (u n : ℕ) (b : List Entry) (below : n < length bs) (at : b ≡ get_or bs n b) where
  one_less : take (n + 1) bs ≡ take n bs ++ b ∷ []
  one_less = take_more bs n b below ∙ ap (λ x. take n bs ++ x ∷ []) (sym at)

  all_less : flat (take (n + 1) bs) ≡ flat (take n bs) ++ b
  all_less = ap flat one_less ∙ flat_append (take n bs) b

  here : length (take n bs) ≡ n
  here = length-take-le n bs (omega (arith, below))

  pub found_back : (found : Option Place) → AreDistinct (map (λ (e : Entry). e.leaf) (flat (take (n + 1) bs)))
      → found ≡ place_in n 0 b u → is_some found ≡ true → found ≡ place_of (take (n + 1) bs) u
  found_back found distinct e some =
      let last : place_of (take n bs ++ b ∷ []) u ≡ found =
      place_last (take n bs) b u found (rw all_less at distinct) (rw here (sym e)) some in
      rw one_less (sym last)

  pub passed_back : (found : Option Place) → found ≡ place_in n 0 b u → is_some found ≡ false
      → place_of (take (n + 1) bs) u ≡ place_of (take n bs) u
  passed_back found e none = rw one_less (place_not_last (take n bs) b u (rw here (sym e ∙ none_place found none)))

  pub distinct_back : AreDistinct (map (λ (e : Entry). e.leaf) (flat (take (n + 1) bs))) → AreDistinct (map (λ (e : Entry). e.leaf) (flat (take n bs)))
  distinct_back distinct =
      let both = rw all_less at distinct in
      distinct_front (map (λ (e : Entry). e.leaf) (flat (take n bs))) (map (λ (e : Entry). e.leaf) b) (rw map-append at both)
