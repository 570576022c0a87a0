-- The search for a leaf's call, from the first batch on.
use Rattle.std.proofs.Common.{ℕ, ◌≡◌, ◌<◌, ◌≤◌, ◌+◌, true, Option, Some, None, List, ◌∷◌, length, drop, get_or, refl, sym, ◌∙◌, ap, add-one, drop-cons}
use Rattle.std.specs.Prelude.{is_some}
use Rattle.std.proofs.Math.ListN.{drop_of_length-le}
use Rattle.batch_history.specs.declared.batch.Entry.{Entry}
use Rattle.batch_history.specs.declared.place.Place.{Place}
use Rattle.batch_history.specs.Places.{place_in, or_else, place_from}

some_else : (found other : Option Place) → is_some found ≡ true → or_else found other ≡ found
some_else (Some place) other some = refl
some_else None other some = cc

-- the first call of the leaf is in the batch that is looked at
pub found_first : (book : List (List Entry)) (n : ℕ) (batch : List Entry) (leaf : ℕ) (found : Option Place) → n < length book
    → batch ≡ get_or book n batch → found ≡ place_in n 0 batch leaf → is_some found ≡ true → found ≡ place_from n (drop n book) leaf
found_first book n batch leaf found below at is some =
    let e : drop n book ≡ get_or book n batch ∷ drop (n + 1) book = rw (add-one, drop-cons book n batch) in
    let here : place_in n 0 (get_or book n batch) leaf ≡ found = ap (λ b. place_in n 0 b leaf) (sym at) ∙ sym is in
    sym (ap (λ l. place_from n l leaf) e ∙ (ap (λ o. or_else o (place_from (n + 1) (drop (n + 1) book) leaf)) here
    ∙ some_else found (place_from (n + 1) (drop (n + 1) book) leaf) some))

-- past the last batch nothing is found
pub found_none : (book : List (List Entry)) (n leaf : ℕ) → length book ≤ n → place_from n (drop n book) leaf ≡ None
found_none book n leaf past = ap (λ l. place_from n l leaf) (drop_of_length-le book past)
