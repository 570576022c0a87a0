-- The place of a leaf's entry in a book.
use Rattle.std.specs.Prelude.{ℕ, ◌+◌, ◌==◌, if◌then◌else◌, List, [], ◌∷◌, None, Option, Some}
use Rattle.batch_history.specs.declared.batch.Entry.{Entry}
use Rattle.batch_history.specs.declared.place.Place.{Place}

-- the place of a leaf's first entry in a list; the list is the batch `batch` from `place` on
abbrev pub place_in : ℕ → ℕ → List Entry → ℕ → Option Place
place_in batch place [] leaf = None
place_in batch place (entry ∷ entries) leaf =
    if entry.leaf == leaf then Some (record { batch = batch; place = place; entry = entry })
    else place_in batch (place + 1) entries leaf

abbrev pub or_else : Option Place → Option Place → Option Place
or_else (Some place) other = Some place
or_else None other = other

-- the place of a leaf's first entry in the batches of a list, the first of which has the number `batch`
abbrev pub place_from : ℕ → List (List Entry) → ℕ → Option Place
place_from batch [] leaf = None
place_from batch (entries ∷ book) leaf = or_else (place_in batch 0 entries leaf) (place_from (batch + 1) book leaf)

-- the place of a leaf's first entry in a book
unfoldable pub place_of : List (List Entry) → ℕ → Option Place
place_of book leaf = place_from 0 book leaf
