-- A worker's entries in the book, the place of an entry, and calls that are not served yet.
use Rattle.core_model.specs.Invariant.Hold.{is_published}
use Rattle.core_model.specs.State.{State}
use Rattle.core_model.specs.Words.{Entry, Executing, Pending}
use Rattle.std.specs.Prelude.{List, Some, [], false, if◌then◌else◌, slice_get, ℕ, ◌==◌, ◌∷◌, ◌≡◌, ◌⊎◌}

-- the entries of `worker`, in order
abbrev pub entries_of : ℕ → List Entry → List Entry
entries_of worker [] = []
entries_of worker (entry ∷ entries) =
    if entry.worker == worker then entry ∷ entries_of worker entries else entries_of worker entries

-- the entry is at this place of the batch with this number
abbrev pub StandsAt : List (List Entry) → ℕ → ℕ → Entry → Type 0
StandsAt book batch place entry =
    (entries : List Entry) × (slice_get book batch ≡ Some entries) × (slice_get entries place ≡ Some entry)

-- the worker has a call in no batch yet: it is pending, or taken by a hold that has not published
abbrev pub IsUnserved : State → ℕ → Type 0
IsUnserved s w = (s.status w ≡ Pending) ⊎ ((s.status w ≡ Executing) × (is_published s.hold ≡ false))
