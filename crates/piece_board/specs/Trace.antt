-- The trace of a board: its events, each a change of the word of a place, and the looks that found nothing.
use Rattle.std.specs.Prelude.{ℕ, ◌≡◌, ◌≤◌, ◌<◌, ◌%◌, ◌==◌, List, [], ◌∷◌, ◌++◌, length, slice_index, if◌then◌else◌}
use Rattle.std.specs.List.{AllByRecursion, sum_by}
use mathlib.Core.Option.{some}
use lib.ListN.{get_elem?}
use Rattle.piece_board.specs.declared.view.Miss.{Miss}
use Rattle.piece_board.specs.declared.view.View.{View}

-- an event: the seat that changes a word, and the place whose word it is
abbrev pub Event : Type 0
Event = ℕ × ℕ

-- the places whose words a seat changes in a trace, the oldest first
abbrev pub event_if : ℕ → Event → List ℕ
event_if seat event = if event.0 == seat then event.1 ∷ [] else []

abbrev pub events_by : ℕ → List Event → List ℕ
events_by seat [] = []
events_by seat (event ∷ events) = event_if seat event ++ events_by seat events

-- The word of place `k` after a trace. A place is free at the start, and each event at it makes it open, claimed, full
-- and free in turn.
abbrev pub word_after : List Event → ℕ → ℕ
word_after trace k = sum_by (λ event. if event.1 == k then 1 else 0) trace % 4

-- A miss of a seat was true after these events: they number as many as its moment, with as many of the seat's own as it
-- says, and after them its word has the number found.
pub record IsTrueAfter (seat : ℕ) (trace : List Event) (miss : Miss) : Type 0 where
  pub moment : length trace ≡ miss.moment
  pub events : length (events_by seat trace) ≡ miss.events
  pub word : word_after trace miss.word ≡ miss.found

-- it was true at a moment of this trace, which has gone on since
abbrev pub IsTrueIn : ℕ → List Event → Miss → Type 0
IsTrueIn seat trace miss =
    (front : List Event) × (back : List Event) × (trace ≡ front ++ back) × IsTrueAfter seat front miss

-- the misses of a view stand in the order of their moments, the newest first
abbrev pub AreInOrder : List Miss → Type 0
AreInOrder [] = Unit {0}
AreInOrder (miss ∷ earlier) = AllByRecursion (λ (m : Miss). m.moment ≤ miss.moment) earlier × AreInOrder earlier

-- A trace that leads from the start to these words. The events of each seat in it are those in its view, and each miss
-- in that view was true at its moment of the trace.
pub record HasTrace {I : Type 0} (words : List ℕ) (views : List (View I)) : Type 0 where
  pub trace : List Event
  pub reached : (k : ℕ) → k < length words → slice_index words k ≡ word_after trace k
  pub events : (seat : ℕ) (v : View I) → get_elem? views seat ≡ some v → events_by seat trace ≡ v.events
  pub seated : (seat : ℕ) → length views ≤ seat → events_by seat trace ≡ []
  pub misses : (seat : ℕ) (v : View I) → get_elem? views seat ≡ some v
      → AllByRecursion (IsTrueIn seat trace) v.misses × AreInOrder v.misses
