-- What a step makes of the state that the table shows: the forms of the refinement statements in `Calls.antt` of
-- `core_table`.
use Rattle.std.specs.Prelude.{ℕ, ◌≡◌, ◌≢◌, ◌<◌, ◌++◌, ◌∷◌, [], length, slice_index, slice_set}
use mathlib.Core.Option.{some}
use lib.ListN.{get_elem?}
use Rattle.atomic_table.specs.Table.{Act, Valid, carried_after, stepped}
use Rattle.core_model.specs.State.{CoreJob, State}
use Rattle.core_model.specs.Events.{Happens}
use Rattle.table_rule.specs.CoreWords.{Event, Leave, Receipt}
use Rattle.table_rule.specs.declared.slot.Slot.{Slot}
use Rattle.table_rule.specs.declared.view.View.{View}
use Rattle.table_rule.specs.Shows.{TableState, Shows}
use Rattle.table_rule.specs.Views.{pass_of, rest_of}
use Rattle.table_rule.specs.Plays.{SeatState}

-- the table shows a state that satisfies `Is`
abbrev pub ShowsOne : CoreJob → ℕ → (State → Type 0) → TableState → Type 0
ShowsOne job room Is t = (shown : Shows job room t) × Is shown.state

-- A step of seat `id` on a word, which turns the number found there into `written` of it, refines `Makes`. Whatever
-- table shows a state before the step, there are a new view and a valid act on slots for the seat such that the table
-- shows a state after the step too, `Makes` relates the state before, the number found and the state after, and `tells`
-- relates the number found and the seat after. The seat before is `me`; the table has `slots` slots, and words below
-- 2^64.
abbrev pub StepRefines : CoreJob → ℕ → ℕ → ℕ → SeatState → ℕ → (ℕ → ℕ) → (ℕ → SeatState → Type 0) → (State → ℕ → State → Type 0) → Type 0
StepRefines job room slots id me word written tells Makes =
    (t : TableState) (before : Shows job room t) → length t.homes ≡ slots → get_elem? t.views id ≡ some me.0
    → slice_index t.words word < 18446744073709551616
    → (view : View) × (act : Act Slot) × Valid t.homes me.1 act
    × ShowsOne job room (Makes before.state (slice_index t.words word)) (stepped t word (written (slice_index t.words word)) id me.1 view act)
    × tells (slice_index t.words word) (view, carried_after me.1 act)

-- the step makes this event of worker k
abbrev pub MakesEvent : CoreJob → ℕ → Event → State → ℕ → State → Type 0
MakesEvent job k event before found after = Happens job before k event after

-- the step makes worker k's `Leave`, with some receipt
abbrev pub MakesLeave : CoreJob → ℕ → State → ℕ → State → Type 0
MakesLeave job k before found after = (receipt : Receipt) × Happens job before k (Leave receipt) after

-- a stutter: the state shown stays
abbrev pub Stutters : State → ℕ → State → Type 0
Stutters before found after = after ≡ before

-- a try: it does what `Makes` says if it finds the wanted number, else it is a stutter
abbrev pub TryMakes : ℕ → (State → ℕ → State → Type 0) → State → ℕ → State → Type 0
TryMakes wanted Makes before found after = (found ≡ wanted → Makes before found after) × (found ≢ wanted → Stutters before found after)

-- an arrival: it does what `First` says if it finds the mark at 0, else what `Second` says
abbrev pub ArrivalMakes : (State → ℕ → State → Type 0) → (State → ℕ → State → Type 0) → State → ℕ → State → Type 0
ArrivalMakes First Second before found after = (found ≡ 0 → First before found after) × (found ≢ 0 → Second before found after)

-- A split of seat `id`, whose view is v, is a stutter. The seat keeps the view `rest_of v`, and a new seat, behind all
-- others, has `pass_of v`. A split changes neither words nor slots.
abbrev pub SplitStutters : CoreJob → ℕ → ℕ → View → Type 0
SplitStutters job room id v =
    (t : TableState) (before : Shows job room t) → get_elem? t.views id ≡ some v
    → ShowsOne job room (λ after. after ≡ before.state) (record { words = t.words; homes = t.homes; views = slice_set t.views id (rest_of v) ++ pass_of v ∷ [] })
