-- The refinement mapping: when the words, the slots and the views of the passes of a table show a state of the core.
use Rattle.std.specs.Prelude.{ℕ, ◌≡◌, ◌≢◌, ◌⊎◌, slice_index, ◌<◌, ◌≤◌, ◌+◌, ◌==◌, Bool, true, false, if◌then◌else◌, Option as Maybe, None, Some, List, [], ◌∷◌, ◌++◌, length, map}
use mathlib.Core.Option.{Option, none, some}
use lib.ListN.{get_elem?}
use Rattle.std.specs.List.{AllByRecursion}
use Rattle.atomic_table.specs.Table.{State as AtomicState}
use Rattle.seq_objects.specs.Pairs.{AreDistinct}
use Rattle.batch_history.specs.Book.{flat}
use Rattle.batch_history.specs.Reserved.{ReservedView}
use Rattle.core_model.specs.Runs.{Step, Reaches}
use Rattle.core_model.specs.Settings.{job_of, job_with}
use Rattle.core_model.specs.Words.{Entry, LeafNode}
use Rattle.table_rule.specs.CoreWords.{Event, Task, Idle, Started, Status, Free, Pending, Executing, Served, CallState, NotCalled, Out, Got}
use Rattle.core_model.specs.State.{CoreJob, CoreState, Hold, State}
use Rattle.core_model.specs.LeafSources.{HasItsValue}
use Rattle.core_model.specs.Operations.{op_of, Place}
use Rattle.core_model.specs.Entries.{entries_of}
use Rattle.core_model.specs.Measure.{call_count}
use Rattle.core_model.specs.Tasks.{is_done}
use Rattle.core_model.specs.Invariant.{Parts}
use Rattle.core_model.specs.Waits.{WaitsSince, task_place}
use Rattle.seq_objects.specs.declared.call.Call.{Call}
use Rattle.table_rule.specs.declared.slot.OpRecord.{OpRecord}
use Rattle.table_rule.specs.declared.slot.Slot.{Slot}
use Rattle.table_rule.specs.declared.slot.Slot.TheVariants as Slots
use Rattle.table_rule.specs.declared.view.HoldView.{HoldView}
use Rattle.table_rule.specs.declared.view.LeftCall.{LeftCall}
use Rattle.table_rule.specs.declared.view.Miss.{Miss}
use Rattle.table_rule.specs.declared.view.View.{View}
use Rattle.core_model.specs.declared.setting.Setting.{Setting}
use Rattle.table_rule.specs.Passes.{record_of}
use Rattle.table_rule.specs.Words.{stop_at, slot_count, WordsShow}
pub use Rattle.core_model.specs.Settings.{job_of}

-- a table as plain data: its words, its slots and the view of each seat
abbrev pub TableState : Type 0
TableState = AtomicState Slot View

-- A look-up of a slot: `none` if there is no such slot, `some none` if a pass carries it, else its value in the table.
abbrev pub SlotHome : Type 0
SlotHome = Option (Option Slot)

-- the number of leaves that call, which is the number of batches that the book has room for
abbrev pub room_of : Setting → ℕ
room_of key = call_count (job_of key)

-- the task is `Started` at the record's leaf, and the record's operation is what that leaf calls under this book
abbrev pub IsRecordOf : CoreJob → List (List Entry) → Task → OpRecord → Type 0
IsRecordOf job book task call =
    (node : ℕ) × (start : ℕ) × (task ≡ Started node start) × (job.plan.kind node ≡ Some (LeafNode call.leaf))
    × (op_of job book call.leaf ≡ Some call.op)

-- A worker's record slot, by its status. Pending: it is in the table, with the call. Executing: it is not in the table.
-- Served: it is in the table, with the receipt. Free: nothing is said.
abbrev pub RecordAt : CoreJob → List (List Entry) → Task → Status → SlotHome → Type 0
RecordAt job book task Free home = Unit {0}
RecordAt job book task Pending home = (call : OpRecord) × (home ≡ some (some (Slots.Record call))) × IsRecordOf job book task call
RecordAt job book task Executing home = home ≡ some none
RecordAt job book task (Served receipt) home = home ≡ some (some (Slots.Receipt receipt))

-- the shop is in the table, with the batches of the book, exactly while the flag is free
abbrev pub ShopAt : Maybe Hold → List (List Entry) → SlotHome → Type 0
ShopAt None book home = home ≡ some (some (Slots.Shop book))
ShopAt (Some h) book home = home ≡ some none

-- a book with these batches, and room for `capacity` batches in all
abbrev pub reserved : List (List Entry) → ℕ → ReservedView
reserved batches capacity = record { batches = batches; capacity = capacity }

abbrev pub IsBookHome : ℕ → List (List Entry) → SlotHome → Type 0
IsBookHome room book home = home ≡ some (some (Slots.Book (reserved book room)))

abbrev pub BookIf : Bool → ℕ → List (List Entry) → SlotHome → Type 0
BookIf true room book home = IsBookHome room book home
BookIf false room book home = home ≡ some none

-- the book is in the table exactly while the flag is free or its hold has published
abbrev pub BookAt : ℕ → Maybe Hold → List (List Entry) → SlotHome → Type 0
BookAt room None book home = IsBookHome room book home
BookAt room (Some h) book home = BookIf h.published room book home

-- The slots show these parts of a state. Their order: the workers' record slots, the shop, the book.
pub record SlotsShow (job : CoreJob) (room : ℕ) (homes : List (Option Slot)) (task : ℕ → Task) (status : ℕ → Status)
    (hold : Maybe Hold) (book : List (List Entry)) : Type 0 where
  pub wide : length homes ≡ slot_count job.workers
  pub records : (w : ℕ) → w < job.workers → RecordAt job book (task w) (status w) (get_elem? homes w)
  pub shop : ShopAt hold book (get_elem? homes job.workers)
  pub batches : BookAt room hold book (get_elem? homes (job.workers + 1))

-- whether a worker's call was taken, and which call it is
abbrev pub took_in : List Call → ℕ → Bool
took_in [] u = false
took_in (t ∷ taken) u = if u == t.worker then true else took_in taken u

abbrev pub record_in : List Call → ℕ → Maybe OpRecord
record_in [] u = None
record_in (t ∷ taken) u = if u == t.worker then Some (record_of t) else record_in taken u

abbrev pub among : List ℕ → ℕ → Bool
among [] u = false
among (x ∷ xs) u = if u == x then true else among xs u

-- the core's hold, as the hold view of worker w determines it
abbrev pub hold_of : ℕ → HoldView → Hold
hold_of w v = record { worker = w; looks = v.looks; taken = took_in v.taken; answered = among v.answered; published = v.published }

-- What the view of worker w says of the flag. Without a hold, w is not the flag's holder. With one, it determines the
-- state's hold and book, each unanswered call is that of its worker's task, and no worker was taken twice.
abbrev pub HoldKnown : CoreJob → State → Maybe HoldView → ℕ → Type 0
HoldKnown job s None w = (h : Hold) → s.hold ≡ Some h → h.worker ≢ w
HoldKnown job s (Some v) w =
    (s.hold ≡ Some (hold_of w v)) × (s.book ≡ v.book)
    × ((u : ℕ) (call : OpRecord) → record_in v.taken u ≡ Some call → among v.answered u ≡ false → IsRecordOf job s.book (s.task u) call)
    × AreDistinct (map (λ t. t.worker) v.taken)

-- the book entry of a call that worker w has left
abbrev pub entry_of : ℕ → LeftCall → Entry
entry_of w call = record { leaf = call.call.leaf; worker = w; op = call.call.op; reply = call.receipt.reply }

abbrev pub entry_at : Maybe Place → List Entry
entry_at None = []
entry_at (Some place) = place.entry ∷ []

-- the entry of an outstanding call, if it has a place in the book
abbrev pub present : CallState → Maybe Place → List Entry
present NotCalled place = []
present Out place = entry_at place
present (Got receipt) place = []

-- What the view of worker w says of the number of batches. `greatest` is at most the book's length, and bounds `before`
-- and `after`. The batch of an outstanding call is not below `before`; its wait is counted from `after`.
pub record SinceKnown (job : CoreJob) (s : State) (v : View) (w : ℕ) : Type 0 where
  pub most : v.own.greatest ≤ length s.book
  pub early : v.own.before ≤ v.own.greatest
  pub late : (since : ℕ) → v.own.after ≡ Some since → since ≤ v.own.greatest
  pub placed : (place : Place) → s.call w ≡ Out → task_place job s.book (s.task w) ≡ Some place → v.own.before ≤ place.batch
  pub waits : (since : ℕ) → v.own.after ≡ Some since → s.call w ≡ Out → WaitsSince job s w since

-- What was told for this task: it is `Started` at a leaf that has a source, the source has its value, and the number told
-- is that value.
abbrev pub IsTold : CoreJob → State → Task → ℕ → Type 0
IsTold job s task value =
    (node : ℕ) × (start : ℕ) × (leaf : ℕ) × (source : ℕ) × (task ≡ Started node start) × (job.plan.kind node ≡ Some (LeafNode leaf))
    × (job.source leaf ≡ Some source) × (has : HasItsValue job s source) × (value ≡ has.value)

-- xs is a prefix of ys
abbrev pub IsPrefix : {A : Type 0} → List A → List A → Type 0
IsPrefix {A} xs ys = (more : List A) × (ys ≡ xs ++ more)

-- What view v of seat `id` says of worker w, whose record slot is `home`. By `sits`, `id` is the one seat of the worker
-- (`seat`).
pub record AgreesWithView (job : CoreJob) (s : State) (home : SlotHome) (seat id : ℕ) (v : View) (w : ℕ) : Type 0 where
  pub sits : seat ≡ id
  -- the state's task and call of the worker are those of the view
  pub task : s.task w ≡ v.own.task
  pub call : s.call w ≡ v.own.call
  -- an outstanding call is the one that the pass posted last
  pub posted : s.call w ≡ Out → (call : OpRecord) × (v.own.posted ≡ Some call) × IsRecordOf job s.book (s.task w) call
  -- what the pass was told of its task's source is the value of that source
  pub told : (value : ℕ) → v.own.told ≡ Some value → IsTold job s v.own.task value
  pub hold : HoldKnown job s v.own.hold w
  -- the worker's entries in the book: those of the calls that the pass has left, in order, then that of its
  -- outstanding call, if the book has it
  pub entries : entries_of w (flat s.book) ≡ map (entry_of w) v.own.left ++ present (s.call w) (task_place job s.book (s.task w))
  -- A worker whose pass has not enrolled is idle and has neither call nor left calls. Its record slot is vacant, in
  -- the table.
  pub new : v.enrolled ≡ false → (home ≡ some (some Slots.Vacant)) × (v.own.task ≡ Idle) × (v.own.call ≡ NotCalled) × (v.own.left ≡ [])
  pub done : v.saw_done ≡ true → is_done (s.node 0) ≡ true
  pub since : SinceKnown job s v w
  -- the book that the pass has seen is a prefix of the book
  pub seen : IsPrefix v.own.book_seen s.book

-- worker w is in the range of this seat's view
abbrev pub HasSeat : List View → ℕ → ℕ → Type 0
HasSeat views seat w = (v : View) × (get_elem? views seat ≡ some v) × (v.own.worker ≤ w) × (w < v.to)

-- the events of worker w in a trace, the oldest first
abbrev pub event_if : ℕ → Step → List Event
event_if w step = if step.worker == w then step.event ∷ [] else []

abbrev pub events_by : ℕ → List Step → List Event
events_by w [] = []
events_by w (step ∷ steps) = event_if w step ++ events_by w steps

-- The views agree with a trace: for each worker in a view's range, the view's events are the worker's events in the
-- trace. The first seat has several workers until their passes are split off, and no events.
abbrev pub EventsAgree : List View → List Step → Type 0
EventsAgree views steps =
    (id : ℕ) (v : View) (w : ℕ) → get_elem? views id ≡ some v → v.own.worker ≤ w → w < v.to → events_by w steps ≡ v.own.events

-- In this state the word at `place` has this number: words that encode the state have it there. A state says nothing of
-- the stop word.
abbrev pub HasWord : CoreJob → State → ℕ → ℕ → Type 0
HasWord job s place number =
    (words : List ℕ)
    × WordsShow job.workers job.plan.count words s.node s.mark s.value s.status s.hold s.tick (length s.book)
    × (slice_index words place ≡ number)

-- A miss of worker w's pass was true after these steps: they number as many as its moment, with as many events of the
-- worker as it says, and in the state that they reach its word has the number found.
pub record IsTrueAfter (job : CoreJob) (w : ℕ) (steps : List Step) (miss : Miss) : Type 0 where
  pub core : CoreState
  pub reached : Reaches job steps core
  pub moment : length steps ≡ miss.moment
  pub events : length (events_by w steps) ≡ miss.events
  pub word : HasWord job core.state miss.word miss.found

-- it was true at a moment of this trace, which has gone on since
abbrev pub IsTrueIn : CoreJob → ℕ → List Step → Miss → Type 0
IsTrueIn job w trace miss =
    (front : List Step) × (back : List Step) × (trace ≡ front ++ back) × IsTrueAfter job w front miss

-- the misses of a view stand in the order of their moments, the newest first
abbrev pub AreInOrder : List Miss → Type 0
AreInOrder [] = Unit {0}
AreInOrder (miss ∷ earlier) = AllByRecursion (λ (m : Miss). m.moment ≤ miss.moment) earlier × AreInOrder earlier

-- The views agree with a trace: for each worker in a view's range, each miss of the view was true at its moment.
abbrev pub MissesAgree : CoreJob → List View → List Step → Type 0
MissesAgree job views trace =
    (id : ℕ) (v : View) (w : ℕ) → get_elem? views id ≡ some v → v.own.worker ≤ w → w < v.to
    → AllByRecursion (IsTrueIn job w trace) v.misses × AreInOrder v.misses

-- a miss at the stop word found 0, and not after this set of the word, if there is one
abbrev pub IsNotAfter : ℕ → Maybe ℕ → Type 0
IsNotAfter moment None = Unit {0}
IsNotAfter moment (Some set) = moment ≤ set

abbrev pub IsBeforeSet : ℕ → Maybe ℕ → Miss → Type 0
IsBeforeSet stop set miss = miss.word ≡ stop → (miss.found ≡ 0) × IsNotAfter miss.moment set

-- The stop word, which stands at `stop`, is 0 or 1. It is 1 exactly if the pass of some worker has set it, and it is 1
-- if any look has ever found it set. A look that found it not set was not after any set of it.
pub record StopShows (stop word : ℕ) (views : List View) : Type 0 where
  pub known : (word ≡ 0) ⊎ (word ≡ 1)
  pub set : (id : ℕ) (v : View) → get_elem? views id ≡ some v → 0 < v.own.stops → word ≡ 1
  pub by : word ≡ 1 → (id : ℕ) × (v : View) × (get_elem? views id ≡ some v) × (0 < v.own.stops) × (v.own.worker < v.to)
  pub found : (id : ℕ) (v : View) → get_elem? views id ≡ some v → 0 < v.own.stops_found → word ≡ 1
  pub since : (id : ℕ) (v : View) (moment : ℕ) → get_elem? views id ≡ some v → v.stopped_at ≡ Some moment → word ≡ 1
  pub unset : (id other : ℕ) (v u : View) → get_elem? views id ≡ some v → v.own.worker < v.to → get_elem? views other ≡ some u
      → AllByRecursion (IsBeforeSet stop u.stopped_at) v.misses

-- The table shows a state that has the eight parts of the invariant. Each worker is in the range of exactly one seat;
-- the first seat has all workers not yet split off. A trace leads from the opening state to the state. Each worker's
-- events in it are those in the view of its seat, and each miss in that view was true at its moment of the trace.
pub record Shows (job : CoreJob) (room : ℕ) (t : TableState) : Type 0 where
  pub state : State
  -- the seat of each worker
  pub seat : ℕ → ℕ
  pub parts : Parts job state
  pub words : WordsShow job.workers job.plan.count t.words state.node state.mark state.value state.status state.hold state.tick (length state.book)
  pub slots : SlotsShow job room t.homes state.task state.status state.hold state.book
  pub views : (id : ℕ) (v : View) (w : ℕ) → get_elem? t.views id ≡ some v → v.own.worker ≤ w → w < v.to
      → (w < job.workers) × AgreesWithView job state (get_elem? t.homes w) (seat w) id v w
  pub seats : (w : ℕ) → w < job.workers → HasSeat t.views (seat w) w
  pub trace : List Step
  -- the ready list of each worker after the trace; it is in the model only, for a table has no deques
  pub ready : ℕ → List ℕ
  pub reached : Reaches job trace (record { state = state; ready = ready })
  pub events : EventsAgree t.views trace
  pub misses : MissesAgree job t.views trace
  pub stop : StopShows (stop_at job.workers) (slice_index t.words (stop_at job.workers)) t.views

-- The rule of the table, where the leaves of work compute `work`: `atomic_table` keeps it between any two steps.
abbrev pub ShownWith : (ℕ → ℕ) → Setting → TableState → Type 0
ShownWith work key = Shows (job_with work key) (room_of key)
