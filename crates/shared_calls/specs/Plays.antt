-- What each step tells its seat: a relation of the step, the seat before, the number found, and the seat after. Word p,
-- the flag, is the word of the steps that speak of it.
use Rattle.std.specs.Prelude.{◌≡◌, ◌≢◌, ℕ, ◌+◌, List, [], ◌∷◌, ◌++◌, drop, true, false, ◌||◌, if◌then◌else◌, slice_index_or}
use Rattle.std.specs.List.{AllByRecursion}
use Rattle.atomic_table.specs.Table.{Me, Step, rest}
use Rattle.shared_calls.specs.declared.view.Entry.{Entry}
use Rattle.shared_calls.specs.declared.view.Request.{Request}
use Rattle.shared_calls.specs.declared.view.Request.TheVariants.{Nothing, Asks, Retired}
use Rattle.shared_calls.specs.declared.view.Slot.{Slot}
use Rattle.shared_calls.specs.declared.view.Slot.TheVariants.{Vacant, Posted, Answered, Whole}
use Rattle.shared_calls.specs.declared.view.View.{View}
use Rattle.shared_calls.specs.Serial.{SerialObject}
use Rattle.shared_calls.specs.Logs.{entry, ask, entries_of, calls_by, StartsWith, state_after, IsSerial}
use Rattle.shared_calls.specs.Rule.{IsLost, newcomers, made_by}

module _ {O R : Type 0} where
  -- the two parts of a split: the first caller, and the others
  abbrev pub first_caller : View O R → View O R
  first_caller v = record v { to = v.from + 1; made = made_by v v.from ∷ [] }

  abbrev pub other_callers : View O R → View O R
  other_callers v = record v { from = v.from + 1; made = drop 1 v.made }

  -- a note of what the seat has seen
  abbrev pub note_of : View O R → View O R
  note_of v = record (newcomers 0 0 0) { seen = v.seen }

  -- a seat hears a note
  abbrev pub hearing : View O R → View O R → View O R
  hearing v note = record v { heard = note.seen ∷ [] }

  abbrev pub heard_view : View O R → List (Entry O R) → View O R
  heard_view v log = record v { seen = log; heard = [] }

  -- what is left of a seat that was taken in
  abbrev pub spent_view : View O R
  spent_view = newcomers 0 0 0

  abbrev pub with_request : Request O → View O R → View O R
  with_request r v = record v { request = r }

  abbrev pub found_lost : View O R → List (Entry O R) → View O R
  found_lost v log = record v { lost = true; log = log }

  -- the calls that a caller made
  abbrev pub own_calls : View O R → List (Entry O R)
  own_calls v = slice_index_or v.made 0 []

  -- the calls that it made are its own among those of its log
  abbrev pub KnowsItsCalls : View O R → Type 0
  KnowsItsCalls v = calls_by v.from v.log ≡ own_calls v

  abbrev pub leaving : View O R → O → R → List (Entry O R) → View O R
  leaving v op reply log =
      record v { request = Nothing; made = (own_calls v ++ entry v.from op reply ∷ []) ∷ []; seen = log }

  abbrev pub winning : View O R → List (Entry O R) → View O R
  winning v log = record v { holds = true; log = log; looks = 0; taken = []; owed = [] }

  abbrev pub taking : View O R → ℕ → O → View O R
  taking v u op = record v { looks = u + 1; taken = v.taken ++ ask u op ∷ [] }

  -- the batch is served in this order; the replies are owed in the order in which the calls were taken
  abbrev pub publishing : View O R → List (Entry O R) → List R → View O R
  publishing v batch replies = record v { log = v.log ++ batch; taken = []; owed = entries_of v.taken replies }

  abbrev pub answering : View O R → View O R
  answering v = record v { owed = drop 1 v.owed }

  abbrev pub releasing : View O R → View O R
  releasing v = record v { holds = false; log = []; looks = 0; taken = []; owed = [] }

  abbrev pub losing : View O R → View O R
  losing v = record v { lost = true; holds = false; looks = 0; taken = []; owed = [] }

  -- a caller retires: what it made and what it has seen are kept
  abbrev pub retiring : View O R → View O R
  retiring v = record v { request = Retired; made = own_calls v ∷ []; heard = v.seen ∷ [] }

  -- a seat stands for the callers of its neighbour too, and knows what they know
  abbrev pub gathering : View O R → View O R → View O R
  gathering v w = record v {
    to = w.to;
    made = v.made ++ w.made;
    heard = v.heard ++ w.heard;
    lost = v.lost || w.lost;
    log = if v.lost then v.log else w.log;
  }

module _ {O R : Type 0} (object : SerialObject O R) where
  -- The caller has its reply, and has seen all calls so far: they go on from those that it saw before, and among those
  -- that came since, this call is its only one. Where the structure is lost, these are all.
  abbrev pub IsLeft : View O R → R → View O R → Type 0
  IsLeft v reply w = (op : O) × (more : List (Entry O R)) × (v.request ≡ Asks op) × IsSerial object (v.seen ++ more)
      × (calls_by v.from more ≡ entry v.from op reply ∷ []) × (w ≡ leaving v op reply (v.seen ++ more))
      × (v.lost ≡ true → (w.log ≡ w.seen) × KnowsItsCalls w)

  -- among the calls that came since there is none of this caller, and these are all
  abbrev pub IsNotServed : View O R → Type 0
  IsNotServed v = (more : List (Entry O R)) × IsSerial object (v.seen ++ more) × (calls_by v.from more ≡ [])
      × (v.log ≡ v.seen ++ more) × KnowsItsCalls v

abbrev pub SeatOf : Type 0 → Type 0 → Type 0 → Type 0
SeatOf T O R = Me (Slot T O R) (View O R)

abbrev pub Told : Type 0 → Type 0 → Type 0 → Type 1
Told T O R = Step (Slot T O R) → SeatOf T O R → ℕ → SeatOf T O R → Type 0

module _ {T O R : Type 0} where
  abbrev pub Enrolls : Told T O R
  Enrolls st m found n = n ≡ (with_request Nothing m.0, (st.word, Vacant) ∷ m.1)

  abbrev pub Posts : Told T O R
  Posts st m found n = (op : O) → m.1 ≡ (st.word, Posted op) ∷ rest m.1 → n ≡ (with_request (Asks op) m.0, rest m.1)

  abbrev pub Looks : Told T O R
  Looks st m found n = (found ≡ 1 → (op : O) × (n ≡ (taking m.0 st.word op, (st.word, Posted op) ∷ m.1)))
      × (found ≢ 1 → n ≡ m)

  abbrev pub Answers : Told T O R
  Answers st m found n = n ≡ (answering m.0, rest m.1)

  abbrev pub Releases : Told T O R
  Releases st m found n = n ≡ (releasing m.0, rest m.1)

  abbrev pub Loses : Told T O R
  Loses st m found n = n ≡ (losing m.0, m.1)

  abbrev pub Retires : Told T O R
  Retires st m found n = n ≡ (retiring m.0, m.1)

  module _ (object : SerialObject O R) where
    abbrev pub Leaves : Told T O R
    Leaves st m found n =
        (found ≡ 2 → (reply : R) × (w : View O R) × IsLeft object m.0 reply w × (n ≡ (w, (st.word, Answered reply) ∷ m.1)))
        × (found ≢ 2 → (n ≡ m) × (m.0.lost ≡ true → IsNotServed object m.0))

    abbrev pub Hears : Told T O R
    Hears st m found n = (more : List (Entry O R)) × IsSerial object (m.0.seen ++ more)
        × AllByRecursion (StartsWith (m.0.seen ++ more)) m.0.heard × (calls_by m.0.from more ≡ [])
        × (n ≡ (heard_view m.0 (m.0.seen ++ more), m.1))

    -- the structure in hand has the content after all calls, with those of the batch
    abbrev pub Publishes : (T → object.State) → Told T O R
    Publishes content st m found n = (t : T) (rs : _) → m.1 ≡ (st.word, Whole t rs) ∷ rest m.1
        → (batch : List (Entry O R)) × (content t ≡ state_after object (m.0.log ++ batch))
        × (n ≡ (publishing m.0 batch rs.items, m.1))

    abbrev pub Wins : (T → object.State) → (T → List O → Type 0) → Told T O R
    Wins content fails st m found n =
        (found ≡ 0 → (t : T) × (rs : _) × (log : List (Entry O R)) × (content t ≡ state_after object log)
        × (n ≡ (winning m.0 log, (st.word, Whole t rs) ∷ m.1)))
        × (found ≡ st.word + 1 → (log : List (Entry O R)) × IsLost object content fails log × (n ≡ (found_lost m.0 log, m.1)))
        × (found ≢ 0 → found ≢ st.word + 1 → n ≡ m)
