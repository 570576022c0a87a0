-- What contracts see of a pass and of its hold, after each kind of step. Each list has its oldest member first.
use Rattle.std.specs.Prelude.{ℕ, ◌+◌, ◌==◌, max, min, if◌then◌else◌, Option as Maybe, None, Some, List, [], ◌∷◌, ◌++◌, true, false}
use Rattle.seq_objects.specs.declared.call.Call.{Call}
use Rattle.core_model.specs.Words.{Entry}
use Rattle.table_rule.specs.CoreWords.{Event, Receipt, Task, Idle, Run, Kept, NotCalled, Out, Got}
use Rattle.core_model.specs.declared.event.Event.TheVariants as made
use Rattle.table_rule.specs.declared.status.TheConstants.{PENDING}
use Rattle.table_rule.specs.declared.slot.OpRecord.{OpRecord}
use Rattle.table_rule.specs.declared.view.HoldView.{HoldView}
use Rattle.table_rule.specs.declared.view.PassView.{PassView}

-- a posted call with the worker that posted it, and the other way round
abbrev pub call_by : ℕ → OpRecord → Call
call_by u call = record { worker = u; leaf = call.leaf; op = call.op }

abbrev pub record_of : Call → OpRecord
record_of call = record { leaf = call.leaf; op = call.op }

-- the hold just after a win that found this book
abbrev pub new_hold : List (List Entry) → HoldView
new_hold book = record { looks = 0; found = []; taken = []; answered = []; owed = []; published = false; book = book }

-- The hold after each of its steps: a look that took a call, a look that found another status, a publish, an answer.
abbrev pub after_take : Call → HoldView → HoldView
after_take call h = record h {
  looks = h.looks + 1;
  found = h.found ++ PENDING ∷ [];
  taken = h.taken ++ call ∷ [];
  owed = h.owed ++ call.worker ∷ [];
}

abbrev pub after_pass : ℕ → HoldView → HoldView
after_pass status h = record h { looks = h.looks + 1; found = h.found ++ status ∷ [] }

abbrev pub after_publish : List Entry → HoldView → HoldView
after_publish batch h = record h { published = true; book = h.book ++ batch ∷ [] }

-- the list without the first occurrence of u
abbrev pub without_first : ℕ → List ℕ → List ℕ
without_first u [] = []
without_first u (x ∷ xs) = if x == u then xs else x ∷ without_first u xs

abbrev pub after_answer : ℕ → HoldView → HoldView
after_answer u h = record h { answered = h.answered ++ u ∷ []; owed = without_first u h.owed }

-- the view of worker w's pass before its first step
abbrev pub unused : ℕ → PassView
unused w = record {
  worker = w;
  task = Idle;
  call = NotCalled;
  hold = None;
  last = None;
  wins = 0;
  refused_wins = 0;
  refused_leaves = 0;
  stop_looks = 0;
  stops_found = 0;
  stops = 0;
  told = None;
  posted = None;
  left = [];
  book_seen = [];
  greatest = 0;
  before = 0;
  after = None;
  first_since = None;
  claims = 0;
  claimed = [];
  refused_nodes = [];
  opened = [];
  events = [];
}

-- The pass after each step of program work. A new task forgets what `source_value` told. A refused claim is no event of
-- the model.
abbrev pub claiming : ℕ → PassView → PassView
claiming n p = record p { task = Run n; told = None; claims = p.claims + 1; claimed = p.claimed ++ n ∷ []; events = p.events ++ made.Claim n ∷ [] }

abbrev pub refusing : ℕ → PassView → PassView
refusing n p = record p { refused_nodes = p.refused_nodes ++ n ∷ [] }

abbrev pub with_task : Event → Task → PassView → PassView
with_task event task p = record p { task = task; told = None; events = p.events ++ event ∷ [] }

abbrev pub opening : ℕ → Event → Task → PassView → PassView
opening n event task p = record p { task = task; told = None; opened = p.opened ++ n ∷ []; events = p.events ++ event ∷ [] }

abbrev pub keeping : ℕ → ℕ → ℕ → PassView → PassView
keeping n start value p = record p { task = Kept n start; told = None; call = NotCalled; events = p.events ++ made.Keep n start value ∷ [] }

-- the pass after `source_value` told it this value
abbrev pub telling : ℕ → PassView → PassView
telling value p = record p { told = Some value }

-- the pass after it sets the stop word, after a look that found it set, and after a look that found it unset
abbrev pub stopping : PassView → PassView
stopping p = record p { stops = p.stops + 1 }

abbrev pub finding_stop : PassView → PassView
finding_stop p = record p { stop_looks = p.stop_looks + 1; stops_found = p.stops_found + 1 }

abbrev pub finding_none : PassView → PassView
finding_none p = record p { stop_looks = p.stop_looks + 1 }

-- The pass after each step of a call. A post, by this event, restarts the record of what `since` answered.
abbrev pub posting : OpRecord → Event → PassView → PassView
posting call event p = record p {
  call = Out;
  posted = Some call;
  before = p.greatest;
  after = None;
  first_since = None;
  events = p.events ++ event ∷ [];
}

-- the least of the numbers told so far, if any, and n
abbrev pub least_told : Maybe ℕ → ℕ → Maybe ℕ
least_told None n = Some n
least_told (Some b) n = Some (min b n)

-- after a `since` that answered n
abbrev pub counting_batches : ℕ → Maybe ℕ → PassView → PassView
counting_batches n first p = record p { greatest = max p.greatest n; after = least_told p.after n; first_since = first }

-- after a refused leave
abbrev pub refusing_leave : PassView → PassView
refusing_leave p = record p { refused_leaves = p.refused_leaves + 1 }

-- after a leave with this receipt of this call, at which the pass saw this book
abbrev pub leaving : OpRecord → Receipt → List (List Entry) → PassView → PassView
leaving call receipt book p = record p {
  call = Got receipt;
  left = p.left ++ record { call = call; receipt = receipt } ∷ [];
  book_seen = book;
  events = p.events ++ made.Leave receipt ∷ [];
}

-- The pass after each step of a hold. A look is an event whether or not it takes a call.
abbrev pub winning : List (List Entry) → PassView → PassView
winning book p = record p { wins = p.wins + 1; hold = Some (new_hold book); events = p.events ++ made.Win ∷ [] }

abbrev pub refusing_win : PassView → PassView
refusing_win p = record p { refused_wins = p.refused_wins + 1 }

abbrev pub in_hold : (HoldView → HoldView) → Maybe HoldView → Maybe HoldView
in_hold f None = None
in_hold f (Some h) = Some (f h)

abbrev pub with_hold : Event → (HoldView → HoldView) → PassView → PassView
with_hold event f p = record p { hold = in_hold f p.hold; events = p.events ++ event ∷ [] }

abbrev pub taking : Call → PassView → PassView
taking call = with_hold (made.Take call.worker) (after_take call)

abbrev pub skipping : ℕ → ℕ → PassView → PassView
skipping u status = with_hold (made.Take u) (after_pass status)

abbrev pub publishing : List Entry → PassView → PassView
publishing batch = with_hold made.Publish (after_publish batch)

abbrev pub answering : ℕ → Receipt → PassView → PassView
answering u receipt = with_hold (made.Answer u receipt) (after_answer u)

-- the book of a hold, or without a hold the book seen before
abbrev pub book_after : Maybe HoldView → List (List Entry) → List (List Entry)
book_after None seen = seen
book_after (Some h) seen = h.book

-- A release moves the hold to `last`, and its book to `book_seen`.
abbrev pub releasing : PassView → PassView
releasing p = record p {
  hold = None;
  last = p.hold;
  book_seen = book_after p.hold p.book_seen;
  events = p.events ++ made.Release ∷ [];
}
