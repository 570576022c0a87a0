-- One step after another of a task that is carried on.
use Rattle.std.proofs.Common.{◌≡◌, ◌<◌, ℕ, ◌+◌, Bool, true, false, Option, List, [], ◌∷◌, ◌++◌, sym, refl, ap, ◌∙◌, arith, append_assoc, append-nil, length-append}
use Rattle.std.specs.Prelude.{Result, Ok, Err, OnOk, is_err}
use Rattle.core_model.specs.declared.event.Event.TheVariants.{Post, Leave}
use Rattle.core_model.specs.declared.task.Task.TheVariants.{Started}
use Rattle.two_deques.specs.Ends.{HeldEnds, after_push}
use Rattle.worker_crew.specs.Words.{Event, Task, CallState, Receipt}
use Rattle.table_rule.specs.declared.view.PassView.{PassView}
use Rattle.table_rule.specs.Passes.{opening, with_task}
use Rattle.table_rule.specs.Shows.{IsPrefix}
use Rattle.worker_crew.specs.Workers.{WorkerView}
use Rattle.worker_turns.specs.Pieces.{Desk, DrainsRow}
use Rattle.worker_turns.specs.declared.trapped.Trapped.{Trapped}
use Rattle.worker_turns.specs.declared.trapped.Trapped.TheVariants.{Left, Piece, Launched, Nothing}
use Rattle.worker_turns.specs.Trapped.{IsJobSame, IsCallSame, StaysTrapped}
use Rattle.worker_turns.specs.Callings.{HasCalled}
use Rattle.worker_turns.specs.Free.{Helps, RanToIdle}

-- what holds of a result that is no error
pub ok_by : {A E : Type 0} (r : Result A E) (P : Type 0) → OnOk r P → is_err r ≡ false → P
ok_by (Ok a) P is fine = is
ok_by (Err e) P is fine = absurd (cc)

pub helps_none : (d : Desk) → Helps d d
helps_none d = record { given = []; gave = sym (append-nil _); finishes = omega arith }

pub helps_then : (a b c : Desk) → Helps a b → Helps b c → Helps a c
helps_then a b c v w = record {
  given = v.given ++ w.given;
  gave = w.gave ∙ ap (λ l. l ++ w.given) v.gave ∙ append_assoc a.given v.given w.given;
  finishes = (let p = v.finishes in let q = w.finishes in let l = length-append v.given w.given in omega (arith, p, q, l));
}

pub helps_works : (a b : Desk) → DrainsRow 0 a b → Helps a b
helps_works a b w = record { given = w.given; gave = ap (λ (d : Desk). d.given) w.is; finishes = ap (λ (d : Desk). d.finishes) w.is }

pub front_none : {A : Type 0} (xs ys : List A) → ys ≡ xs → IsPrefix xs ys
front_none xs ys is = ([], is ∙ sym (append-nil _))

pub front_then : {A : Type 0} (xs ys zs : List A) → IsPrefix xs ys → IsPrefix ys zs → IsPrefix xs zs
front_then xs ys zs p q = (p.0 ++ q.0, q.1 ∙ ap (λ l. l ++ q.0) p.1 ∙ append_assoc xs p.0 q.0)

-- the job of a pass over two steps
pub jobs_then : (a b c : PassView) → IsJobSame a b → IsJobSame b c → IsJobSame a c
jobs_then a b c p q = record {
  worker = q.worker ∙ p.worker;
  task = q.task ∙ p.task;
  claims = q.claims ∙ p.claims;
  claimed = q.claimed ∙ p.claimed;
  refused = q.refused ∙ p.refused;
  opened = q.opened ∙ p.opened;
  found = q.found ∙ p.found;
  stops = q.stops ∙ p.stops;
}

-- a trapped turn that did not leave keeps the call
pub stays_same : (turn : Trapped) (old new : PassView) → ((receipt : Receipt) → turn ≡ Left receipt → ⊥) → StaysTrapped turn old new → IsCallSame old new
stays_same (Left receipt) old new other stays = absurd (other receipt refl)
stays_same Piece old new other stays = stays
stays_same Launched old new other stays = stays
stays_same Nothing old new other stays = stays

core_none : (a b : HeldEnds ℕ) → b ≡ a → b ≡ record a { own = a.own ++ []; pushes = a.pushes + 0 }
core_none a b is =
    let none : a.pushes ≡ a.pushes + 0 = omega arith in
    is ∙ (λ i. record a { own = sym (append-nil a.own) i; pushes = none i })

-- a step that opens nothing
pub carried_call : (old new : WorkerView) → IsJobSame old.pass new.pass → IsPrefix old.pass.book_seen new.pass.book_seen → old.pass.stop_looks < new.pass.stop_looks → IsPrefix old.pass.events new.pass.events
    → new.core ≡ old.core → Helps old.desk new.desk → RanToIdle old new
carried_call old new job longer looked events core desk = record {
  nodes = [];
  opened = job.opened ∙ sym (append-nil _);
  core = core_none old.core new.core core;
  worker = job.worker;
  claims = job.claims;
  claimed = job.claimed;
  refused = job.refused;
  longer = longer;
  found = job.found;
  stops = job.stops;
  looks = omega (arith, looked);
  events = events;
  desk = desk;
}

pub carried_step : (old new : WorkerView) (task : Task) (call : CallState) (told : Option ℕ) (events : List Event) → new.pass ≡ record old.pass { task = task; call = call; told = told; events = old.pass.events ++ events } → new.core ≡ old.core → new.desk ≡ old.desk → RanToIdle old new
carried_step old new task call told events is core desk = record {
  nodes = [];
  opened = ap (λ (p : PassView). p.opened) is ∙ sym (append-nil _);
  core = core_none old.core new.core core;
  worker = ap (λ (p : PassView). p.worker) is;
  claims = ap (λ (p : PassView). p.claims) is;
  claimed = ap (λ (p : PassView). p.claimed) is;
  refused = ap (λ (p : PassView). p.refused_nodes) is;
  longer = front_none _ _ (ap (λ (p : PassView). p.book_seen) is);
  found = ap (λ (p : PassView). p.stops_found) is;
  stops = ap (λ (p : PassView). p.stops) is;
  looks = (let l = ap (λ (p : PassView). p.stop_looks) is in omega (arith, l));
  events = (events, ap (λ (p : PassView). p.events) is);
  desk = record { given = []; gave = ap (λ (d : Desk). d.given) desk ∙ sym (append-nil _); finishes = (let f = ap (λ (d : Desk). d.finishes) desk in omega (arith, f)) };
}

-- a step that opens a node, which is pushed on the own deque
pub carried_open : (old new : WorkerView) (node : ℕ) (event : Event) (task : Task) → new.pass ≡ opening node event task old.pass → new.core ≡ after_push node old.core → new.desk ≡ old.desk → RanToIdle old new
carried_open old new node event task is core desk = record {
  nodes = node ∷ [];
  opened = ap (λ (p : PassView). p.opened) is;
  core = core;
  worker = ap (λ (p : PassView). p.worker) is;
  claims = ap (λ (p : PassView). p.claims) is;
  claimed = ap (λ (p : PassView). p.claimed) is;
  refused = ap (λ (p : PassView). p.refused_nodes) is;
  longer = front_none _ _ (ap (λ (p : PassView). p.book_seen) is);
  found = ap (λ (p : PassView). p.stops_found) is;
  stops = ap (λ (p : PassView). p.stops) is;
  looks = (let l = ap (λ (p : PassView). p.stop_looks) is in omega (arith, l));
  events = (event ∷ [], ap (λ (p : PassView). p.events) is);
  desk = record { given = []; gave = ap (λ (d : Desk). d.given) desk ∙ sym (append-nil _); finishes = (let f = ap (λ (d : Desk). d.finishes) desk in omega (arith, f)) };
}

-- an arrival, as the first side or as the second
pub arrived : (second_came : Bool) (old new : PassView) (first second : Event) (s t : Task) → (second_came ≡ false → new ≡ with_task first s old) → (second_came ≡ true → new ≡ with_task second t old)
    → (event : Event) × (task : Task) × (new ≡ with_task event task old)
arrived false old new first second s t one two = (first, s, one refl)
arrived true old new first second s t one two = (second, t, two refl)

-- a call's events follow those before it
pub front_called : (receipt : Receipt) (old new : PassView) → HasCalled receipt old new → IsPrefix old.events new.events
front_called receipt old new (node, start, between, task, is) = (_, is)

-- a call from its post to its leave
pub called : (receipt : Receipt) (old mid new : PassView) (node start : ℕ) → old.task ≡ Started node start → IsPrefix (old.events ++ Post node start ∷ []) mid.events
    → new.events ≡ mid.events ++ Leave receipt ∷ [] → HasCalled receipt old new
called receipt old mid new node start task (between, is) last = (
  node,
  start,
  between,
  task,
  last ∙ ap (λ l. l ++ Leave receipt ∷ []) is ∙ append_assoc (old.events ++ Post node start ∷ []) between (Leave receipt ∷ [])
      ∙ append_assoc old.events (Post node start ∷ []) (between ++ Leave receipt ∷ []),
)

pub carried_none : (old : WorkerView) → RanToIdle old old
carried_none old = carried_step old old old.pass.task old.pass.call old.pass.told [] (λ i. record old.pass { events = sym (append-nil old.pass.events) i }) refl refl
