-- The stages of a call: what the word of its caller is, and what the caller's slot holds where it is at home.
use Rattle.std.specs.Prelude.{◌≡◌, ℕ, List, [], ◌∷◌}
use mathlib.Core.Option.{Option, some}
use Rattle.shared_calls.specs.declared.view.Entry.{Entry}
use Rattle.shared_calls.specs.declared.view.Request.{Request}
use Rattle.shared_calls.specs.declared.view.Request.TheVariants.{Absent, Nothing, Asks, Retired}
use Rattle.shared_calls.specs.declared.view.Slot.{Slot}
use Rattle.shared_calls.specs.declared.view.Slot.TheVariants.{Vacant, Posted, Answered}
use Rattle.shared_calls.specs.Logs.{entry}

-- The caller is away, or asks nothing and has its slot. Its call is posted; taken by the holder of the flag, and with it
-- the slot; served, and the holder owes the reply; answered. Or the caller has retired: it makes no further call.
pub data Stage (O R : Type 0) : Type 0 where
  away : Stage O R
  idle : Stage O R
  posted : O → Stage O R
  taken : O → Stage O R
  owed : O → R → Stage O R
  answered : O → R → Stage O R
  retired : Stage O R

module _ {O R : Type 0} where
  abbrev pub word_of : Stage O R → ℕ
  word_of away = 3
  word_of idle = 0
  word_of (posted op) = 1
  word_of (taken op) = 1
  word_of (owed op reply) = 1
  word_of (answered op reply) = 2
  word_of retired = 3

  -- what the caller knows of it
  abbrev pub request_of : Stage O R → Request O
  request_of away = Absent
  request_of idle = Nothing
  request_of (posted op) = Asks op
  request_of (taken op) = Asks op
  request_of (owed op reply) = Asks op
  request_of (answered op reply) = Asks op
  request_of retired = Retired

  -- the call, where it was served and its caller has not left
  abbrev pub served : ℕ → Stage O R → List (Entry O R)
  served n away = []
  served n idle = []
  served n (posted op) = []
  served n (taken op) = []
  served n (owed op reply) = entry n op reply ∷ []
  served n (answered op reply) = entry n op reply ∷ []
  served n retired = []

  -- the holder of the flag does not have it
  abbrev pub IsFree : Stage O R → Type 0
  IsFree away = Unit {0}
  IsFree idle = Unit {0}
  IsFree (posted op) = Unit {0}
  IsFree (taken op) = ⊥
  IsFree (owed op reply) = ⊥
  IsFree (answered op reply) = Unit {0}
  IsFree retired = Unit {0}

module _ {T O R : Type 0} where
  abbrev pub HomeIs : Stage O R → Option (Option (Slot T O R)) → Type 0
  HomeIs away home = home ≡ some (some Vacant)
  HomeIs idle home = Unit {0}
  HomeIs (posted op) home = home ≡ some (some (Posted op))
  HomeIs (taken op) home = Unit {0}
  HomeIs (owed op reply) home = Unit {0}
  HomeIs (answered op reply) home = home ≡ some (some (Answered reply))
  HomeIs retired home = Unit {0}
