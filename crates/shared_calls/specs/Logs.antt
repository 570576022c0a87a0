-- Lists of calls that were served.
use Rattle.std.specs.Prelude.{◌≡◌, ℕ, ◌==◌, List, [], ◌∷◌, ◌++◌, map, if◌then◌else◌}
use Rattle.shared_calls.specs.declared.view.Entry.{Entry}
use Rattle.shared_calls.specs.declared.view.Asked.{Asked}
use Rattle.shared_calls.specs.Serial.{SerialObject, after_all, replies_to_all}

abbrev pub ask : {O : Type 0} → ℕ → O → Asked O
ask caller op = record { caller = caller; op = op }

module _ {O R : Type 0} where
  abbrev pub entry : ℕ → O → R → Entry O R
  entry caller op reply = record { caller = caller; op = op; reply = reply }

  -- the calls of a batch with their replies
  abbrev pub entries_of : List (Asked O) → List R → List (Entry O R)
  entries_of [] replies = []
  entries_of (a ∷ asked) [] = []
  entries_of (a ∷ asked) (reply ∷ replies) = entry a.caller a.op reply ∷ entries_of asked replies

  -- the calls of one caller, in their order
  abbrev pub calls_by : ℕ → List (Entry O R) → List (Entry O R)
  calls_by n [] = []
  calls_by n (e ∷ es) = if e.caller == n then e ∷ calls_by n es else calls_by n es

  -- the list goes on from this front
  abbrev pub StartsWith : List (Entry O R) → List (Entry O R) → Type 0
  StartsWith whole front = (more : List (Entry O R)) × (whole ≡ front ++ more)

module _ {O R : Type 0} (object : SerialObject O R) where
  -- the state after these calls, one after another
  abbrev pub state_after : List (Entry O R) → object.State
  state_after log = after_all object object.opening (map (λ e. e.op) log)

  -- each call has the reply that the object gives it, one after another
  abbrev pub IsSerial : List (Entry O R) → Type 0
  IsSerial log = map (λ e. e.reply) log ≡ replies_to_all object object.opening (map (λ e. e.op) log)
