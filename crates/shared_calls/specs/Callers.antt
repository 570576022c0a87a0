-- What contracts see of a shared structure, its callers and notes, and what a call owes its caller.
use Rattle.std.specs.Prelude.{◌≡◌, ℕ, ◌+◌, List, [], ◌∷◌, ◌++◌, map, true, false}
use Rattle.shared_calls.specs.declared.view.Entry.{Entry}
use Rattle.shared_calls.specs.declared.view.Request.TheVariants.{Nothing, Asks}
use Rattle.shared_calls.specs.Plays.{own_calls, KnowsItsCalls}
use Rattle.shared_calls.specs.declared.view.Asked.{Asked}
use Rattle.shared_calls.specs.declared.view.Slot.{Slot}
use Rattle.shared_calls.specs.declared.view.Slot.TheVariants.{Vacant}
use Rattle.shared_calls.specs.declared.view.View.{View}
use Rattle.shared_calls.specs.Serial.{SerialObject}
use Rattle.shared_calls.specs.Logs.{entry, calls_by, StartsWith, IsSerial}
use Rattle.shared_calls.specs.Rule.{newcomers}

-- vacant slots of these callers
abbrev pub in_hand : {T O R : Type 0} → List ℕ → List (ℕ × Slot T O R)
in_hand callers = map (λ u. (u, Vacant)) callers

module _ {O R : Type 0} where
  -- the holder of the flag after its looks, and where these calls are still owed
  abbrev pub collected : View O R → ℕ → List (Asked O) → View O R
  collected v looks taken = record v { looks = looks; taken = taken }

  abbrev pub owing : View O R → List (Entry O R) → View O R
  owing v owed = record v { owed = owed }

  -- a caller that asks nothing, with the lists of its calls and of the calls that it has seen
  abbrev pub idle_view : ℕ → List (List (Entry O R)) → List (Entry O R) → View O R
  idle_view n made seen = record (newcomers n (n + 1) 1) { request = Nothing; made = made; seen = seen }

  -- The call was served: the calls that are now seen, one after another, have the replies that the serial object gives
  -- them. They go on from those that were seen before, and this call, with this reply, is its caller's only one among
  -- those that came since. It is the last of the calls that its caller made.
  pub record IsServed (object : SerialObject O R) (n : ℕ) (made seen : List (Entry O R)) (op : O) (reply : R)
      (made_now seen_now : List (Entry O R)) : Type 0 where
    pub serial : IsSerial object seen_now
    pub since : List (Entry O R)
    pub goes_on : seen_now ≡ seen ++ since
    pub once : calls_by n since ≡ entry n op reply ∷ []
    pub last : made_now ≡ made ++ entry n op reply ∷ []

  -- The call was not served: among the calls that came since there is none of its caller.
  pub record IsUnserved (object : SerialObject O R) (n : ℕ) (made seen made_now seen_now : List (Entry O R)) : Type 0 where
    pub since : List (Entry O R)
    pub serial : IsSerial object (seen ++ since)
    pub none : calls_by n since ≡ []
    pub same : (made_now ≡ made) × (seen_now ≡ seen)

  -- The caller has heard these calls: what it now sees goes on from what it saw before, and from what it was told, without
  -- a further call of its own. So each of its later calls stands behind all of them.
  pub record HasHeard (object : SerialObject O R) (n : ℕ) (seen told seen_now : List (Entry O R)) : Type 0 where
    pub serial : IsSerial object seen_now
    pub since : List (Entry O R)
    pub goes_on : seen_now ≡ seen ++ since
    pub hears : StartsWith seen_now told
    pub none : calls_by n since ≡ []

  -- A caller that found the structure lost: the calls of its log are all calls, of which it has seen a front, and it knows
  -- its own among them.
  pub record HasStopped (n : ℕ) (v : View O R) : Type 0 where
    pub stands : (v.from ≡ n) × (v.to ≡ n + 1)
    pub lost : v.lost ≡ true
    pub idle : v.holds ≡ false
    pub front : StartsWith v.log v.seen
    pub own : KnowsItsCalls v

  -- the same of the view of a caller that waits, before and after
  abbrev pub IsAnswered : SerialObject O R → View O R → R → View O R → Type 0
  IsAnswered object v reply w = (op : O) × (v.request ≡ Asks op)
      × IsServed object v.from (own_calls v) v.seen op reply (own_calls w) w.seen

  abbrev pub IsRefused : SerialObject O R → View O R → View O R → Type 0
  IsRefused object v w = IsUnserved object v.from (own_calls v) v.seen (own_calls w) w.seen
