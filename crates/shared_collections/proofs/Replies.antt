-- The reply of a call is one that the object gives to its operation.
use Rattle.std.proofs.Common.{◌≡◌, ℕ, ◌==◌, if◌then◌else◌, Bool, true, false, List, [], ◌∷◌, ◌++◌, map, drop, get_or, ap, subst}
use Rattle.shared_calls.specs.declared.view.Entry.{Entry}
use Rattle.shared_calls.specs.Serial.{SerialObject, replies_to_all}
use Rattle.shared_calls.specs.Logs.{entry, calls_by}
use Rattle.shared_calls.specs.Callers.{IsServed}

module _ {O R : Type 0} (object : SerialObject O R) where
  -- the calls have the replies that the object gives from this state on
  abbrev AreServedFrom : object.State → List (Entry O R) → Type 0
  AreServedFrom s log = map (λ e. e.reply) log ≡ replies_to_all object s (map (λ e. e.op) log)

  abbrev IsReply : Entry O R → Type 0
  IsReply e = (s : object.State) × (e.reply ≡ object.reply s e.op)

  behind : (s : object.State) (front log : List (Entry O R)) → AreServedFrom s (front ++ log) → (t : object.State) × AreServedFrom t log
  behind s [] log serial = (s, serial)
  behind s (e ∷ front) log serial = behind (object.after s e.op) front log (ap (drop 1) serial)

  among : (n : ℕ) (s : object.State) (log : List (Entry O R)) (x : Entry O R) → calls_by n log ≡ x ∷ [] → AreServedFrom s log → IsReply x
  among n s [] x is serial = absurd cc
  among n s (e ∷ log) x is serial = step (e.caller == n) is (λ is. among n (object.after s e.op) log x is (ap (drop 1) serial)) where
    step : (t : Bool) → (if t then e ∷ calls_by n log else calls_by n log) ≡ x ∷ [] → (calls_by n log ≡ x ∷ [] → IsReply x) → IsReply x
    step true is later = subst IsReply (ap (λ l. get_or l 0 e) is) (s, ap (λ l. get_or l 0 e.reply) serial)
    step false is later = later is

  pub served_reply : (n : ℕ) (made seen : List (Entry O R)) (op : O) (reply : R) (made_now seen_now : List (Entry O R))
      → IsServed object n made seen op reply made_now seen_now → (s : object.State) × (reply ≡ object.reply s op)
  served_reply n made seen op reply made_now seen_now served =
      let all : AreServedFrom object.opening (seen ++ served.since) = subst (AreServedFrom object.opening) served.goes_on served.serial in
      let rest = behind object.opening seen served.since all in
      among n rest.0 served.since (entry n op reply) served.once rest.1
