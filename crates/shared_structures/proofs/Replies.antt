-- The reply of a call that was served is that of its object in some state.
use Rattle.std.proofs.Common.{◌≡◌, ℕ, ◌==◌, Bool, true, false, List, [], ◌∷◌, ◌++◌, map, cond, ap, subst, drop, get_or}
use Rattle.shared_calls.specs.declared.view.Entry.{Entry}
use Rattle.shared_calls.specs.Serial.{SerialObject, replies_to_all}
use Rattle.shared_calls.specs.Logs.{entry, calls_by}
use Rattle.shared_calls.specs.Callers.{IsServed}

module _ {O R : Type 0} (object : SerialObject O R) where
  abbrev op_of : Entry O R → O
  op_of e = e.op

  abbrev reply_of : Entry O R → R
  reply_of e = e.reply

  abbrev HasReplies : object.State → List (Entry O R) → Type 0
  HasReplies s log = map reply_of log ≡ replies_to_all object s (map op_of log)

  -- the later calls have theirs, from a later state on
  later : (s : object.State) (log more : List (Entry O R)) → HasReplies s (log ++ more) → (t : object.State) × HasReplies t more
  later s [] more serial = (s, serial)
  later s (e ∷ log) more serial = later (object.after s e.op) log more (ap (λ l. drop 1 l) serial)

  abbrev IsIts : Entry O R → Type 0
  IsIts e = (s : object.State) × (e.reply ≡ object.reply s e.op)

  only : (n : ℕ) (call : Entry O R) (s : object.State) (log : List (Entry O R)) → HasReplies s log → calls_by n log ≡ call ∷ [] → IsIts call
  only n call s [] serial is = absurd cc
  only n call s (e ∷ log) serial is =
      step (e.caller == n) is (only n call (object.after s e.op) log (ap (λ l. drop 1 l) serial)) where
        here : e.reply ≡ object.reply s e.op
        here = ap (λ l. get_or l 0 e.reply) serial

        step : (b : Bool) → cond b (e ∷ calls_by n log) (calls_by n log) ≡ call ∷ [] → (calls_by n log ≡ call ∷ [] → IsIts call) → IsIts call
        step true one rest = subst IsIts (ap (λ l. get_or l 0 e) one) (s, here)
        step false one rest = rest one

  pub replied : (n : ℕ) (made seen : List (Entry O R)) (op : O) (reply : R) (made_now seen_now : List (Entry O R))
      → IsServed object n made seen op reply made_now seen_now → (s : object.State) × (reply ≡ object.reply s op)
  replied n made seen op reply made_now seen_now is =
      let after = later object.opening seen is.since (subst (HasReplies object.opening) is.goes_on is.serial) in
      only n (entry n op reply) after.0 is.since after.1 is.once
