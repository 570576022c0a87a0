-- What a call that failed leaves.
use Rattle.std.specs.Prelude.{◌≡◌, ℕ, List, Bool, true, false, Some, None}
use Rattle.shared_calls.specs.declared.shared.Failed.{Failed}
use Rattle.shared_calls.specs.declared.shared.Failed.TheVariants.{Refused, Lost}
use Rattle.shared_calls.specs.declared.view.Entry.{Entry}
use Rattle.shared_calls.specs.Serial.{SerialObject}
use Rattle.shared_calls.specs.Callers.{IsServed, IsUnserved}

module _ {O R : Type 0} (object : SerialObject O R) (n : ℕ) (made seen : List (Entry O R)) (op : O) (made_now seen_now : List (Entry O R))
    (is_lost : Bool) where
  -- The call was refused: it comes back, and its caller is as before. Or the structure is lost: the call was served, and
  -- here is its reply, or it was not served.
  abbrev pub HasFailed : Failed O R → Type 0
  HasFailed (Refused same) = (same ≡ op) × (is_lost ≡ false) × (made_now ≡ made) × (seen_now ≡ seen)
  HasFailed (Lost (Some reply)) = (is_lost ≡ true) × IsServed object n made seen op reply made_now seen_now
  HasFailed (Lost None) = (is_lost ≡ true) × IsUnserved object n made seen made_now seen_now
