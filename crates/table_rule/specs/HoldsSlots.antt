-- Which slots a pass carries between two calls, in the order of its seat's list.
use Rattle.std.specs.Prelude.{ℕ, ◌≡◌, ◌≢◌, ◌+◌, Bool, true, false, None, Some, List, [], ◌∷◌, ◌++◌, map}
use Rattle.table_rule.specs.CoreWords.{Out}
use Rattle.table_rule.specs.declared.slot.Slot.{Slot}
use Rattle.table_rule.specs.declared.slot.Slot.TheVariants as Slots
use Rattle.table_rule.specs.declared.view.HoldView.{HoldView}
use Rattle.table_rule.specs.declared.view.View.{View}
use Rattle.table_rule.specs.Shows.{reserved}
use Rattle.table_rule.specs.Plays.{SeatState}

abbrev pub vacant : List ℕ → List (ℕ × Slot)
vacant numbers = map (λ u. (u, Slots.Vacant)) numbers

-- The flag's holder carries the book until it publishes, the vacant slot of the shop, and those of the owed workers.
abbrev pub HolderCarries : Bool → View → HoldView → List (ℕ × Slot) → Type 0
HolderCarries false v h xs = xs ≡ (v.workers + 1, Slots.Book (reserved h.book v.room)) ∷ (v.workers, Slots.Vacant) ∷ vacant h.owed
HolderCarries true v h xs = xs ≡ vacant h.owed ++ (v.workers, Slots.Vacant) ∷ []

pub record HoldsSlots (w : ℕ) (me : SeatState) : Type 0 where
  -- a pass without an outstanding call has no hold and carries its own record slot; a trapped one without a hold, none
  pub free : me.0.own.call ≢ Out → (me.0.own.hold ≡ None) × (me.1 ≡ (w, Slots.Vacant) ∷ [])
  pub trapped : me.0.own.call ≡ Out → me.0.own.hold ≡ None → me.1 ≡ []
  pub holds : (h : HoldView) → me.0.own.hold ≡ Some h → HolderCarries h.published me.0 h me.1
