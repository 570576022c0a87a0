-- The run-time fields `Pass::owed` and `Pass::published` agree with the view's hold, and what a hold's owed list is.
use Rattle.std.specs.Prelude.{ℕ, ◌≡◌, ◌<◌, ◌≤◌, Bool, true, false, None, Some, List, [], length}
use Rattle.seq_objects.specs.Pairs.{AreDistinct}
use Rattle.table_rule.specs.declared.view.HoldView.{HoldView}
use Rattle.table_rule.specs.declared.view.View.{View}
use Rattle.table_rule.specs.Shows.{took_in, among}

-- The owed workers are exactly those taken and not answered, each once.
pub record Owes (h : HoldView) : Type 0 where
  pub each : (u : ℕ) → took_in h.taken u ≡ true → among h.answered u ≡ false → among h.owed u ≡ true
  pub only : (u : ℕ) → among h.owed u ≡ true → (took_in h.taken u ≡ true) × (among h.answered u ≡ false)
  pub distinct : AreDistinct h.owed
  pub few : length h.owed ≤ h.looks
  -- every taken worker was looked at, and no worker is answered before the hold has published
  pub below : (u : ℕ) → took_in h.taken u ≡ true → u < h.looks
  pub early : h.published ≡ false → h.answered ≡ []

pub record TracksHold (v : View) (owed : List ℕ) (published : Bool) : Type 0 where
  pub none : v.own.hold ≡ None → owed ≡ []
  pub holds : (h : HoldView) → v.own.hold ≡ Some h → (owed ≡ h.owed) × (published ≡ h.published) × Owes h
