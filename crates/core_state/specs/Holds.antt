-- The model's hold that a stored `Hold` represents.
use Rattle.core_state.specs.Places.{at}
use Rattle.core_state.specs.declared.hold.Hold.{Hold as StoredHold}
use Rattle.core_model.specs.State.{Hold}
use Rattle.std.specs.Prelude.{false}

-- `taken` and `answered` become functions of the worker, false beyond the array
abbrev pub hold_view : StoredHold → Hold
hold_view h = record {
  worker = h.worker;
  looks = h.looks;
  taken = at h.taken false;
  answered = at h.answered false;
  published = h.published;
}
