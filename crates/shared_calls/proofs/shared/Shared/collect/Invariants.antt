use Rattle.std.proofs.Common.{◌≡◌, ◌<◌, ◌≤◌, ℕ, List, ◌∷◌, length, map, vec_len, vec_capacity}
use Rattle.std.specs.List.{AllByRecursion}
use Rattle.arrayvec.specs.ArrayVec.{array_vec_len}
use Rattle.shared_calls.specs.declared.view.Asked.{Asked}
use Rattle.shared_calls.specs.declared.view.Slot.TheVariants.{Vacant}
use Rattle.shared_calls.specs.Callers.{in_hand, collected}
use Rattle.shared_calls.proofs.shared.Shared.collect.Given as goal

abbrev pub invariant-loop-caller : goal.invariant-loop-caller
invariant-loop-caller g l = record {
  table : l.seat.table_id ≡ l.fn.seat.table_id;
  looks : ℕ;
  taken : List (Asked g.row.T-Op.Denot);
  next : looks ≤ l.caller;
  me : l.seat.me ≡ (collected l.fn.seat.me.0 looks taken, (l.self.callers, Vacant) ∷ in_hand (map (λ a. a.caller) taken));
  callers : l.callers.items ≡ map (λ a. a.caller) taken;
  ops : l.ops.items ≡ map (λ a. a.op) taken;
  below : AllByRecursion (λ u. u < l.self.callers) l.callers.items;
  few : length l.ops.items ≤ l.caller;
  room : (array_vec_len l.callers ≤ l.caller) × (vec_len l.ops ≤ l.caller) × (l.self.callers ≤ vec_capacity l.ops);
}
