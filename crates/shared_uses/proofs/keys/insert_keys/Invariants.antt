use Rattle.std.proofs.Common.{◌≡◌, ◌≤◌, false, take, None}
use Rattle.shared_calls.specs.Views.{IsCallerOf, number_of, made, is_lost}
use Rattle.shared_uses.specs.Inserting.{HaveInserted}
use Rattle.shared_uses.proofs.keys.insert_keys.Given as goal

abbrev pub invariant-loop-i : goal.invariant-loop-i
invariant-loop-i g l = record {
  caller : IsCallerOf l.set.shared l.own.caller × (is_lost l.own.caller ≡ false);
  number : number_of l.own.caller ≡ number_of l.fn.own.caller;
  keys : l.own.keys ≡ l.fn.own.keys;
  none : l.own.count ≡ None;
  inserted : HaveInserted (take l.i l.fn.own.keys.items) (made l.own.caller) l.new;
  few : l.new ≤ l.i;
}
