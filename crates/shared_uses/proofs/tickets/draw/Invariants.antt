use Rattle.std.proofs.Common.{◌≡◌, false, map, replicate}
use Rattle.shared_calls.specs.Views.{IsCallerOf, number_of, made, is_lost}
use Rattle.shared_uses.proofs.tickets.draw.Given as goal

abbrev pub invariant-loop-done : goal.invariant-loop-done
invariant-loop-done g l = record {
  caller : IsCallerOf l.counter.shared l.caller;
  number : number_of l.caller ≡ number_of l.fn.caller;
  sound : is_lost l.caller ≡ false;
  ones : map (λ e. e.op) (made l.caller) ≡ replicate l.done 1;
  sums : map (λ e. e.reply) (made l.caller) ≡ l.tickets.items;
}
