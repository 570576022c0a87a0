use Rattle.std.proofs.Common.{◌≡◌, false}
use Rattle.shared_calls.specs.Views.{IsCallerOf, number_of, made, is_lost}
use Rattle.shared_uses.specs.Piping.{HasRoom, puts_of, takes_of}
use Rattle.shared_uses.proofs.passing.take_share.Given as goal

abbrev pub invariant-loop : goal.invariant-loop
invariant-loop g l = record {
  caller : IsCallerOf l.queue.shared l.part.caller × (is_lost l.part.caller ≡ false);
  number : number_of l.part.caller ≡ number_of l.fn.part.caller;
  work : l.part.work ≡ l.fn.part.work;
  room : HasRoom l.part;
  puts : puts_of (made l.part.caller) ≡ puts_of (made l.fn.part.caller);
  takes : takes_of (made l.part.caller) ≡ l.part.taken.items;
}
