use Rattle.std.proofs.Common.{◌≡◌, ◌++◌, map, false}
use Rattle.std.specs.List.{AllByRecursion}
use Rattle.shared_calls.specs.Views.{is_lost}
use Rattle.shared_uses.proofs.pipes.apart.Given as goal

abbrev pub invariant-loop-caller : goal.invariant-loop-caller
invariant-loop-caller l = record {
  callers : map (λ part. part.caller) l.yielded ≡ l.callers.items;
  taken : map (λ part. part.taken) l.yielded ≡ l.all.items;
  sound : AllByRecursion (λ part. is_lost part.caller ≡ false) l.yielded;
  whole : l.yielded ++ l.caller-iterator.rest.items ≡ l.initial.caller-iterator.rest.items;
}
