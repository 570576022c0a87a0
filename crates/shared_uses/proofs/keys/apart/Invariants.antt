use Rattle.std.proofs.Common.{◌≡◌, ◌++◌, ◌%◌, ◌^◌, map, sum_by, IsSome}
use Rattle.std.specs.List.{AllByRecursion}
use Rattle.shared_uses.specs.Inserting.{new_in}
use Rattle.shared_uses.proofs.keys.apart.Given as goal

abbrev pub invariant-loop-caller : goal.invariant-loop-caller
invariant-loop-caller l = record {
  callers : map (λ i. i.caller) l.yielded ≡ l.callers.items;
  whole : AllByRecursion (λ i. IsSome i.count) l.yielded;
  new : sum_by new_in l.yielded % 2 ^ 64 ≡ l.total;
  all : l.yielded ++ l.caller-iterator.rest.items ≡ l.initial.caller-iterator.rest.items;
}
