use Rattle.std.proofs.Common.{◌≡◌, ◌++◌, map, length, None}
use Rattle.std.specs.List.{AllByRecursion}
use Rattle.shared_uses.proofs.keys.inserters_of.Given as goal

abbrev pub invariant-loop-caller : goal.invariant-loop-caller
invariant-loop-caller l = record {
  callers : map (λ i. i.caller) l.all.items ++ l.caller-iterator.a.rest.items ≡ l.fn.callers.items;
  keys : map (λ i. i.keys) l.all.items ++ l.caller-iterator.b.rest.items ≡ l.fn.keys.items;
  none : AllByRecursion (λ i. i.count ≡ None) l.all.items;
  same : length l.caller-iterator.a.rest.items ≡ length l.caller-iterator.b.rest.items;
}
