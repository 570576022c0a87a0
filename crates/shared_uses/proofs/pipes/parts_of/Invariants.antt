use Rattle.std.proofs.Common.{◌≡◌, ◌++◌, map, length}
use Rattle.std.specs.List.{AllByRecursion}
use Rattle.shared_uses.specs.Piping.{HasAllRoom}
use Rattle.shared_uses.proofs.pipes.parts_of.Given as goal

abbrev pub invariant-loop-caller : goal.invariant-loop-caller
invariant-loop-caller l = record {
  callers : map (λ part. part.caller) l.parts.items ++ l.caller-iterator.a.rest.items ≡ l.fn.callers.items;
  work : map (λ part. part.work) l.parts.items ++ l.caller-iterator.b.rest.items ≡ l.fn.work.items;
  room : AllByRecursion HasAllRoom l.parts.items;
  same : length l.caller-iterator.a.rest.items ≡ length l.caller-iterator.b.rest.items;
}
