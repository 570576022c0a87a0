use Rattle.std.proofs.Common.{◌≡◌, ◌++◌, map}
use Rattle.shared_tests.proofs.Tallies.{square}
use Rattle.shared_tests.proofs.tally.TallyCombined.serve.Given as goal

abbrev pub invariant-loop-op : goal.invariant-loop-op
invariant-loop-op l = record {
  squares : l.squares.items ≡ map square l.yielded;
  all : l.yielded ++ l.op-iterator.rest.items ≡ l.initial.op-iterator.rest.items;
}
