use Rattle.std.proofs.Common.{◌≡◌, ◌++◌, map, Ok}
use Rattle.worker_loop.proofs.table_run.deques.all_of.Given as goal

abbrev pub invariant-loop-pair : goal.invariant-loop-pair
invariant-loop-pair l = record {
  are : l.yielded ≡ map Ok l.pairs.items;
  all : l.yielded ++ l.pair-iterator.rest.items ≡ l.initial.pair-iterator.rest.items;
}
