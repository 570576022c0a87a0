use Rattle.std.proofs.Common.{◌≡◌, ◌++◌, map, Ok}
use Rattle.word_counts.proofs.count.all_of.Given as goal

abbrev pub invariant-loop-back : goal.invariant-loop-back
invariant-loop-back l = record {
  are : l.yielded ≡ map Ok l.callers.items;
  all : l.yielded ++ l.back-iterator.rest.items ≡ l.initial.back-iterator.rest.items;
}
