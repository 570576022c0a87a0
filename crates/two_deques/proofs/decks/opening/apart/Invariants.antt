use Rattle.std.proofs.Common.{◌≡◌, ◌++◌, length, map}
use Rattle.two_deques.specs.Code.Opening.{AreMade}
use Rattle.two_deques.proofs.decks.opening.apart.Given as goal

abbrev pub invariant-loop-pair : goal.invariant-loop-pair
invariant-loop-pair l = record {
  core : AreMade 0 (length l.yielded) l.fn.rooms.core l.core.items l.core_ends.items;
  batch : AreMade 0 (length l.yielded) l.fn.rooms.batch l.batch.items l.batch_ends.items;
  core_are : l.core.items ≡ map (λ pair. pair.stealers.core) l.yielded;
  batch_are : l.batch.items ≡ map (λ pair. pair.stealers.batch) l.yielded;
  all : l.yielded ++ l.pair-iterator.rest.items ≡ l.initial.pair-iterator.rest.items;
}
