use Rattle.std.proofs.Common.{◌≡◌, length}
use Rattle.std.specs.List.{All}
use Rattle.two_deques.specs.Pairs.{IsNewPair}
use Rattle.two_deques.proofs.decks.Decks.make.Given as goal

abbrev pub invariant-loop : goal.invariant-loop
invariant-loop l = record {
  count : length l.pairs.items ≡ l.counter;
  new : All (IsNewPair l.rooms) l.pairs.items;
}
