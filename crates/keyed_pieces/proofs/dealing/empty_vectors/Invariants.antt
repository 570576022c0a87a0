use Rattle.std.proofs.Common.{◌≡◌, [], replicate}
use Rattle.keyed_pieces.specs.Dealing.{lists}
use Rattle.keyed_pieces.proofs.dealing.empty_vectors.Given as goal

abbrev pub invariant-loop : goal.invariant-loop
invariant-loop g l = lists l.vectors.items ≡ replicate l.counter []
