use Rattle.std.proofs.Common.{◌≡◌, ◌++◌}
use Rattle.keyed_pieces.specs.Ranges.{side_by_side}
use Rattle.forest_cuts.specs.Parts.{keys_of_each}
use Rattle.forest_cuts.proofs.join.join_forests.Given as goal

abbrev pub invariant-loop-part : goal.invariant-loop-part
invariant-loop-part l = l.forest.keys ++ side_by_side (keys_of_each l.part-iterator.rest.items) ≡ side_by_side (keys_of_each l.fn.parts.items)
