use Rattle.std.proofs.Common.{sym, subst}
use Rattle.key_sets.specs.Keys.{StrictlyAscends}
use Rattle.keyed_pieces.specs.Ranges.{side_by_side}
use Rattle.forest_cuts.specs.Parts.{keys_of_each}
use Rattle.forest_cuts.proofs.PartLemmas.{below_next}
use Rattle.forest_cuts.proofs.join.join_forests.Goals as goal

pub append-requires : goal.append-requires
append-requires c =
    let all = rw c.in-Some-part.ensures.steps.0 at c.loop-part.invariant in
    below_next c.loop-part.forest.keys c.in-Some-part.part.keys (side_by_side (keys_of_each c.next-in-loop-part.new.self.rest.items)) (subst StrictlyAscends (sym all) c.requires)
