use Rattle.std.proofs.Common.{◌≡◌, ◌++◌, drop}
use Rattle.forest_cuts.specs.Parts.{keys_of_each}
use Rattle.forest_cuts.proofs.PartLemmas.{ranges_in}
use Rattle.forest_cuts.proofs.cut.cut_below_each.Given as goal

-- the parts so far, followed by the ranges of what is left, are the ranges of the whole forest
abbrev pub invariant-loop-start : goal.invariant-loop-start
invariant-loop-start l = keys_of_each l.parts.items ++ ranges_in (drop l.start-index l.starts) l.rest ≡ ranges_in l.starts l.fn.forest.keys
