use Rattle.std.proofs.Common.{◌≡◌, ◌++◌, map, take}
use Rattle.leaf_places.specs.Code.Walk.{in_copy}
use Rattle.leaf_places.proofs.walk.push_copy.Given as goal

abbrev pub invariant-loop-place : goal.invariant-loop-place
invariant-loop-place l = l.places.items ≡ l.initial.places.items ++ map (in_copy l.copy) (take l.place-index l.inside)
