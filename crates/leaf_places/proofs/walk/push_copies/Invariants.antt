use Rattle.std.proofs.Common.{◌≡◌, ◌++◌, map}
use Rattle.job_lang.specs.Meaning.{each_copy}
use Rattle.leaf_places.specs.Code.Walk.{in_copy}
use Rattle.leaf_places.proofs.walk.push_copies.Given as goal

abbrev pub invariant-loop-copy : goal.invariant-loop-copy
invariant-loop-copy l = l.places.items ≡ l.initial.places.items ++ each_copy l.copy (λ k. map (in_copy k) l.inside)
