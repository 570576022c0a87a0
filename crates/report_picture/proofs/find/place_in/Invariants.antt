use Rattle.std.proofs.Common.{◌≡◌, drop}
use Rattle.batch_history.specs.Places.{place_in}
use Rattle.report_picture.proofs.find.place_in.Given as goal

abbrev pub invariant-loop-place : goal.invariant-loop-place
invariant-loop-place l = place_in l.batch 0 l.entries l.leaf ≡ place_in l.batch l.place (drop l.place l.entries) l.leaf
