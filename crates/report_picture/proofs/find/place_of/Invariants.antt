use Rattle.std.proofs.Common.{◌≡◌, drop}
use Rattle.batch_history.specs.Places.{place_from}
use Rattle.report_picture.proofs.find.place_of.Given as goal

abbrev pub invariant-loop-number : goal.invariant-loop-number
invariant-loop-number l = place_from 0 l.book l.leaf ≡ place_from l.number (drop l.number l.book) l.leaf
