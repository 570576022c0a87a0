use Rattle.keyed_pieces.proofs.Sides.{range_count, range_is, ranges_joined}
use Rattle.keyed_pieces.proofs.Cuts.{ranges_apart}
use Rattle.keyed_pieces.proofs.laws.ranges_are_the_groups.Goals as goal

pub returns-clause-count : goal.returns-clause-count
returns-clause-count g c = range_count

pub returns-clause-each : goal.returns-clause-each
returns-clause-each g c = range_is

pub returns-clause-all : goal.returns-clause-all
returns-clause-all g c = ranges_joined

pub returns-clause-apart : goal.returns-clause-apart
returns-clause-apart g c = ranges_apart
