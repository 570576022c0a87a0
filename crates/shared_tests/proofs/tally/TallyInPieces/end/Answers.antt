use Rattle.shared_tests.proofs.Tallies.{pieces_serve}
use Rattle.shared_tests.proofs.tally.TallyInPieces.end.Goals as goal

pub returns-clause-served : goal.returns-clause-served
returns-clause-served c o is met = pieces_serve o.before.sum c.args.rest.sum o.ops o.ins c.args.outs.items is.0 is.1 met
