use Rattle.std.proofs.Common.{sym}
use Rattle.shared_tests.proofs.Tallies.{echoes_serve}
use Rattle.shared_tests.proofs.meeting.EchoInPieces.end.Goals as goal

pub returns-clause-served : goal.returns-clause-served
returns-clause-served c o is met = echoes_serve o.ops c.args.rest.batch.items (sym is)
