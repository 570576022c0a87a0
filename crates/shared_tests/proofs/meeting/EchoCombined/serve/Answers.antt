use Rattle.std.proofs.Common.{refl}
use Rattle.shared_tests.proofs.Tallies.{echoes_serve}
use Rattle.shared_tests.proofs.meeting.EchoCombined.serve.Goals as goal

pub returns-clause-served : goal.returns-clause-served
returns-clause-served c = echoes_serve c.args.ops.items c.args.ops.items refl
