use Rattle.std.proofs.Common.{arith}
use Rattle.std.proofs.lemmas.Grind.{common_steps}
use Rattle.object_rows.specs.Contents.{structure_at}
use Rattle.object_rows.proofs.by_number.ByNumber.new.Goals as goal

pub returns : goal.returns
unfolding structure_at
returns g c = λ number. grind (arith, common_steps)
