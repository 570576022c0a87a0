use Rattle.std.proofs.Common.{arith}
use Rattle.table_rule.proofs.laws.misses_are_true_at_their_moments.Goals as goal

pub returns : goal.returns
returns c work key t shown id v at some_worker = shown.misses id v v.own.worker at (omega arith) some_worker
