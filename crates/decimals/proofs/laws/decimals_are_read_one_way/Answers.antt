use Rattle.decimals.proofs.Decimals.{one_way}
use Rattle.decimals.proofs.laws.decimals_are_read_one_way.Goals as goal

pub returns : goal.returns
returns c most text m n rest rest' small a b = one_way most text m n rest rest' small a b
