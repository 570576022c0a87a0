-- The orders in which shapes are joined, as constructors of trees.
use Rattle.job_lang.specs.declared.join.Order.{Order}
use Rattle.job_lang.specs.declared.join.Order.TheVariants.{Series, Parallel}
use Rattle.sp_order.specs.Precedence.{Tree, seq, par}

abbrev pub join_by : Order → Tree → Tree → Tree
join_by Series = seq
join_by Parallel = par
