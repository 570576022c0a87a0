use Rattle.std.proofs.Common.{[], sym}
use Rattle.word_counts.proofs.Orders.{reordered}
use Rattle.word_counts.proofs.laws.counts_have_no_order.Goals as goal

pub returns : goal.returns
returns c words others moved = sym (reordered [] words others moved)
