use Rattle.std.proofs.Common.{ℕ, ◌%◌, ◌^◌, ap, ◌∙◌, arith}
use Rattle.shared_structures.proofs.Sums.{reply_is}
use Rattle.shared_structures.proofs.laws.counter_replies_its_sum.Goals as goal

pub returns : goal.returns
returns c before call later serial = reply_is 0 before call later serial ∙ ap (λ (n : ℕ). n % 2 ^ 64) (omega arith)
