use Rattle.std.proofs.Common.{ℕ, ◌%◌, ◌^◌, ap, ◌∙◌, arith}
use Rattle.shared_structures.proofs.Sums.{after_is}
use Rattle.shared_structures.proofs.counter.SharedCounter.close.Goals as goal

pub returns : goal.returns
returns c =
    let kept = c.in-Some.ensures.kept in record {
      sum = (kept.0, kept.1, kept.2 ∙ (after_is 0 kept.0 (omega arith) ∙ ap (λ (n : ℕ). n % 2 ^ 64) (omega arith)));
    }
