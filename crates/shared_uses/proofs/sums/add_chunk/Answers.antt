use Rattle.std.proofs.Common.{ℕ, [], ◌∷◌, ap, ◌∙◌}
use Rattle.shared_uses.proofs.Adds.{one_added, chunk_is}
use Rattle.shared_uses.proofs.sums.add_chunk.Goals as goal

pub returns-clause-added : goal.returns-clause-added
returns-clause-added g c =
    one_added _ _ _ c.in_ok-add.ensures.served.last c.requires.caller.2
    ∙ ap (λ (n : ℕ). n ∷ []) (c.sum_of.ensures ∙ chunk_is c.args.numbers.now c.args.job.from c.args.job.to c.requires.chunk.0)
