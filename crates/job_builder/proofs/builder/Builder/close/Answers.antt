use Rattle.std.proofs.Common.{sym, subst}
use Rattle.job_builder.specs.Code.Kept.{draft_of, IsDraft}
use Rattle.job_builder.proofs.Drafting.{closed_is}
use Rattle.job_builder.proofs.builder.Builder.close.Goals as goal

pub invariant_of-self-2 : goal.invariant_of-self-2
invariant_of-self-2 c =
    let f = c.self.inside in
    subst (λ b. IsDraft (draft_of f.job b f.acts.items f.sources.items f.objects.items)) (sym c.in_ok-close.ensures.ok)
    (closed_is (draft_of f.job f.blocks f.acts.items f.sources.items f.objects.items) c.self.invariant)
