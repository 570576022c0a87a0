use Rattle.std.proofs.Common.{◌≡◌, true, sym, ◌∙◌, subst, rules, tests}
use Rattle.std.specs.Prelude.{None, Some}
use Rattle.seq_objects.specs.declared.act.Act.TheVariants.{Work}
use Rattle.job_builder.specs.Code.Kept.{MayAdd}
use Rattle.job_builder.proofs.Drafting.{may_work_so}
use Rattle.job_builder.proofs.builder.Builder.work_with.Goals as goal

pub add-requires : goal.add-requires
add-requires c =
    let yes : c.may_work_with.result ≡ true = first_of (cc, search (tests, rules)) in
    subst (λ leaf. MayAdd c.args.self.now (Work 0) (Some leaf) None) (sym c.leaf.ensures)
    (may_work_so c.args.self.now c.args.used (sym c.may_work_with.ensures ∙ yes))
