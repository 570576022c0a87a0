use Rattle.std.proofs.Common.{◌≡◌, true, sym, ◌∙◌, subst, rules, tests}
use Rattle.std.specs.Prelude.{Some}
use Rattle.seq_objects.specs.declared.act.Act.TheVariants.{Call}
use Rattle.seq_objects.specs.Parts.{with_argument}
use Rattle.named_objects.specs.Objects.{named_in}
use Rattle.job_builder.specs.Code.Kept.{MayAdd}
use Rattle.job_builder.proofs.Drafting.{may_use_so}
use Rattle.job_builder.proofs.builder.Builder.use_value.Goals as goal

pub add-requires : goal.add-requires
add-requires c =
    let yes : c.may_use.result ≡ true = first_of (cc, search (tests, rules)) in
    subst (λ op. MayAdd c.args.self.now (Call op) (Some c.leaf.result) (named_in c.args.object)) (sym c.with_argument.ensures)
    (subst (λ leaf. MayAdd c.args.self.now (Call (with_argument c.args.op 0)) (Some leaf) (named_in c.args.object)) (sym c.leaf.ensures)
    (may_use_so c.args.self.now c.args.op c.args.used (named_in c.args.object) c.requires.argument c.requires.object c.requires.spelled (sym c.may_use.ensures ∙ yes)))
