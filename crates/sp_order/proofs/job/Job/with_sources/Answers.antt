use Rattle.std.proofs.Common.{map, sym, ap, subst}
use Rattle.job_names.specs.Names.{spelling}
use Rattle.sp_order.specs.Objects.{AreNamed}
use Rattle.sp_order.proofs.ObjectLemmas.{unnamed_are_named}
use Rattle.sp_order.proofs.job.Job.with_sources.Goals as goal

pub invariant_of-result : goal.invariant_of-result
invariant_of-result c = record {
  leaves = c.requires.leaves;
  most = c.requires.most;
  sources = c.requires.sources;
  objects =
      subst (AreNamed c.args.acts.items) (ap (λ names. map (λ name. spelling name) names) (sym c.new-names.ensures.items))
      (unnamed_are_named c.args.acts.items c.requires.unnamed);
}
