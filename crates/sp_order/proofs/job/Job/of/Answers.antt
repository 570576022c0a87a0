use Rattle.std.proofs.Common.{map, sym, ap, subst}
use Rattle.job_names.specs.Names.{spelling}
use Rattle.std.specs.Option.{option_map}
use Rattle.sp_order.specs.Precedence.{tree_of}
use Rattle.sp_order.specs.Objects.{AreNamed}
use Rattle.sp_order.proofs.ObjectLemmas.{none_sourced, unnamed_are_named}
use Rattle.sp_order.proofs.job.Job.of.Goals as goal

pub invariant_of-result : goal.invariant_of-result
invariant_of-result c = record {
  leaves = c.requires.leaves;
  most = c.requires.most;
  sources = none_sourced (option_map tree_of c.args.shape) c.args.acts.items;
  objects =
      subst (AreNamed c.args.acts.items) (ap (λ names. map (λ name. spelling name) names) (sym c.new-names.ensures.items))
      (unnamed_are_named c.args.acts.items c.requires.unnamed);
}
