use Rattle.std.proofs.Common.{arith, ◌≡◌}
use Rattle.std.proofs.lemmas.Grind.{common_steps}
use Rattle.seq_objects.proofs.Meets.{meets_more}
use Rattle.object_rows.proofs.run.run_others.Goals as goal

pub loop-row-preserved : goal.loop-row-preserved
loop-row-preserved g c = record {
  met = rw c.in_ok-push.ensures.items (meets_more _ _ _ _ _ c.loop-row.invariant.met c.in_ok-run_all.ensures);
  all = grind (arith, common_steps, c.in-Some.ensures.steps, c.loop-row.invariant.all);
}

pub returns : goal.returns
returns g c =
    let yielded : c.loop-row.yielded ≡ c.args.rows.items = grind (arith, common_steps, c.in-None.ensures.steps, c.loop-row.invariant.all, c.into_iter-row-iterator.ensures.into_iter_gives) in
    rw yielded at c.loop-row.invariant.met
