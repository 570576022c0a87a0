use Rattle.std.proofs.Common.{◌≡◌, length, ap, arith, sym, ◌∙◌}
use Rattle.sp_order.specs.Jobs.{job_tree}
use Rattle.core_model.proofs.Words.{leaves, core_job_with}
use Rattle.core_state.specs.Abstraction.{state_of}
use Rattle.core_model.proofs.BookLemmas.LeavesIn.{leaves_few}
use Rattle.batcher_core.proofs.ReportLemmas.Reporting.{over_is}
use Rattle.batcher_core.proofs.scheduler.CoreWith.rows.Goals as goal

pub overflow_cast-leaf_total : goal.overflow_cast-leaf_total
overflow_cast-leaf_total g c =
    let over = over_is _ _ (rw (← c.self.view_is) at c.requires) in
    let fits = c.self.invariant.1 over.0 in
    let few = leaves_few (job_tree c.self.inside.setting.job) in
    let count = (c.plan_stands_for_tree.ensures (job_tree c.self.inside.setting.job)).count in
    omega (arith, ap length c.acts.ensures.acts, fits.leaves, fits.most, few, count)

pub rows_of-requires : goal.rows_of-requires
unfolding state_of
rows_of-requires g c =
    let over = over_is _ _ (rw (← c.self.view_is) at c.requires) in
    let fits = c.self.invariant.1 over.0 in
    let tree = job_tree c.self.inside.setting.job in
    let all : length c.acts.result.now ≡ leaves tree = ap length c.acts.ensures.acts ∙ sym fits.leaves in
    let run = c.done_leaves_have_run.ensures (core_job_with g.B.WorkBrand.work c.self.inside.setting.job c.self.inside.setting.workers) tree (state_of c.self.inside.table) (c.plan_stands_for_tree.ensures tree) fits.inv.parts over.1 in
    record {
      few = omega (arith, all);
      ran = rw (c.deref.ensures.value, all) (λ leaf below. (run leaf below).0);
      valued = rw (c.deref-2.ensures.value, all) (λ leaf below. (run leaf below).1);
    }

pub returns-clause-leaves : goal.returns-clause-leaves
returns-clause-leaves g c =
    let over = over_is _ _ (rw (← c.self.view_is) at c.requires) in
    let fits = c.self.invariant.1 over.0 in
    let all : length c.acts.result.now ≡ leaves (job_tree c.self.inside.setting.job) = ap length c.acts.ensures.acts ∙ sym fits.leaves in
    rw (← c.self.view_is) (rw all at c.rows_of.ensures.leaves)

pub returns-clause-rows : goal.returns-clause-rows
unfolding state_of
returns-clause-rows g c = rw (← c.self.view_is) (rw (c.deref.ensures.value, c.deref-2.ensures.value) at c.rows_of.ensures.rows)
