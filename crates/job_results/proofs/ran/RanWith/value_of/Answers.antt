use Rattle.std.proofs.Common.{◌≡◌, ◌<◌, Some, sym, subst}
use Rattle.std.specs.Prelude.{slice_index_or}
use Rattle.batch_history.specs.declared.report.Report.{Report}
use Rattle.sp_order.specs.Jobs.{JobValue}
use Rattle.sp_order.specs.Precedence.{leaf_count}
use Rattle.job_results.specs.Results.{value_in}
use Rattle.job_results.proofs.Values.{row_is_there, value_read, value_has}
use Rattle.job_results.proofs.ran.RanWith.value_of.Goals as goal

pub bounds-list-leaf : goal.bounds-list-leaf
bounds-list-leaf g c =
    let f = c.self.inside in
    let less = subst (λ (job : JobValue). c.args.handle.leaf < leaf_count job.shape) (λ i. (sym c.self.view_is i).job) c.requires in
    row_is_there (g.W.LeafWork.meaning f.work.value) f.job f.report.workers f.report c.self.invariant c.args.handle.leaf less c.list.result.now c.leaf.result (record { leaf = 0; worker = 0; start = 0; end = 0; value = 0 }) c.list.ensures c.leaf.ensures

pub returns-clause-value : goal.returns-clause-value
returns-clause-value g c =
    let f = c.self.inside in
    let less = subst (λ (job : JobValue). c.args.handle.leaf < leaf_count job.shape) (λ i. (sym c.self.view_is i).job) c.requires in
    let read = value_read (g.W.LeafWork.meaning f.work.value) f.job f.report.workers f.report c.self.invariant c.args.handle.leaf less c.list.result.now c.leaf.result (record { leaf = 0; worker = 0; start = 0; end = 0; value = 0 }) c.list.ensures c.leaf.ensures in
    subst (λ (report : Report). value_in report c.args.handle.leaf ≡ Some (slice_index_or c.list.result.now c.leaf.result (record { leaf = 0; worker = 0; start = 0; end = 0; value = 0 })).value) (λ i. (c.self.view_is i).report) read

pub returns-clause-serial : goal.returns-clause-serial
returns-clause-serial g c =
    let f = c.self.inside in
    let less = subst (λ (job : JobValue). c.args.handle.leaf < leaf_count job.shape) (λ i. (sym c.self.view_is i).job) c.requires in
    let has = value_has (g.W.LeafWork.meaning f.work.value) f.job f.report.workers f.report c.self.invariant c.args.handle.leaf less c.list.result.now c.leaf.result (record { leaf = 0; worker = 0; start = 0; end = 0; value = 0 }) c.list.ensures c.leaf.ensures in
    rw (← c.self.view_is) has
