use Rattle.std.proofs.Common.{sym}
use Rattle.core_state.specs.Abstraction.{state_of}
use Rattle.batcher_core.proofs.ReportLemmas.Reporting.{over_is, reported}
use Rattle.batcher_core.proofs.scheduler.CoreWith.report.Goals as goal

pub history_of-requires : goal.history_of-requires
history_of-requires g c =
    let over = over_is _ _ (rw (← c.self.view_is) at c.requires) in
    (c.self.invariant.1 over.0).shop

pub returns-clause-report : goal.returns-clause-report
returns-clause-report g c =
    let order = rw (← c.self.view_is) at c.in_ok-rows.ensures.leaves in
    let tell = rw (← c.self.view_is) at c.in_ok-rows.ensures.rows in
    rw (← c.self.view_is, c.of.ensures, c.history_of.ensures) (reported c.self.inside.setting.job c.self.inside.setting.workers c.self.inside.table c.in_ok-rows.rows.items order tell)

pub returns-clause-lawful : goal.returns-clause-lawful
returns-clause-lawful g c =
    let over = over_is _ _ (rw (← c.self.view_is) at c.requires) in
    let fits = c.self.invariant.1 over.0 in
    let is = rw (← c.self.view_is) at (returns-clause-report g c) in
    rw (← c.self.view_is)
    (c.done_report_is_lawful.ensures g.B.WorkBrand.work c.self.inside.setting.job c.self.inside.setting.workers (state_of c.self.inside.table) _ fits.shape (sym fits.leaves) fits.inv.parts over.1 is)
