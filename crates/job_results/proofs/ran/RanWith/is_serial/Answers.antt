use Rattle.job_results.proofs.ran.RanWith.is_serial.Goals as goal

pub returns : goal.returns
returns g c =
    let f = c.self.inside in
    rw (← c.self.view_is) (c.lawful_reports_with_work_are_serial.ensures (g.W.LeafWork.meaning f.work.value) f.job f.report.workers f.report c.self.invariant)
