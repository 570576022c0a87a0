use Rattle.std.proofs.Common.{ℕ, Some, sym, ap, ◌∙◌}
use Rattle.core_model.proofs.Words.{LeafNode}
use Rattle.core_model.specs.Next.{event_in}
use Rattle.core_model.specs.Operations.{leaf_of}
use Rattle.core_model.specs.Settings.{job_of, job_with}
use Rattle.core_model.proofs.ChoiceLemmas.Works.{works, works_on}
use Rattle.core_state.specs.Abstraction.{state_of}
use Rattle.core_state.specs.WorkDue.{number_asked}
use Rattle.core_state.specs.Words.{Keep}
use Rattle.core_state.proofs.CodeLemmas.KeptParts.{kept_parts}
use Rattle.core_state.proofs.state.State.event_of.Goals as goal

-- the leaf is that of the worker's task
pub worked_value-requires-clause-works : goal.worked_value-requires-clause-works
worked_value-requires-clause-works g c =
    let job = job_with g.B.WorkBrand.work c.args.setting.now in
    let s = state_of c.args.self.now in
    let spin = c.in-Spin in
    let (task, leaf_is, act) = works spin.node spin.start spin.leaf spin.steps job (s.task c.args.worker) (s.call c.args.worker) (c.requires.next ∙ ap Some spin.is) in
    let at = c.requires.looks.at_leaf c.args.worker spin.node spin.start task in
    (c.args.worker, ((spin.node, (at.1 ∙ ap (λ (u : ℕ). Some (LeafNode u)) (sym (ap leaf_of at.1) ∙ sym leaf_is), spin.start, task)), act))

pub worked_value-requires-clause-has : goal.worked_value-requires-clause-has
worked_value-requires-clause-has g c = λ number is.
    c.requires.has number (ap (number_asked (job_of c.args.setting.now) (state_of c.args.self.now).book) (c.requires.next ∙ ap Some c.in-Spin.is) ∙ is)

pub returns-in_ok-worked_value-in-Spin : goal.returns-in_ok-worked_value-in-Spin
returns-in_ok-worked_value-in-Spin g c =
    let setting = c.args.setting.now in
    let job = job_with g.B.WorkBrand.work setting in
    let s = state_of c.args.self.now in
    let spin = c.in-Spin in
    let on = works_on job s c.requires.fits.sources (kept_parts setting.job setting.workers c.args.self.now c.requires.fits) c.args.worker spin.node spin.start spin.leaf spin.steps
    (c.requires.next ∙ ap Some spin.is) in
    ap (λ (v : ℕ). Keep spin.node spin.start v) (c.in_ok-worked_value-in-Spin.ensures on.0 on.1 ∙ sym on.2) ∙ ap (event_in job s) (sym spin.is)
