use Rattle.std.proofs.Common.{ℕ, Some, sym, ◌∙◌, ap}
use Rattle.core_model.proofs.Words.{LeafNode}
use Rattle.core_model.specs.Operations.{leaf_of}
use Rattle.core_model.specs.Settings.{job_with}
use Rattle.core_model.proofs.ChoiceLemmas.Works.{works}
use Rattle.core_state.proofs.state.State.work_of.Goals as goal

-- the leaf is that of the worker's task
pub number_of-requires-clause-works : goal.number_of-requires-clause-works
number_of-requires-clause-works g c =
    let job = job_with g.B.WorkBrand.work c.args.setting.now in
    let spin = c.in-Some-Spin in
    let (task, leaf_is, act) = works spin.field-0-0 spin.field-0-1 spin.leaf spin.steps job c.args.task c.index.result.now (sym c.next.ensures ∙ spin.is ∙ ap Some spin.field-0-is) in
    let at = c.requires.looks.at_leaf c.args.worker spin.field-0-0 spin.field-0-1 (c.requires.task ∙ task) in
    (c.args.worker, ((spin.field-0-0, (at.1 ∙ ap (λ (u : ℕ). Some (LeafNode u)) (sym (ap leaf_of at.1) ∙ sym leaf_is), spin.field-0-1, c.requires.task ∙ task)), act))
