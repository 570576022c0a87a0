use Rattle.std.proofs.Common.{ap, sym, ◌∙◌, ◌≡◌, subst, arith}
use Rattle.sp_order.specs.Jobs.{job_tree}
use Rattle.core_model.specs.Measure.{call_count}
use Rattle.table_rule.specs.declared.view.HoldView.{HoldView}
use Rattle.table_rule.specs.declared.view.PassView.{PassView}
use Rattle.table_rule.specs.Passes.{call_by, in_hold, after_take, after_pass}
use Rattle.core_table.specs.Passes.{job_in, pass_view, planned_in}
use Rattle.worker_turns.specs.Holds.{AreFit}
use Rattle.worker_turns.specs.Code.Serving.{Holds}
use Rattle.worker_turns.proofs.HoldLemmas.Passes.{held_at, own_of}
use Rattle.worker_turns.proofs.HoldLemmas.Fits.{fit_taken, fit_passed}
use Rattle.worker_turns.proofs.HoldLemmas.Room.{calls_few}
use Rattle.worker_turns.proofs.launching.take_pending.Goals as goal
use Rattle.std.proofs.lemmas.Option.{same_Some}

pub take-requires-clause-due : goal.take-requires-clause-due
take-requires-clause-due g c = let next = c.requires.next in (next.0, next.1, (next.2, c.requires.below))

pub returns-clause-fit : goal.returns-clause-fit
returns-clause-fit g c =
    let table = c.args.table.now in
    let hold = (pass_view c.args.pass.now).hold in
    let t = c.in_ok-call.ensures.took in
    let take = after_take (call_by c.args.u c.in_ok-call.call) in
    let next = c.requires.next in
    let is : c.args.u ≡ t.0.looks = next.2 ∙ ap (λ (h : HoldView). h.looks) (same_Some next.0 t.0 (sym next.1 ∙ t.1)) in
    let few = calls_few (job_in table) (job_tree (planned_in table)) (c.plan_stands_for_tree.ensures (job_tree (planned_in table))) in
    let acts = table.acts in
    let workers = table.few in
    let fit = fit_taken t.0 c.args.u (call_count (job_in table)) c.in_ok-call.call t.2 (omega (arith, few, acts.0, acts.1)) is (omega (arith, c.requires.below, workers.1))
    (held_at AreFit hold t.0 c.requires.fit t.1) in
    subst (Holds AreFit) (sym (ap (λ (p : PassView). p.hold) (own_of _ _ t.4) ∙ ap (in_hold take) t.1)) fit

pub returns-in_err-call-clause-fit : goal.returns-in_err-call-clause-fit
returns-in_err-call-clause-fit g c =
    let hold = (pass_view c.args.pass.now).hold in
    let next = c.requires.next in
    let (miss, _, now) = c.in_err-call.ensures.passed in
    let pass = after_pass miss.found in
    subst (Holds AreFit) (sym (ap (λ (p : PassView). p.hold) (own_of _ _ now) ∙ ap (in_hold pass) next.1))
    (fit_passed next.0 miss.found (held_at AreFit hold next.0 c.requires.fit next.1))
