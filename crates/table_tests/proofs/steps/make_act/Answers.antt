use Rattle.std.proofs.Common.{Some, ◌∙◌, ap}
use Rattle.table_rule.specs.declared.view.PassView.{PassView}
use Rattle.core_table.specs.Passes.{pass_view}
use Rattle.worker_turns.proofs.HoldLemmas.Passes.{own_of}
use Rattle.worker_turns.proofs.CarryLemmas.Steps.{arrived}
use Rattle.table_tests.proofs.steps.make_act.Goals as goal

pub returns-in-Start : goal.returns-in-Start
returns-in-Start c =
    let is = own_of _ _ (c.tick.ensures.started _ _ (c.requires.due ∙ ap Some c.in-Start.is)) in
    record { own = (c.tick.ensures.pass, ap (λ (p : PassView). p.hold) is ∙ c.requires.own.1); worker = ap (λ (p : PassView). p.worker) is }

pub returns-in-End : goal.returns-in-End
returns-in-End c =
    let is = own_of _ _ (c.tick-in-End.ensures.ended _ _ (c.requires.due ∙ ap Some c.in-End.is)) in
    record { own = (c.tick-in-End.ensures.pass, ap (λ (p : PassView). p.hold) is ∙ c.requires.own.1); worker = ap (λ (p : PassView). p.worker) is }

pub returns-in-Open : goal.returns-in-Open
returns-in-Open c =
    let is = own_of _ _ (c.open_node.ensures.opened _ _ _ (c.requires.due ∙ ap Some c.in-Open.is)).1 in
    record { own = (c.open_node.ensures.pass, ap (λ (p : PassView). p.hold) is ∙ c.requires.own.1); worker = ap (λ (p : PassView). p.worker) is }

pub returns-in-Finish : goal.returns-in-Finish
returns-in-Finish c =
    let is = own_of _ _ (c.finish.ensures.finished _ _ (c.requires.due ∙ ap Some c.in-Finish.is)) in
    record { own = (c.finish.ensures.pass, ap (λ (p : PassView). p.hold) is ∙ c.requires.own.1); worker = ap (λ (p : PassView). p.worker) is }

pub returns-in-Arrive : goal.returns-in-Arrive
returns-in-Arrive c =
    let due = c.requires.due ∙ ap Some c.in-Arrive.is in
    let is = (arrived c.arrive.result (pass_view c.args.pass.now) (pass_view c.arrive.new.pass) _ _ _ _ (λ e. own_of _ _ (c.arrive.ensures.first e _ _ _ _ due)) (λ e. own_of _ _ (c.arrive.ensures.second e _ _ _ _ due))).2 in
    record { own = (c.arrive.ensures.pass, ap (λ (p : PassView). p.hold) is ∙ c.requires.own.1); worker = ap (λ (p : PassView). p.worker) is }
