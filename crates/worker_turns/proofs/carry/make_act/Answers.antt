use Rattle.std.proofs.Common.{ℕ, Some, [], ◌∷◌, ◌∙◌, refl, sym, ap}
use Rattle.table_rule.specs.declared.view.PassView.{PassView}
use Rattle.table_rule.specs.Passes.{keeping, opening}
use Rattle.core_table.specs.Passes.{pass_view}
use Rattle.worker_crew.specs.Passes.{is_trapped}
use Rattle.two_deques.specs.Hands.{Held}
use Rattle.worker_turns.proofs.HoldLemmas.Passes.{own_of}
use Rattle.worker_turns.proofs.CarryLemmas.Steps.{ok_by, carried_step, carried_open, carried_call, front_called, arrived}
use Rattle.worker_turns.proofs.carry.make_act.Goals as goal

pub returns-in-Start-clause-me : goal.returns-in-Start-clause-me
returns-in-Start-clause-me g c =
    let is = own_of _ _ (c.tick.ensures.started _ _ (c.requires.due ∙ ap Some c.in-Start.is)) in
    record { pass = c.tick.ensures.pass; hand = c.requires.me.hand; desk = c.requires.me.desk; worker = ap (λ (p : PassView). p.worker) is ∙ c.requires.me.worker; row = c.requires.me.row; tries = c.requires.me.tries; workers = c.requires.me.workers }

pub returns-in-Start-clause-free_pass : goal.returns-in-Start-clause-free_pass
returns-in-Start-clause-free_pass g c =
    let is = own_of _ _ (c.tick.ensures.started _ _ (c.requires.due ∙ ap Some c.in-Start.is)) in
    (ap (λ (p : PassView). is_trapped p.call) is ∙ c.requires.free_pass.0, ap (λ (p : PassView). p.hold) is ∙ c.requires.free_pass.1)

pub returns-in-Start-clause-carried : goal.returns-in-Start-clause-carried
returns-in-Start-clause-carried g c = let t = c.tick.ensures.started _ _ (c.requires.due ∙ ap Some c.in-Start.is) in carried_step _ _ _ _ _ (_ ∷ []) (own_of _ _ t) refl refl

pub returns-in-End-clause-me : goal.returns-in-End-clause-me
returns-in-End-clause-me g c =
    let is = own_of _ _ (c.tick-in-End.ensures.ended _ _ (c.requires.due ∙ ap Some c.in-End.is)) in
    record { pass = c.tick-in-End.ensures.pass; hand = c.requires.me.hand; desk = c.requires.me.desk; worker = ap (λ (p : PassView). p.worker) is ∙ c.requires.me.worker; row = c.requires.me.row; tries = c.requires.me.tries; workers = c.requires.me.workers }

pub returns-in-End-clause-free_pass : goal.returns-in-End-clause-free_pass
returns-in-End-clause-free_pass g c =
    let is = own_of _ _ (c.tick-in-End.ensures.ended _ _ (c.requires.due ∙ ap Some c.in-End.is)) in
    (ap (λ (p : PassView). is_trapped p.call) is ∙ c.requires.free_pass.0, ap (λ (p : PassView). p.hold) is ∙ c.requires.free_pass.1)

pub returns-in-End-clause-carried : goal.returns-in-End-clause-carried
returns-in-End-clause-carried g c = let t = c.tick-in-End.ensures.ended _ _ (c.requires.due ∙ ap Some c.in-End.is) in carried_step _ _ _ _ _ (_ ∷ []) (own_of _ _ t) refl refl

pub returns-in_ok-worked-in-Spin-clause-carried : goal.returns-in_ok-worked-in-Spin-clause-carried
returns-in_ok-worked-in-Spin-clause-carried g c =
    let k = c.keep.ensures.kept in
    carried_step _ _ _ _ _ _ (own_of _ _ k.3 ∙ ap (keeping k.0 k.1 _) c.number_due-number.ensures.seen) refl refl

pub returns-in_ok-make_call-in-Call-clause-carried : goal.returns-in_ok-make_call-in-Call-clause-carried
returns-in_ok-make_call-in-Call-clause-carried g c =
    let e = c.in_ok-make_call-in-Call.ensures in
    carried_call _ _ e.job e.longer e.looked (front_called _ (pass_view c.args.me.now.pass) (pass_view c.make_call.new.me.pass) e.events) e.core e.helps

pub returns-in-Got-clause-carried : goal.returns-in-Got-clause-carried
returns-in-Got-clause-carried g c = let k = c.keep-in-Got.ensures.kept in carried_step _ _ _ _ _ _ (own_of _ _ k.3) refl refl

pub returns-in-Finish-clause-me : goal.returns-in-Finish-clause-me
returns-in-Finish-clause-me g c =
    let is = own_of _ _ (c.finish.ensures.finished _ _ (c.requires.due ∙ ap Some c.in-Finish.is)) in
    record { pass = c.finish.ensures.pass; hand = c.requires.me.hand; desk = c.requires.me.desk; worker = ap (λ (p : PassView). p.worker) is ∙ c.requires.me.worker; row = c.requires.me.row; tries = c.requires.me.tries; workers = c.requires.me.workers }

pub returns-in-Finish-clause-free_pass : goal.returns-in-Finish-clause-free_pass
returns-in-Finish-clause-free_pass g c =
    let is = own_of _ _ (c.finish.ensures.finished _ _ (c.requires.due ∙ ap Some c.in-Finish.is)) in
    (ap (λ (p : PassView). is_trapped p.call) is ∙ c.requires.free_pass.0, ap (λ (p : PassView). p.hold) is ∙ c.requires.free_pass.1)

pub returns-in-Finish-clause-carried : goal.returns-in-Finish-clause-carried
returns-in-Finish-clause-carried g c = carried_step _ _ _ _ _ (_ ∷ []) (own_of _ _ (c.finish.ensures.finished _ _ (c.requires.due ∙ ap Some c.in-Finish.is))) refl refl

pub returns-in-Arrive-clause-me : goal.returns-in-Arrive-clause-me
returns-in-Arrive-clause-me g c =
    let due = c.requires.due ∙ ap Some c.in-Arrive.is in
    let is = (arrived c.arrive.result (pass_view c.args.me.now.pass) (pass_view c.arrive.new.pass) _ _ _ _ (λ e. own_of _ _ (c.arrive.ensures.first e _ _ _ _ due)) (λ e. own_of _ _ (c.arrive.ensures.second e _ _ _ _ due))).2 in
    record { pass = c.arrive.ensures.pass; hand = c.requires.me.hand; desk = c.requires.me.desk; worker = ap (λ (p : PassView). p.worker) is ∙ c.requires.me.worker; row = c.requires.me.row; tries = c.requires.me.tries; workers = c.requires.me.workers }

pub returns-in-Arrive-clause-free_pass : goal.returns-in-Arrive-clause-free_pass
returns-in-Arrive-clause-free_pass g c =
    let due = c.requires.due ∙ ap Some c.in-Arrive.is in
    let is = (arrived c.arrive.result (pass_view c.args.me.now.pass) (pass_view c.arrive.new.pass) _ _ _ _ (λ e. own_of _ _ (c.arrive.ensures.first e _ _ _ _ due)) (λ e. own_of _ _ (c.arrive.ensures.second e _ _ _ _ due))).2 in
    (ap (λ (p : PassView). is_trapped p.call) is ∙ c.requires.free_pass.0, ap (λ (p : PassView). p.hold) is ∙ c.requires.free_pass.1)

pub returns-in-Arrive-clause-carried : goal.returns-in-Arrive-clause-carried
returns-in-Arrive-clause-carried g c =
    let due = c.requires.due ∙ ap Some c.in-Arrive.is in
    carried_step _ _ _ _ _ (_ ∷ []) (arrived c.arrive.result (pass_view c.args.me.now.pass) (pass_view c.arrive.new.pass) _ _ _ _ (λ e. own_of _ _ (c.arrive.ensures.first e _ _ _ _ due)) (λ e. own_of _ _ (c.arrive.ensures.second e _ _ _ _ due))).2 refl refl

pub returns-else-is_err-clause-me : goal.returns-else-is_err-clause-me
returns-else-is_err-clause-me g c =
    let is = own_of _ _ (c.open_node-node.ensures.opened _ _ _ (c.requires.due ∙ ap Some c.in-Open.is)).1 in
    let pushed = ok_by c.push_core.result _ c.push_core.ensures.ok (sym c.is_err.ensures.value ∙ c.if-is_err.false) in
    let worker = sym (ap (λ (h : Held). h.worker) pushed) in record {
      pass = c.open_node-node.ensures.pass;
      hand = c.push_core.ensures.hand;
      desk = c.requires.me.desk;
      worker = ap (λ (p : PassView). p.worker) is ∙ c.requires.me.worker ∙ worker;
      row = c.requires.me.row ∙ worker;
      tries = c.requires.me.tries ∙ worker;
      workers = c.requires.me.workers;
    }

pub returns-else-is_err-clause-free_pass : goal.returns-else-is_err-clause-free_pass
returns-else-is_err-clause-free_pass g c =
    let is = own_of _ _ (c.open_node-node.ensures.opened _ _ _ (c.requires.due ∙ ap Some c.in-Open.is)).1 in
    (ap (λ (p : PassView). is_trapped p.call) is ∙ c.requires.free_pass.0, ap (λ (p : PassView). p.hold) is ∙ c.requires.free_pass.1)

pub returns-else-is_err-clause-carried : goal.returns-else-is_err-clause-carried
returns-else-is_err-clause-carried g c =
    let o = c.open_node-node.ensures.opened _ _ _ (c.requires.due ∙ ap Some c.in-Open.is) in
    let pushed = ok_by c.push_core.result _ c.push_core.ensures.ok (sym c.is_err.ensures.value ∙ c.if-is_err.false) in
    carried_open _ _ c.open_node-node.result c.in-Open.event c.in-Open.task (own_of _ _ o.1 ∙ ap (λ (n : ℕ). opening n c.in-Open.event c.in-Open.task (pass_view c.args.me.now.pass)) (sym o.0))
    (ap (λ (h : Held). h.core) pushed) refl
