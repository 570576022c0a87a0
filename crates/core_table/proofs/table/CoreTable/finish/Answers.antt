use Rattle.core_model.specs.Settings.{job_with}
use Rattle.std.proofs.Common.{◌≡◌, ◌∙◌, Some, refl, sym, ap, subst, arith}
use Rattle.core_model.specs.Next.{next_act}
use Rattle.core_model.specs.Events.{task_after}
use Rattle.core_model.specs.declared.next.Next.TheVariants as acts
use Rattle.table_rule.specs.CoreWords.{Task}
use Rattle.table_rule.specs.Plays.{SeatState}
use Rattle.table_rule.specs.Shows.{room_of}
use Rattle.table_rule.specs.Tasks.{TaskHere, progress_after}
use Rattle.table_rule.specs.Words.{progress_code}
use Rattle.table_rule.specs.Passes.{with_task}
use Rattle.table_rule.specs.Views.{with_step}
use Rattle.table_rule.proofs.StepLemmas.NextActs.{next_stands, next_seen, after_here}
use Rattle.table_rule.proofs.StepLemmas.NodeSteps.{finishes}
use Rattle.core_table.proofs.PassLemmas.PassKept.{known_with, pass_stepped}
use Rattle.core_table.proofs.table.CoreTable.finish.Goals as goal

pub done_word-word-requires-clause-worker : goal.done_word-word-requires-clause-worker
done_word-word-requires-clause-worker g c = let few = c.args.self.now.few.1 in omega (arith, few, c.requires.pass.1)

pub done_word-word-requires-clause-ticks : goal.done_word-word-requires-clause-ticks
done_word-word-requires-clause-ticks g c n start end is =
    let here = subst (TaskHere (job_with g.B.WorkBrand.work c.args.self.now.setting).plan) (c.args.pass.now.own.0 ∙ is) c.requires.pass.5 in (here.1, here.2)

pub store-requires : goal.store-requires
store-requires g c =
    let self = c.args.self.now in let pass = c.args.pass.now in let job = job_with g.B.WorkBrand.work self.setting in let v = pass.seat.me.0 in
    let laws = c.laws_hold.ensures self.setting refl in
    let act = acts.Finish c.finish_due-node.result c.finish_due-node.ensures.0 in
    let due : next_act job v.own.task v.own.call ≡ Some act = c.finish_due-node.ensures.1 in
    let stands = next_stands job laws v.own.call v.own.task act c.requires.pass.5 due in let below = stands.below in
    let word : c.done_word-word.result ≡ progress_code (progress_after pass.worker v.own.task) = c.done_word-word.ensures ∙ ap (λ (t : Task). progress_code (progress_after pass.worker t)) (sym pass.own.0) in (
      c.requires.pass.0,
      omega (arith, self.sized.0, c.node-at.ensures, c.layout.ensures.workers, self.key.1, below),
      rw (self.key.0, c.node-at.ensures, c.layout.ensures.workers, word) (λ a b d e f. let x = (finishes job (room_of self.setting) laws _ _ v pass.seat.me.1 pass.worker pass.number.0 pass.number.1 c.requires.pass.2 c.requires.pass.4 (known_with g.B.WorkBrand.work c.args.pass.now.seat.me.0 c.args.self.now.setting c.requires.pass.9)
          c.finish_due-node.result c.finish_due-node.ensures.0 c.requires.pass.5 due c.requires.free) a b d e f in (x.0, x.1, x.2, x.3.0, x.4)),
    )

pub invariant_of-pass : goal.invariant_of-pass
invariant_of-pass g c =
    let self = c.args.self.now in let pass = c.args.pass.now in let job = job_with g.B.WorkBrand.work self.setting in let v = pass.seat.me.0 in
    let act = acts.Finish c.finish_due-node.result c.finish_due-node.ensures.0 in
    let due : next_act job v.own.task v.own.call ≡ Some act = c.finish_due-node.ensures.1 in
    let is = c.store.ensures.2 c.finish_due-node.result c.finish_due-node.ensures.0 (next_seen job v act (known_with g.B.WorkBrand.work c.args.pass.now.seat.me.0 c.args.self.now.setting c.requires.pass.9) due) in record {
      number = (ap (λ (m : SeatState). m.0.own.worker) is ∙ pass.number.0, ap (λ (m : SeatState). m.0.to) is ∙ pass.number.1);
      own = (ap (λ (m : SeatState). m.0.own.task) is ∙ sym c.task_after-pass.ensures, ap (λ (m : SeatState). m.0.own.call) is ∙ pass.own.1);
      room = pass.room;
    }

pub returns-clause-pass : goal.returns-clause-pass
returns-clause-pass g c =
    let self = c.args.self.now in let pass = c.args.pass.now in let job = job_with g.B.WorkBrand.work self.setting in let v = pass.seat.me.0 in
    let laws = c.laws_hold.ensures self.setting refl in
    let act = acts.Finish c.finish_due-node.result c.finish_due-node.ensures.0 in
    let due : next_act job v.own.task v.own.call ≡ Some act = c.finish_due-node.ensures.1 in
    let stands = next_stands job laws v.own.call v.own.task act c.requires.pass.5 due in
    let is = c.store.ensures.2 c.finish_due-node.result c.finish_due-node.ensures.0 (next_seen job v act (known_with g.B.WorkBrand.work c.args.pass.now.seat.me.0 c.args.self.now.setting c.requires.pass.9) due) in
    pass_stepped self.setting _ pass.worker pass.seat c.store.new.seat (with_step (with_task c.finish_due-node.ensures.0 (task_after c.finish_due-node.result)) v) c.store.ensures.0 is refl refl refl refl (after_here job c.finish_due-node.result stands.below) refl refl refl c.requires.pass

pub returns-clause-finished : goal.returns-clause-finished
returns-clause-finished g c n event at =
    let self = c.args.self.now in let pass = c.args.pass.now in let job = job_with g.B.WorkBrand.work self.setting in let v = pass.seat.me.0 in
    let is = c.store.ensures.2 n event (next_seen job v (acts.Finish n event) (known_with g.B.WorkBrand.work c.args.pass.now.seat.me.0 c.args.self.now.setting c.requires.pass.9) at) in
    ap (λ (m : SeatState). m.0) is
