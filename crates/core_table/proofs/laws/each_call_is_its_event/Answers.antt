use Rattle.std.proofs.Common.{ℕ, ◌≡◌, ◌≤◌, Some, refl, sym, subst, ◌∙◌}
use Rattle.sp_order.specs.declared.node.Kind.TheVariants.{LeafNode}
use Rattle.core_model.specs.declared.next.Next.TheVariants as acts
use Rattle.table_rule.proofs.StepLemmas.Sides.{started_in}
use Rattle.table_rule.proofs.StepLemmas.NextActs.{keeps_at, may_keep, may_post}
use Rattle.core_model.specs.Settings.{job_with}
use Rattle.core_table.proofs.PassLemmas.PassKept.{known_with, room_with}
use Rattle.table_rule.specs.Shows.{room_of}
use Rattle.table_rule.proofs.StepLemmas.NodeSteps as nodes
use Rattle.table_rule.proofs.StepLemmas.LookSteps as looks
use Rattle.table_rule.proofs.StepLemmas.CallSteps as calls
use Rattle.table_rule.proofs.StepLemmas.PublishStep as publishing
use Rattle.table_rule.proofs.StepLemmas.Starts as makings
use Rattle.core_table.proofs.laws.each_call_is_its_event.Goals as goal

pub returns-clause-calls : goal.returns-clause-calls
returns-clause-calls c work key sound slots id k v xs is =
    let job = job_with work key in
    let room = room_of key in
    let laws = c.laws_hold.ensures work key sound.few sound.leaves sound.short (sound.sources work) in record {
      claim = λ n below idle inside. nodes.claims job room laws slots id v xs k is.worker is.to is.workers is.enrolled (known_with work v key is.job) is.room n below idle inside;
      claim_past_the_last = λ n past some_workers. looks.strays job room laws slots id v xs k is.worker is.to n (subst (λ (count : ℕ). count ≤ n) (sym is.nodes) past) some_workers (known_with work v key is.job) is.room;
      start = λ n leaf due inside. nodes.starts job room laws slots id v xs k is.worker is.to is.workers is.enrolled (known_with work v key is.job) n leaf is.task due inside;
      end = λ n start due inside. nodes.ends job room laws slots id v xs k is.worker is.to is.workers is.enrolled (known_with work v key is.job) n start is.task due inside;
      open_side = λ n task event due inside. nodes.opens job room laws slots id v xs k is.worker is.to is.workers is.enrolled (known_with work v key is.job) n task event is.task due inside;
      keep = λ n start x task due inside.
          let may = may_keep job laws v.own.call v.own.told v.own.task x is.task due in
          nodes.keeps_value job room laws slots id v xs k is.worker is.to is.workers is.enrolled (known_with work v key is.job) _ x
          (n, start, task, keeps_at job v.own.told v.own.task v.own.call x n start may task) refl (started_in job v.own.task n start task is.task) inside;
      finish = λ n event due inside. nodes.finishes job room laws slots id v xs k is.worker is.to is.workers is.enrolled (known_with work v key is.job) n event is.task due inside;
      arrive = λ p l r n due inside. nodes.arrives job room laws slots id v xs k is.worker is.to is.workers is.enrolled (known_with work v key is.job) _ p l r n refl is.task due inside;
      post = λ n start call task due.
          let may = may_post job laws v.own.call v.own.told v.own.task call is.task due in
          let both = sym may.1.2 ∙ task in
          let at : may.1.0 ≡ n = cc in
          calls.posts job room laws slots id v xs k is.worker is.to call is.enrolled (n, start, task, subst (λ (y : ℕ). job.plan.kind y ≡ Some (LeafNode call.leaf)) at may.1.3, may.1.4) may.0;
      win = λ out. calls.wins job room laws slots id v xs k is.worker is.to is.workers out is.room (known_with work v key is.job);
      take = λ h u holds due. calls.looks job room laws slots id v xs k is.worker is.to h u (is.room ∙ room_with work key) is.room (known_with work v key is.job) holds due.0 due.1;
      publish = λ h batch holds due. publishing.publishes job room laws slots id v xs k is.worker is.to h batch holds is.room due;
      answer = λ h u call r holds there record_ yet receipt. calls.answers job room laws slots id v xs k is.worker is.to h u call r holds there record_ yet receipt;
      release = λ h holds due there. calls.releases_shop job room laws slots id v xs k is.worker is.to h h.book holds due.looked there due.answered refl;
      release_unserved = λ h holds due. calls.releases_both job room laws slots id v xs k is.worker is.to h h.book holds due.looked due.answered refl;
      leave = λ out nothing. calls.leaves job room laws slots id v xs k is.worker is.to is.enrolled out nothing (known_with work v key is.job) is.room;
      root_done = looks.looks_at_root job room laws slots id v xs k is.worker is.to _ is.workers refl laws.root (known_with work v key is.job) is.room;
      since = looks.hears job room laws slots id v xs k is.worker is.to is.workers;
      stop = looks.stops job room laws slots id v xs k is.worker is.to is.workers (known_with work v key is.job) is.room;
      stopped = looks.looks_at_stop job room laws slots id v xs k is.worker is.to is.workers (known_with work v key is.job) is.room;
      source_value = λ n start leaf source task kind from.
          looks.looks_at_value job room laws slots id v xs k is.worker is.to _ n start leaf source is.workers is.nodes task kind from refl;
      admit = publishing.admits job room laws slots id v xs k is.worker is.to _ is.workers is.room sound.workers;
    }

pub returns-clause-making : goal.returns-clause-making
returns-clause-making c work key slots id v xs = record {
  split = λ some_left. makings.splits (job_with work key) (room_of key) id v some_left;
  enrol = λ word alone fresh. makings.enrols (job_with work key) (room_of key) slots id word v xs v.own.worker refl alone fresh;
}
