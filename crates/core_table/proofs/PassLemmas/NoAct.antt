-- A pass that is not trapped has a next act, unless its task is idle.
use Rattle.std.proofs.Common.{ℕ, ◌≡◌, ◌≢◌, ◌<◌, Option, None, Some, refl, ap, arith}
use Rattle.std.specs.Prelude.{IsNone}
use Rattle.seq_objects.specs.declared.act.Act.{Act}
use Rattle.seq_objects.specs.declared.act.Act.TheVariants as kinds
use Rattle.sp_order.specs.declared.node.Kind.{Kind}
use Rattle.sp_order.specs.declared.node.Kind.TheVariants.{LeafNode, SeqNode, ParNode}
use Rattle.sp_order.specs.declared.node.Move.{Move}
use Rattle.sp_order.specs.declared.node.Move.TheVariants.{Root, OpenSecond, FinishParent, Arrive}
use Rattle.sp_order.specs.Precedence.{Tree, leaf, seq, par}
use Rattle.sp_order.specs.PlanOf.{OccursAt, IsPlanOf}
use Rattle.sp_order.specs.Plans.{Nodes}
use Rattle.sp_order.proofs.PlanLemmas.Occurrences.{has_parent, stands_at}
use Rattle.core_model.specs.State.{CoreJob}
use Rattle.core_model.specs.Operations.{leaf_of}
use Rattle.core_model.specs.Next.{next_act, act_of_run, act_of_half, act_of_started, act_of_second, act_of_parent, act_of_arrive, act_of_whole, act_of_handed}
use Rattle.table_rule.specs.CoreWords.{Task, Idle, Run, Half, Started, Kept, Ended, Whole, Handed, CallState, NotCalled, Out, Got}
use Rattle.table_rule.specs.Laws.{Laws}
use Rattle.table_rule.specs.Tasks.{IsPar, TaskHere}

not_root : (plan : Nodes) (tree : Tree) → IsPlanOf plan tree → (n : ℕ) → n ≢ 0 → n < plan.count → plan.after n ≢ Root
not_root plan tree is n other low e =
    let count = is.count in
    absurd (rw e at (has_parent plan tree 0 0 Root is.stands n (omega arith) (omega (arith, low, count))))

-- each node below the count is one
top_is : (plan : Nodes) (tree : Tree) (node first : ℕ) (after : Move) → OccursAt plan tree node first after → plan.kind node ≢ None
top_is plan leaf node first after stands none = let e = stands.0 in absurd (cc)
top_is plan (seq left right) node first after stands none = let e = stands.0 in absurd (cc)
top_is plan (par left right) node first after stands none = let e = stands.0 in absurd (cc)

node_is : (plan : Nodes) (tree : Tree) → IsPlanOf plan tree → (n : ℕ) → n < plan.count → plan.kind n ≢ None
node_is plan tree is n low =
    let count = is.count in
    let at = stands_at plan tree 0 0 Root is.stands n (omega arith) (omega (arith, low, count)) in
    top_is plan at.tree n at.first (plan.after n) at.stands

run_none : (kind : Option Kind) (n : ℕ) → act_of_run kind n ≡ None → kind ≡ None
run_none None n none = refl
run_none (Some (LeafNode u)) n none = absurd (cc)
run_none (Some (SeqNode l r)) n none = absurd (cc)
run_none (Some (ParNode l r)) n none = absurd (cc)

half_some : (kind : Option Kind) (p : ℕ) → IsPar kind → act_of_half kind p ≢ None
half_some None p is = absurd is
half_some (Some (LeafNode u)) p is = absurd is
half_some (Some (SeqNode l r)) p is = absurd is
half_some (Some (ParNode l r)) p is = λ none. cc

handed_some : (kind : Option Kind) (p : ℕ) → IsPar kind → act_of_handed kind p ≢ None
handed_some None p is = absurd is
handed_some (Some (LeafNode u)) p is = absurd is
handed_some (Some (SeqNode l r)) p is = absurd is
handed_some (Some (ParNode l r)) p is = λ none. cc

started_none : (act : Act) (call : CallState) (n start u : ℕ) → act_of_started act call n start u ≡ None → call ≡ Out
started_none (kinds.Work number) call n start u none = absurd (cc)
started_none (kinds.Call op) NotCalled n start u none = absurd (cc)
started_none (kinds.Call op) Out n start u none = refl
started_none (kinds.Call op) (Got receipt) n start u none = absurd (cc)

whole_none : (job : CoreJob) (laws : Laws job) (n : ℕ) (move : Move) → job.plan.after n ≡ move → act_of_whole job.plan move n ≡ None → move ≡ Root
whole_none job laws n Root after none = refl
whole_none job laws n (OpenSecond p) after none = let second = laws.second n p after in let some = ap (λ kind. act_of_second kind p) second.1 in absurd (cc)
whole_none job laws n (FinishParent p) after none = let parent = laws.parent n p after in let some = ap (λ kind. act_of_parent kind p) parent.1 in absurd (cc)
whole_none job laws n (Arrive p) after none = let sides = laws.arrive n p after in let some = ap (λ kind. act_of_arrive kind p n) sides.2 in absurd (cc)

pub idle_by : (job : CoreJob) (tree : Tree) (laws : Laws job) (task : Task) (call : CallState) → IsPlanOf job.plan tree → TaskHere job.plan task → call ≢ Out → next_act job task call ≡ None → task ≡ Idle
idle_by job tree laws Idle call is here free none = refl
idle_by job tree laws (Run n) call is here free none = absurd (node_is job.plan tree is n here (run_none (job.plan.kind n) n none))
idle_by job tree laws (Half p) call is here free none = absurd (half_some (job.plan.kind p) p here.1 none)
idle_by job tree laws (Started n s) call is here free none = absurd (free (started_none (job.act (leaf_of (job.plan.kind n))) call n s (leaf_of (job.plan.kind n)) none))
idle_by job tree laws (Kept n s) call is here free none = absurd (cc)
idle_by job tree laws (Ended n s e) call is here free none = absurd (cc)
idle_by job tree laws (Whole n) call is here free none = absurd (not_root job.plan tree is n here.1 here.0 (whole_none job laws n (job.plan.after n) refl none))
idle_by job tree laws (Handed p) call is here free none = absurd (handed_some (job.plan.kind p) p here.1 none)

pub none_of : {A : Type 0} (o : Option A) → IsNone o → o ≡ None
none_of None none = refl
none_of (Some a) none = absurd (cc)
