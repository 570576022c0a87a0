-- The next act that works: the leaf that it is for, and what this leaf computes.
use Rattle.std.proofs.Common.{ℕ, ◌≡◌, Option, Some, None, refl, sym, ap, ◌∙◌}
use Rattle.std.specs.Prelude.{unwrap_or}
use Rattle.std.specs.Option.{option_map}
use Rattle.core_model.proofs.Words.{Act, Work, Call, Kind, LeafNode, SeqNode, ParNode, Move, Root, OpenSecond, FinishParent, Arrive, Nodes, Task, Idle, Run, Half, Started, Kept, Ended, Whole, Handed, CallState, NotCalled, Out, Got, CoreJob, State}
use Rattle.core_model.specs.LeafSources.{HasSources}
use Rattle.core_model.specs.Operations.{leaf_of, number_from, value_from, value_under}
use Rattle.core_model.specs.Invariant.Tasks.{TaskFits}
use Rattle.core_model.specs.Next.{act_of_arrive, act_of_handed, act_of_half, act_of_parent, act_of_run, act_of_second, act_of_started, act_of_whole, next_act, worked}
use Rattle.core_model.specs.declared.next.Next.{Next}
use Rattle.core_model.specs.declared.next.Next.TheVariants as acts
use Rattle.core_model.proofs.Inductive.Parts.{InductiveParts}
use Rattle.core_model.proofs.BookLemmas.Sources.{work_valued}

-- the act is that of a leaf at a node, which has started and works
abbrev Works : CoreJob → Task → ℕ → ℕ → ℕ → ℕ → Type 0
Works job task n start leaf steps = (task ≡ Started n start) × (leaf ≡ leaf_of (job.plan.kind n)) × (job.act leaf ≡ Work steps)

module _ (n start leaf steps : ℕ) where
  abbrev IsNot : Option Next → Type 0
  IsNot act = act ≡ Some (acts.Spin n start leaf steps) → ⊥

  run_other : (kind : Option Kind) (m : ℕ) → IsNot (act_of_run kind m)
  run_other None m is = cc
  run_other (Some (LeafNode u)) m is = cc
  run_other (Some (SeqNode l r)) m is = cc
  run_other (Some (ParNode l r)) m is = cc

  half_other : (kind : Option Kind) (p : ℕ) → IsNot (act_of_half kind p)
  half_other (Some (ParNode l r)) p is = cc
  half_other _ p is = cc

  second_other : (kind : Option Kind) (p : ℕ) → IsNot (act_of_second kind p)
  second_other (Some (SeqNode l r)) p is = cc
  second_other _ p is = cc

  parent_other : (kind : Option Kind) (p : ℕ) → IsNot (act_of_parent kind p)
  parent_other (Some (SeqNode l r)) p is = cc
  parent_other _ p is = cc

  arrive_other : (kind : Option Kind) (p m : ℕ) → IsNot (act_of_arrive kind p m)
  arrive_other (Some (ParNode l r)) p m is = cc
  arrive_other _ p m is = cc

  handed_other : (kind : Option Kind) (p : ℕ) → IsNot (act_of_handed kind p)
  handed_other (Some (ParNode l r)) p is = cc
  handed_other _ p is = cc

  whole_other : (plan : Nodes) (move : Move) (m : ℕ) → IsNot (act_of_whole plan move m)
  whole_other plan Root m is = cc
  whole_other plan (OpenSecond p) m is = second_other (plan.kind p) p is
  whole_other plan (FinishParent p) m is = parent_other (plan.kind p) p is
  whole_other plan (Arrive p) m is = arrive_other (plan.kind p) p m is

  started_works : (job : CoreJob) (m at : ℕ) (act : Act) (call : CallState) → job.act (leaf_of (job.plan.kind m)) ≡ act
      → act_of_started act call m at (leaf_of (job.plan.kind m)) ≡ Some (acts.Spin n start leaf steps) → Works job (Started m at) n start leaf steps
  started_works job m at (Work k) call does is =
      let node : m ≡ n = cc in
      let since : at ≡ start = cc in
      let leaf_is : leaf_of (job.plan.kind m) ≡ leaf = cc in
      let steps_are : k ≡ steps = cc in (
        ap (λ (x : ℕ). Started x at) node ∙ ap (λ (x : ℕ). Started n x) since,
        sym leaf_is ∙ ap (λ (x : ℕ). leaf_of (job.plan.kind x)) node,
        ap job.act (sym leaf_is) ∙ does ∙ ap Work steps_are,
      )
  started_works job m at (Call op) NotCalled does is = absurd cc
  started_works job m at (Call op) Out does is = absurd cc
  started_works job m at (Call op) (Got receipt) does is = absurd cc

  -- what the next act that works is for
  pub works : (job : CoreJob) (task : Task) (call : CallState) → next_act job task call ≡ Some (acts.Spin n start leaf steps) → Works job task n start leaf steps
  works job Idle call is = absurd cc
  works job (Run m) call is = absurd (run_other (job.plan.kind m) m is)
  works job (Half p) call is = absurd (half_other (job.plan.kind p) p is)
  works job (Started m at) call is = started_works job m at (job.act (leaf_of (job.plan.kind m))) call refl is
  works job (Kept m at) call is = absurd cc
  works job (Ended m at end) call is = absurd cc
  works job (Whole m) call is = absurd (whole_other job.plan (job.plan.after m) m is)
  works job (Handed p) call is = absurd (handed_other (job.plan.kind p) p is)

computed : (work : ℕ → ℕ) (number : Option ℕ) (v : ℕ) → option_map work number ≡ Some v → (k : ℕ) × ((number ≡ Some k) × (v ≡ work k))
computed work None v is = absurd cc
computed work (Some k) v is = let same : work k ≡ v = cc in (k, (refl, sym same))

-- the leaf has a number under the book, and computes its value from this
pub works_on : (job : CoreJob) (s : State) → HasSources job → InductiveParts job s → (w n start leaf steps : ℕ) → next_act job (s.task w) (s.call w) ≡ Some (acts.Spin n start leaf steps)
    → (number : ℕ) × (number_from s.book steps (job.source leaf) ≡ Some number) × (worked job s.book n ≡ job.work number)
works_on job s sources h w n start leaf steps is =
    let (task, leaf_is, act) = works n start leaf steps job (s.task w) (s.call w) is in
    let fits : TaskFits job.plan s.node s.mark (Started n start) = rw task at (h.tasks.fits w) in
    let kind : job.plan.kind n ≡ Some (LeafNode leaf) = fits.0.1 ∙ ap (λ (u : ℕ). Some (LeafNode u)) (sym (ap leaf_of fits.0.1) ∙ sym leaf_is) in
    let value = work_valued job s sources h w n start leaf steps task kind act in
    let on = computed job.work (number_from s.book steps (job.source leaf)) value.0 (sym (ap (λ (a : Act). value_from job.work s.book a (job.source leaf) leaf) act) ∙ value.1) in
    (on.0, on.1.0, ap (λ (u : ℕ). unwrap_or (value_under job s.book u) 0) (sym leaf_is) ∙ (ap (λ (x : Option ℕ). unwrap_or x 0) value.1 ∙ on.1.1))
