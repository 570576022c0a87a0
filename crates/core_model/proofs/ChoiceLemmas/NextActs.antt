-- The next act of a worker that is not trapped: it is an event whose needs are met.
use Rattle.std.proofs.Common.{ℕ, ◌≡◌, ◌≢◌, ◌<◌, ◌+◌, ◌==◌, ◌⊎◌, Bool, true, false, if◌then◌else◌, Option, Some, None, arith, refl, inl, inr, ap, ◌∙◌, eqb-true}
use Rattle.std.specs.Prelude.{unwrap_or}
use Rattle.std.proofs.lemmas.Bool.{cases_eq}
use Rattle.std.proofs.lemmas.Bool.Decides.{nat_tests}
use Rattle.core_model.proofs.Words.{Act, Work, Call, Kind, LeafNode, SeqNode, ParNode, Move, Root, OpenSecond, FinishParent, Arrive as ArriveAt, IsPlan, IsSide, HasSide, parent_of, Task, Idle, Run, Half, Started, Kept, Ended, Whole, Handed, Free, CallState, NotCalled, Out, Got, Event, ArriveFirst, ArriveSecond, CoreJob, State, is_done, names}
use Rattle.core_model.specs.LeafSources.{HasSources}
use Rattle.core_model.specs.Operations.{leaf_of, op_in, value_under}
use Rattle.core_model.specs.Invariant.Tasks.{TaskFits}
use Rattle.core_model.specs.Events.{Does, Needs, an_arrive, kind_of, value_in}
use Rattle.core_model.specs.Invariant.Statuses.{is_taken_by}
use Rattle.core_model.specs.Next.{act_of_arrive, act_of_handed, act_of_half, act_of_parent, act_of_run, act_of_second, act_of_started, act_of_whole, next_act, worked, IsNextEvent}
use Rattle.core_model.specs.declared.next.Next.{Next}
use Rattle.core_model.proofs.Inductive.Nodes.{passed_if}
use Rattle.core_model.proofs.Inductive.Parts.{InductiveParts}
use Rattle.core_model.proofs.BookLemmas.Sources.{work_valued}
use Rattle.core_model.proofs.ChoiceLemmas.Search.{if_both}
use Rattle.core_model.proofs.InvariantLemmas.Puts.{put_at}
use Rattle.core_model.proofs.InvariantLemmas.StatusRows.{not_out}

-- there is an act, and it is an event of the worker
abbrev pub Acts : CoreJob → State → ℕ → Option Next → Type 0
Acts job s w None = ⊥
Acts job s w (Some act) = IsNextEvent job s w act

pub low_mark : (a b : Bool) (o q : Option ℕ) (k : ℕ) → k ≡ passed_if a o + passed_if b q → (o ≢ None) ⊎ (q ≢ None) → k ≢ 0 → k ≡ 1
low_mark a b o q k e held some = grind arith

pub held_at : (holder : ℕ → Option ℕ) (n l r w : ℕ) → (n ≡ l) ⊎ (n ≡ r) → holder n ≡ Some w → (holder l ≢ None) ⊎ (holder r ≢ None)
held_at holder n l r w which e = grind arith

-- a side that is to arrive is the first or the second
pub mark_low : (job : CoreJob) (s : State) (w p l r n : ℕ) → IsPlan job.plan → InductiveParts job s → s.task w ≡ Whole n → job.plan.kind p ≡ Some (ParNode l r) → IsSide job.plan p n → s.mark p < 2
mark_low job s w p l r n laws h mine kind side =
    let which : (n ≡ l) ⊎ (n ≡ r) = rw kind at (laws.has_side p n side) in
    let held = held_at h.holder n l r w which (h.tasks.holders.named w n (ap names mine)) in
    elim (cases_eq (s.mark p) 0) [
      | inl zero ↦ omega (arith, zero)
      | inr some ↦ let one = low_mark (is_done (s.node l)) (is_done (s.node r)) (h.holder l) (h.holder r) (s.mark p) (h.tasks.marks p l r kind) held some in omega (arith, one)
    ]

module _ (job : CoreJob) (s : State) (w : ℕ) (laws : IsPlan job.plan) (sources : HasSources job) (h : InductiveParts job s) (free : s.status w ≡ Free) where
  run_acts : (n : ℕ) (k : Option Kind) → s.task w ≡ Run n → job.plan.kind n ≡ k → k ≢ None → Acts job s w (act_of_run k n)
  run_acts n (Some (LeafNode u)) mine kind inside = record {
    needs = (free, mine, (u, kind));
    kind = refl;
    leaves = λ new does. ap (λ (t : State). t.task w) does ∙ put_at s.task w w _ refl;
  }
  run_acts n (Some (SeqNode l r)) mine kind inside = record {
    needs = (free, mine, kind);
    kind = refl;
    leaves = λ new does. ap (λ (t : State). t.task w) does ∙ put_at s.task w w _ refl;
  }
  run_acts n (Some (ParNode l r)) mine kind inside = record {
    needs = (free, mine, kind);
    kind = refl;
    leaves = λ new does. ap (λ (t : State). t.task w) does ∙ put_at s.task w w _ refl;
  }
  run_acts n None mine kind inside = absurd (inside refl)

  half_acts : (p l r : ℕ) → s.task w ≡ Half p → job.plan.kind p ≡ Some (ParNode l r) → Acts job s w (act_of_half (job.plan.kind p) p)
  half_acts p l r mine kind = rw kind (record {
    needs = (free, mine, kind);
    kind = refl;
    leaves = λ new does. ap (λ (t : State). t.task w) does ∙ put_at s.task w w _ refl;
  })

  worked_is : (x : Option ℕ) (v : ℕ) → x ≡ Some v → x ≡ Some (unwrap_or x 0)
  worked_is None v is = absurd cc
  worked_is (Some v) other is = refl

  -- a started leaf of work has its value
  worked_there : (n t k : ℕ) → s.task w ≡ Started n t → job.act (leaf_of (job.plan.kind n)) ≡ Work k
      → value_under job s.book (leaf_of (job.plan.kind n)) ≡ Some (worked job s.book n)
  worked_there n t k mine act =
      let fits : TaskFits job.plan s.node s.mark (Started n t) = rw mine at (h.tasks.fits w) in
      let leaf = fits.0 in
      let kind : job.plan.kind n ≡ Some (LeafNode (leaf_of (job.plan.kind n))) = rw leaf.1 refl in
      let value = work_valued job s sources h w n t (leaf_of (job.plan.kind n)) k mine kind act in
      worked_is (value_under job s.book (leaf_of (job.plan.kind n))) value.0 value.1

  started_acts : (n t : ℕ) (a : Act) (c : CallState) → s.task w ≡ Started n t → job.act (leaf_of (job.plan.kind n)) ≡ a → s.call w ≡ c → c ≢ Out
      → Acts job s w (act_of_started a c n t (leaf_of (job.plan.kind n)))
  started_acts n t (Work k) c mine act call out = record {
    needs = (
      free,
      mine,
      ap (λ (x : Act). value_in x (value_under job s.book (leaf_of (job.plan.kind n))) (s.call w)) act ∙ worked_there n t k mine act,
    );
    kind = refl;
    leaves = λ new does. ap (λ (t : State). t.task w) does ∙ put_at s.task w w _ refl;
  }
  started_acts n t (Call op) NotCalled mine act call out = record {
    needs = (free, mine, (λ e. let f = ap op_in act in cc), call);
    kind = refl;
    leaves = λ new does. ap (λ (t : State). t.task w) does ∙ mine;
  }
  started_acts n t (Call op) Out mine act call out = absurd (out refl)
  started_acts n t (Call op) (Got receipt) mine act call out = record {
    needs = (free, mine, rw (act, call) refl);
    kind = refl;
    leaves = λ new does. ap (λ (t : State). t.task w) does ∙ put_at s.task w w _ refl;
  }

  second_acts : (p n : ℕ) (k : Option Kind) → s.task w ≡ Whole n → job.plan.kind p ≡ k → job.plan.after n ≡ OpenSecond p → HasSide k n → Acts job s w (act_of_second k p)
  second_acts p n None mine kind after which = absurd which
  second_acts p n (Some (LeafNode u)) mine kind after which = absurd which
  second_acts p n (Some (SeqNode l r)) mine kind after (inl e) = record {
    needs = (free, rw (← e) mine, kind);
    kind = refl;
    leaves = λ new does. ap (λ (t : State). t.task w) does ∙ put_at s.task w w _ refl;
  }
  second_acts p n (Some (SeqNode l r)) mine kind after (inr e) = let f = laws.right_of_seq p l r kind in absurd cc
  second_acts p n (Some (ParNode l r)) mine kind after (inl e) = let f = laws.left_of_par p l r kind in absurd cc
  second_acts p n (Some (ParNode l r)) mine kind after (inr e) = let f = laws.right_of_par p l r kind in absurd cc

  parent_acts : (p n : ℕ) (k : Option Kind) → s.task w ≡ Whole n → job.plan.kind p ≡ k → job.plan.after n ≡ FinishParent p → HasSide k n → Acts job s w (act_of_parent k p)
  parent_acts p n None mine kind after which = absurd which
  parent_acts p n (Some (LeafNode u)) mine kind after which = absurd which
  parent_acts p n (Some (SeqNode l r)) mine kind after (inr e) = record {
    needs = (free, rw (← e) mine, kind);
    kind = refl;
    leaves = λ new does. ap (λ (t : State). t.task w) does ∙ put_at s.task w w _ refl;
  }
  parent_acts p n (Some (SeqNode l r)) mine kind after (inl e) = let f = laws.left_of_seq p l r kind in absurd cc
  parent_acts p n (Some (ParNode l r)) mine kind after (inl e) = let f = laws.left_of_par p l r kind in absurd cc
  parent_acts p n (Some (ParNode l r)) mine kind after (inr e) = let f = laws.right_of_par p l r kind in absurd cc

  arrive_leaves : (p l r n : ℕ) (first : Bool) (new : State) → Does job s w (if first then ArriveFirst p l r n else ArriveSecond p l r n) new → new.task w ≡ (if first then Idle else Handed p)
  arrive_leaves p l r n true new does = ap (λ (t : State). t.task w) does ∙ put_at s.task w w _ refl
  arrive_leaves p l r n false new does = ap (λ (t : State). t.task w) does ∙ put_at s.task w w _ refl

  arrive_acts : (p n : ℕ) (k : Option Kind) → s.task w ≡ Whole n → job.plan.kind p ≡ k → job.plan.after n ≡ ArriveAt p → HasSide k n
      → Acts job s w (act_of_arrive k p n)
  arrive_acts p n None mine kind after which = absurd which
  arrive_acts p n (Some (LeafNode u)) mine kind after which = absurd which
  arrive_acts p n (Some (SeqNode l r)) mine kind after (inl e) = let f = laws.left_of_seq p l r kind in absurd cc
  arrive_acts p n (Some (SeqNode l r)) mine kind after (inr e) = let f = laws.right_of_seq p l r kind in absurd cc
  arrive_acts p n (Some (ParNode l r)) mine kind after which =
      let side : IsSide job.plan p n = rw after refl in record {
        needs = if_both (Needs job s w) (s.mark p == 0) (ArriveFirst p l r n) (ArriveSecond p l r n)
            (λ e. (free, mine, kind, side, eqb-true (s.mark p) 0 e))
            (λ e. (
              free,
              mine,
              kind,
              side,
              low_mark (is_done (s.node l)) (is_done (s.node r)) (h.holder l) (h.holder r) (s.mark p) (h.tasks.marks p l r kind)
                  (held_at h.holder n l r w which (h.tasks.holders.named w n (rw mine refl))) (grind (arith, nat_tests)),
            ));
        kind = if_both (λ (event : Event). kind_of event ≡ an_arrive) (s.mark p == 0) (ArriveFirst p l r n) (ArriveSecond p l r n) (λ e. refl) (λ e. refl);
        leaves = arrive_leaves p l r n (s.mark p == 0);
      }

  whole_acts : (n p : ℕ) (m : Move) → s.task w ≡ Whole n → job.plan.after n ≡ m → parent_of m ≡ Some p → IsSide job.plan p n → Acts job s w (act_of_whole job.plan m n)
  whole_acts n p Root mine after parent side = absurd (grind arith)
  whole_acts n p (OpenSecond q) mine after parent side = second_acts q n (job.plan.kind q) mine refl after (laws.has_side q n (rw after refl))
  whole_acts n p (FinishParent q) mine after parent side = parent_acts q n (job.plan.kind q) mine refl after (laws.has_side q n (rw after refl))
  whole_acts n p (ArriveAt q) mine after parent side = arrive_acts q n (job.plan.kind q) mine refl after (laws.has_side q n (rw after refl))

  handed_acts : (p l r : ℕ) → s.task w ≡ Handed p → job.plan.kind p ≡ Some (ParNode l r) → Acts job s w (act_of_handed (job.plan.kind p) p)
  handed_acts p l r mine kind = rw kind (record {
    needs = (free, mine, kind);
    kind = refl;
    leaves = λ new does. ap (λ (t : State). t.task w) does ∙ put_at s.task w w _ refl;
  })

  -- a worker that has a task has a next act
  pub task_acts : (t : Task) → s.task w ≡ t → t ≢ Idle → TaskFits job.plan s.node s.mark t → Acts job s w (next_act job t (s.call w))
  task_acts Idle mine busy fits = absurd (busy refl)
  task_acts (Run n) mine busy fits = run_acts n (job.plan.kind n) mine refl (λ out. let f = h.nodes.outside n out in let g = fits.0 in cc)
  task_acts (Half p) mine busy fits = half_acts p fits.0 fits.1 mine fits.2
  task_acts (Started n t) mine busy fits = started_acts n t (job.act (leaf_of (job.plan.kind n))) (s.call w) mine refl refl (not_out job s.book (s.task w) (s.status w) (s.call w) (is_taken_by s.hold w) free (h.statuses w))
  task_acts (Kept n t) mine busy fits = record {
    needs = (free, mine);
    kind = refl;
    leaves = λ new does. ap (λ (t : State). t.task w) does ∙ put_at s.task w w _ refl;
  }
  task_acts (Ended n t e) mine busy fits = record {
    needs = (free, mine);
    kind = refl;
    leaves = λ new does. ap (λ (t : State). t.task w) does ∙ put_at s.task w w _ refl;
  }
  task_acts (Whole n) mine busy fits = whole_acts n fits.1 (job.plan.after n) mine refl fits.2 fits.2
  task_acts (Handed p) mine busy fits = handed_acts p fits.0 fits.1 mine fits.2

-- what there is of an act that is there
pub acts_of : (job : CoreJob) (s : State) (w : ℕ) (act : Next) (o : Option Next) → o ≡ Some act → Acts job s w o → IsNextEvent job s w act
acts_of job s w act o is acts = rw is at acts

pub acts_some : (job : CoreJob) (s : State) (w : ℕ) (o : Option Next) → Acts job s w o → o ≢ None
acts_some job s w None acts is = acts
acts_some job s w (Some act) acts is = cc

some_busy : (job : CoreJob) (t : Task) (call : CallState) (act : Next) → next_act job t call ≡ Some act → t ≢ Idle
some_busy job t call act is idle = let none : next_act job t call ≡ None = rw idle refl in cc

pub next_acts : (job : CoreJob) (s : State) (w : ℕ) (act : Next) → IsPlan job.plan → HasSources job → InductiveParts job s → s.status w ≡ Free → next_act job (s.task w) (s.call w) ≡ Some act → IsNextEvent job s w act
next_acts job s w act laws sources h free is =
    acts_of job s w act (next_act job (s.task w) (s.call w)) is (task_acts job s w laws sources h free (s.task w) refl (some_busy job (s.task w) (s.call w) act is) (h.tasks.fits w))
