-- The choice of a worker that is not trapped, row by row: the event that each task asks for, with what the plan, the
-- act and the marks say.
use Rattle.std.proofs.Common.{ℕ, ◌≡◌, ◌≢◌, Some, None, refl, ap, arith}
use Rattle.std.proofs.lemmas.Bool.Decides.{nat_tests}
use Rattle.core_model.proofs.Words.{Work, Call, LeafNode, SeqNode, ParNode, Root, OpenSecond, FinishParent, Arrive, Run, Half, Started, Kept, Ended, Whole, Handed, NotCalled, Out, Got, Receipt, Op, Start, OpenParRight, OpenParLeft, OpenSeqLeft, OpenSeqRight, Post, Keep, End, FinishLeaf, FinishSeq, FinishPar, ArriveFirst, ArriveSecond, CoreJob, CoreState}
use Rattle.core_model.specs.Operations.{leaf_of}
use Rattle.core_model.specs.Choice.{choice_free, event_if}
use Rattle.core_model.specs.Next.{act_of_started, worked}
use Rattle.seq_objects.specs.Objects.{value_of}

module _ (job : CoreJob) (s : CoreState) (w : ℕ) where
  leaf_starts : (n leaf : ℕ) → job.plan.kind n ≡ Some (LeafNode leaf) → choice_free job s w (Run n) ≡ Some (Start n)
  leaf_starts n leaf kind = rw kind refl

  series_opens : (n l r : ℕ) → job.plan.kind n ≡ Some (SeqNode l r) → choice_free job s w (Run n) ≡ Some (OpenSeqLeft n l r)
  series_opens n l r kind = rw kind refl

  parallel_opens : (n l r : ℕ) → job.plan.kind n ≡ Some (ParNode l r) → choice_free job s w (Run n) ≡ Some (OpenParRight n l r)
  parallel_opens n l r kind = rw kind refl

  half_opens : (p l r : ℕ) → job.plan.kind p ≡ Some (ParNode l r) → choice_free job s w (Half p) ≡ Some (OpenParLeft p l r)
  half_opens p l r kind = rw kind refl

  work_is_kept : (n start steps : ℕ) → job.act (leaf_of (job.plan.kind n)) ≡ Work steps → choice_free job s w (Started n start) ≡ Some (Keep n start (worked job s.state.book n))
  work_is_kept n start steps act =
      ap (λ a. event_if job s.state (act_of_started a (s.state.call w) n start (leaf_of (job.plan.kind n)))) act

  call_is_posted : (n start : ℕ) (op : Op) → job.act (leaf_of (job.plan.kind n)) ≡ Call op → s.state.call w ≡ NotCalled → choice_free job s w (Started n start) ≡ Some (Post n start)
  call_is_posted n start op act call = rw (act, call) refl

  call_is_out : (n start : ℕ) (op : Op) → job.act (leaf_of (job.plan.kind n)) ≡ Call op → s.state.call w ≡ Out → choice_free job s w (Started n start) ≡ None
  call_is_out n start op act call = rw (act, call) refl

  reply_is_kept : (n start : ℕ) (op : Op) (receipt : Receipt) → job.act (leaf_of (job.plan.kind n)) ≡ Call op → s.state.call w ≡ Got receipt
      → choice_free job s w (Started n start) ≡ Some (Keep n start (value_of receipt.reply))
  reply_is_kept n start op receipt act call = rw (act, call) refl

  leaf_ends : (n start : ℕ) → choice_free job s w (Kept n start) ≡ Some (End n start)
  leaf_ends n start = refl

  leaf_is_done : (n start end : ℕ) → choice_free job s w (Ended n start end) ≡ Some (FinishLeaf n start end)
  leaf_is_done n start end = refl

  root_is_done : (n : ℕ) → job.plan.after n ≡ Root → choice_free job s w (Whole n) ≡ None
  root_is_done n after = rw after refl

  right_opens : (n p l r : ℕ) → job.plan.after n ≡ OpenSecond p → job.plan.kind p ≡ Some (SeqNode l r) → choice_free job s w (Whole n) ≡ Some (OpenSeqRight p l r)
  right_opens n p l r after kind = rw (after, kind) refl

  series_is_done : (n p l r : ℕ) → job.plan.after n ≡ FinishParent p → job.plan.kind p ≡ Some (SeqNode l r) → choice_free job s w (Whole n) ≡ Some (FinishSeq p l r)
  series_is_done n p l r after kind = rw (after, kind) refl

  first_arrives : (n p l r : ℕ) → job.plan.after n ≡ Arrive p → job.plan.kind p ≡ Some (ParNode l r) → s.state.mark p ≡ 0 → choice_free job s w (Whole n) ≡ Some (ArriveFirst p l r n)
  first_arrives n p l r after kind mark = rw (after, kind, mark) refl

  second_arrives : (n p l r : ℕ) → job.plan.after n ≡ Arrive p → job.plan.kind p ≡ Some (ParNode l r) → s.state.mark p ≢ 0 → choice_free job s w (Whole n) ≡ Some (ArriveSecond p l r n)
  second_arrives n p l r after kind mark = rw (after, kind) (grind (arith, nat_tests))

  parallel_is_done : (p l r : ℕ) → job.plan.kind p ≡ Some (ParNode l r) → choice_free job s w (Handed p) ≡ Some (FinishPar p l r)
  parallel_is_done p l r kind = rw kind refl
