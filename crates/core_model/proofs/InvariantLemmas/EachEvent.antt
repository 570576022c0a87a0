-- Each event keeps the inductive invariant.
use Rattle.std.proofs.Common.{ℕ, subst, sym}
use Rattle.core_model.proofs.Words.{IsPlan, Event, Claim, Start, OpenParRight, OpenParLeft, OpenSeqLeft, OpenSeqRight, Post, Win, Take, Publish, Answer, Release, Leave, Keep, End, FinishLeaf, FinishSeq, FinishPar, ArriveFirst, ArriveSecond, CoreJob, State}
use Rattle.core_model.specs.Events.{Happens}
use Rattle.core_model.proofs.Inductive.Parts.{InductiveParts}
use Rattle.core_model.proofs.InvariantLemmas.Claim.{claim_keeps}
use Rattle.core_model.proofs.InvariantLemmas.Leaf.{start_keeps, end_keeps}
use Rattle.core_model.proofs.InvariantLemmas.Value.{keep_keeps}
use Rattle.core_model.proofs.InvariantLemmas.Open as opens
use Rattle.core_model.proofs.InvariantLemmas.Finish as finishes
use Rattle.core_model.proofs.InvariantLemmas.Arrive as arrivals
use Rattle.core_model.proofs.InvariantLemmas.Gate.{post_keeps, win_keeps, take_keeps, answer_keeps, release_keeps, leave_keeps}
use Rattle.core_model.proofs.InvariantLemmas.Publish.{publish_keeps}

-- row by row
pub event_keeps : (job : CoreJob) (s new : State) (w : ℕ) (event : Event) → IsPlan job.plan → InductiveParts job s → Happens job s w event new → InductiveParts job new
event_keeps job s new w (Claim n) laws h go = subst (InductiveParts job) (sym go.does) (claim_keeps job s w n laws go.worker_in h go.needs)
event_keeps job s new w (Start n) laws h go = subst (InductiveParts job) (sym go.does) (start_keeps job s w n laws go.worker_in h go.needs)
event_keeps job s new w (OpenParRight p l r) laws h go = subst (InductiveParts job) (sym go.does) (opens.open_right_keeps job s w laws go.worker_in h p l r go.needs)
event_keeps job s new w (OpenParLeft p l r) laws h go = subst (InductiveParts job) (sym go.does) (opens.open_left_keeps job s w laws go.worker_in h p l r go.needs)
event_keeps job s new w (OpenSeqLeft p l r) laws h go = subst (InductiveParts job) (sym go.does) (opens.open_first_keeps job s w laws go.worker_in h p l r go.needs)
event_keeps job s new w (OpenSeqRight p l r) laws h go = subst (InductiveParts job) (sym go.does) (opens.open_second_keeps job s w laws go.worker_in h p l r go.needs)
event_keeps job s new w (Post n t) laws h go = subst (InductiveParts job) (sym go.does) (post_keeps job s w n t h go.needs)
event_keeps job s new w Win laws h go = subst (InductiveParts job) (sym go.does) (win_keeps job s w h go.needs)
event_keeps job s new w (Take u) laws h go = subst (InductiveParts job) (sym go.does) (take_keeps job s w u h go.needs)
event_keeps job s new w Publish laws h go = subst (InductiveParts job) (sym go.does.2) (publish_keeps job s w go.does.0 laws h go.needs go.does.1)
event_keeps job s new w (Answer u r) laws h go = subst (InductiveParts job) (sym go.does) (answer_keeps job s w u r h go.needs)
event_keeps job s new w Release laws h go = subst (InductiveParts job) (sym go.does) (release_keeps job s w h go.needs)
event_keeps job s new w (Leave r) laws h go = subst (InductiveParts job) (sym go.does) (leave_keeps job s w r h go.needs)
event_keeps job s new w (Keep n t v) laws h go = subst (InductiveParts job) (sym go.does) (keep_keeps job s w n t v laws go.worker_in h go.needs)
event_keeps job s new w (End n t) laws h go = subst (InductiveParts job) (sym go.does) (end_keeps job s w n t laws go.worker_in h go.needs)
event_keeps job s new w (FinishLeaf n t e) laws h go = subst (InductiveParts job) (sym go.does) (finishes.leaf_keeps job s w laws go.worker_in h n t e go.needs)
event_keeps job s new w (FinishSeq p l r) laws h go = subst (InductiveParts job) (sym go.does) (finishes.seq_keeps job s w laws go.worker_in h p l r go.needs)
event_keeps job s new w (FinishPar p l r) laws h go = subst (InductiveParts job) (sym go.does) (finishes.par_keeps job s w laws go.worker_in h p l r go.needs)
event_keeps job s new w (ArriveFirst p l r n) laws h go = subst (InductiveParts job) (sym go.does) (arrivals.arrive_first_keeps job s w laws go.worker_in h p l r n go.needs)
event_keeps job s new w (ArriveSecond p l r n) laws h go = subst (InductiveParts job) (sym go.does) (arrivals.arrive_second_keeps job s w laws go.worker_in h p l r n go.needs)
