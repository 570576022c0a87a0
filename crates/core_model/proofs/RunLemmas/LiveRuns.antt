-- The runs of the live workers, where some have stopped.
use Rattle.std.proofs.Common.{ℕ, ◌≡◌, ◌≢◌, ◌<◌, ◌+◌, ◌%◌, ◌⊎◌, Bool, true, false, Option, Some, None, refl, inl, inr, subst, sym, ◌∙◌, ap}
use Rattle.core_model.proofs.Words.{IsPlan, IsPlanOf, Tree, Idle, Run, Half, Started, Kept, Ended, Handed, Event, Claim, Start, OpenParRight, OpenParLeft, OpenSeqLeft, OpenSeqRight, Post, Publish, Keep, End, FinishLeaf, FinishSeq, FinishPar, ArriveFirst, ArriveSecond, CoreJob, State, CoreState, is_done}
use Rattle.core_model.specs.Choice.{choice}
use Rattle.core_model.specs.Events.{Does, task_after}
use Rattle.core_model.specs.Invariant.{Invariant}
use Rattle.core_model.specs.LeafSources.{HasSources}
use Rattle.core_model.specs.Runs.{IsTurnOf, IsTurn}
use Rattle.core_model.specs.Stopped.{NoLiveEvent, LiveDrive, over, stuck, by_live, past_stopped}
use Rattle.core_model.proofs.ChoiceLemmas.Progress.{some_live_turn}
use Rattle.core_model.proofs.InvariantLemmas.Puts.{put_other}
use Rattle.core_model.proofs.Inductive.FromParts.{parts_carried, event_keeps_all}
use Rattle.core_model.proofs.RunLemmas.Existence.{chosen_step}
use Rattle.core_model.proofs.RunLemmas.OneRun.{one_turn}

-- an event changes the task of its own worker alone
other_task : (job : CoreJob) (s new : State) (w v : ℕ) (event : Event) → v ≢ w → Does job s w event new → new.task v ≡ s.task v
other_task job s new w v Publish other does = ap (λ (t : State). t.task v) does.2
other_task job s new w v (Claim n) other does = ap (λ (t : State). t.task v) does ∙ put_other s.task w v (Run n) other
other_task job s new w v (Start n) other does = ap (λ (t : State). t.task v) does ∙ put_other s.task w v (Started n s.tick) other
other_task job s new w v (OpenParRight p l r) other does = ap (λ (t : State). t.task v) does ∙ put_other s.task w v (Half p) other
other_task job s new w v (OpenParLeft p l r) other does = ap (λ (t : State). t.task v) does ∙ put_other s.task w v Idle other
other_task job s new w v (OpenSeqLeft p l r) other does = ap (λ (t : State). t.task v) does ∙ put_other s.task w v Idle other
other_task job s new w v (OpenSeqRight p l r) other does = ap (λ (t : State). t.task v) does ∙ put_other s.task w v Idle other
other_task job s new w v (Post n t) other does = ap (λ (t : State). t.task v) does
other_task job s new w v (Keep n t x) other does = ap (λ (t : State). t.task v) does ∙ put_other s.task w v (Kept n t) other
other_task job s new w v (End n t) other does = ap (λ (t : State). t.task v) does ∙ put_other s.task w v (Ended n t s.tick) other
other_task job s new w v (FinishLeaf n t e) other does = ap (λ (t : State). t.task v) does ∙ put_other s.task w v (task_after n) other
other_task job s new w v (FinishSeq p l r) other does = ap (λ (t : State). t.task v) does ∙ put_other s.task w v (task_after p) other
other_task job s new w v (FinishPar p l r) other does = ap (λ (t : State). t.task v) does ∙ put_other s.task w v (task_after p) other
other_task job s new w v (ArriveFirst p l r n) other does = ap (λ (t : State). t.task v) does ∙ put_other s.task w v Idle other
other_task job s new w v (ArriveSecond p l r n) other does = ap (λ (t : State). t.task v) does ∙ put_other s.task w v (Handed p) other
other_task job s new w v _ other does = ap (λ (t : State). t.task v) does

other_task_by : (job : CoreJob) (s new : CoreState) (w v : ℕ) (o : Option Event) → v ≢ w → IsTurnOf job s w o new → new.state.task v ≡ s.state.task v
other_task_by job s new w v None other turn = ap (λ (t : CoreState). t.state.task v) turn
other_task_by job s new w v (Some event) other turn = other_task job s.state new.state w v event other turn.happens.does

-- a turn keeps the invariant
kept_by : (job : CoreJob) (s new : CoreState) (w : ℕ) (o : Option Event) → IsPlan job.plan → Invariant job s → IsTurnOf job s w o new → Invariant job new
kept_by job s new w None laws h turn = subst (Invariant job) (sym turn) h
kept_by job s new w (Some event) laws h turn = event_keeps_all job s new w event laws h turn

turn_keeps : (job : CoreJob) (s new : CoreState) (w : ℕ) → IsPlan job.plan → Invariant job s → IsTurn job s w new → Invariant job new
turn_keeps job s new w laws h turn = kept_by job s new w (choice job s w) laws h turn

pub live_keeps : (job : CoreJob) (live : ℕ → Bool) (first last : CoreState) (robin : ℕ) → IsPlan job.plan → Invariant job first → LiveDrive job live first robin last → Invariant job last
live_keeps job live first last robin laws h (by_live {next = next} going on turn drives) =
    live_keeps job live next last ((robin + 1) % job.workers) laws (turn_keeps job first next robin laws h turn) drives
live_keeps job live first last robin laws h (past_stopped going off drives) = live_keeps job live first last ((robin + 1) % job.workers) laws h drives
live_keeps job live first last robin laws h _ = h

-- a turn makes no event of a live worker where none can happen
still_of : (job : CoreJob) (live : ℕ → Bool) (s new : CoreState) (w : ℕ) (o : Option Event) → NoLiveEvent job live s → live w ≡ true → IsTurnOf job s w o new → new ≡ s
still_of job live s new w None none on turn = turn
still_of job live s new w (Some event) none on turn = absurd (none w on event new turn)

stuck_stays : (job : CoreJob) (live : ℕ → Bool) (s last : CoreState) (robin : ℕ) → NoLiveEvent job live s → LiveDrive job live s robin last → last ≡ s
stuck_stays job live s last robin none (by_live {next = next} going on turn drives) =
    let same : next ≡ s = still_of job live s next robin (choice job s robin) none on turn in
    stuck_stays job live next last ((robin + 1) % job.workers) (subst (NoLiveEvent job live) (sym same) none) drives ∙ same
stuck_stays job live s last robin none (past_stopped going off drives) = stuck_stays job live s last ((robin + 1) % job.workers) none drives
stuck_stays job live s last robin none _ = refl

-- how a run of the live workers begins: it ends at once, or with a turn, or it passes one over that has stopped
abbrev Begins : CoreJob → (ℕ → Bool) → CoreState → ℕ → CoreState → Type 0
Begins job live s robin last =
    (NoLiveEvent job live s × (last ≡ s))
    ⊎ (((live robin ≡ true) × (next : CoreState) × IsTurn job s robin next × LiveDrive job live next ((robin + 1) % job.workers) last)
    ⊎ ((live robin ≡ false) × LiveDrive job live s ((robin + 1) % job.workers) last))

abbrev OverOr : CoreJob → (ℕ → Bool) → CoreState → ℕ → CoreState → Type 0
OverOr job live s robin last = ((is_done (s.state.node 0) ≡ true) × (last ≡ s)) ⊎ ((is_done (s.state.node 0) ≡ false) × Begins job live s robin last)

over_or : (job : CoreJob) (live : ℕ → Bool) (s last : CoreState) (robin : ℕ) → LiveDrive job live s robin last → OverOr job live s robin last
over_or job live s last robin (over done) = inl (done, refl)
over_or job live s last robin (stuck going none) = inr (going, inl (none, refl))
over_or job live s last robin (by_live {next = next} going on turn drives) = inr (going, inr (inl (on, next, turn, drives)))
over_or job live s last robin (past_stopped going off drives) = inr (going, inr (inr (off, drives)))

done_stays : (job : CoreJob) (live : ℕ → Bool) (s last : CoreState) (robin : ℕ) → is_done (s.state.node 0) ≡ true → LiveDrive job live s robin last → last ≡ s
done_stays job live s last robin done drives = elim (over_or job live s last robin drives) [
  | inl end ↦ end.1
  | inr on ↦ (let e = sym done ∙ on.0 in absurd cc)
]

-- so a run that has come to its end is one from any worker on
pub over_anywhere : (job : CoreJob) (live : ℕ → Bool) (s last : CoreState) (robin other : ℕ) → is_done (s.state.node 0) ≡ true → LiveDrive job live s robin last → LiveDrive job live s other last
over_anywhere job live s last robin other done drives = subst (λ (n : CoreState). LiveDrive job live s other n) (sym (done_stays job live s last robin done drives)) (over done)

begun : (job : CoreJob) (live : ℕ → Bool) (s last : CoreState) (robin : ℕ) → is_done (s.state.node 0) ≡ false → LiveDrive job live s robin last → Begins job live s robin last
begun job live s last robin going drives = elim (over_or job live s last robin drives) [
  | inl end ↦ (let e = sym end.0 ∙ going in absurd cc)
  | inr on ↦ on.1
]

pub one_live_end : (job : CoreJob) (live : ℕ → Bool) (s a b : CoreState) (robin : ℕ) → LiveDrive job live s robin a → LiveDrive job live s robin b → a ≡ b
one_live_end job live s a b robin (over done) g = sym (done_stays job live s b robin done g)
one_live_end job live s a b robin (stuck going none) g = sym (stuck_stays job live s b robin none g)
one_live_end job live s a b robin (by_live {next = next} going on turn drives) g = elim (begun job live s b robin going g) [
  | inl none ↦ stuck_stays job live s a robin none.0 (by_live going on turn drives) ∙ sym none.1
  | inr (inl more) ↦ one_live_end job live next a b ((robin + 1) % job.workers) drives
      (subst (λ (n : CoreState). LiveDrive job live n ((robin + 1) % job.workers) b) (one_turn job s robin more.1 next more.2 turn) more.3)
  | inr (inr past) ↦ (let e = sym on ∙ past.0 in absurd cc)
]
one_live_end job live s a b robin (past_stopped going off drives) g = elim (begun job live s b robin going g) [
  | inl none ↦ stuck_stays job live s a robin none.0 (past_stopped going off drives) ∙ sym none.1
  | inr (inl more) ↦ (let e = sym more.0 ∙ off in absurd cc)
  | inr (inr past) ↦ one_live_end job live s a b ((robin + 1) % job.workers) drives past.1
]

-- if the stopped workers have no task, the live ones complete the root
module _ (job : CoreJob) (tree : Tree) (laws : IsPlan job.plan) (plan : IsPlanOf job.plan tree) (sources : HasSources job) (live : ℕ → Bool) (one : ℕ) (below : one < job.workers) (on : live one ≡ true) where
  abbrev StoppedIdle : CoreState → Type 0
  StoppedIdle s = (w : ℕ) → w < job.workers → live w ≡ false → s.state.task w ≡ Idle

  idle_kept : (s new : CoreState) (w : ℕ) → live w ≡ true → IsTurn job s w new → StoppedIdle s → StoppedIdle new
  idle_kept s new w moves turn idle v among off =
      other_task_by job s new w v (choice job s w) (λ same. let e = sym off ∙ (ap live same ∙ moves) in cc) turn ∙ idle v among off

  never_stuck : (s : CoreState) → Invariant job s → is_done (s.state.node 0) ≡ false → StoppedIdle s → NoLiveEvent job live s → ⊥
  never_stuck s h going idle none =
      let some = some_live_turn job tree s live one laws sources plan (parts_carried job s.state h.parts) h.lists going below on idle in
      let step = chosen_step job laws sources s some.0 (choice job s some.0) some.1 h refl some.3 in
      none some.0 some.2 step.0 step.2 step.3

  pub live_done : (s last : CoreState) (robin : ℕ) → Invariant job s → StoppedIdle s → LiveDrive job live s robin last → is_done (last.state.node 0) ≡ true
  live_done s last robin h idle (over done) = done
  live_done s last robin h idle (stuck going none) = absurd (never_stuck s h going idle none)
  live_done s last robin h idle (by_live {next = next} going moves turn drives) =
      live_done next last ((robin + 1) % job.workers) (turn_keeps job s next robin laws h turn) (idle_kept s next robin moves turn idle) drives
  live_done s last robin h idle (past_stopped going off drives) = live_done s last ((robin + 1) % job.workers) h idle drives
