-- What a tick leaves of a pass, whether it starts a leaf or ends it.
use Rattle.std.proofs.Common.{ℕ, ◌≡◌, ◌<◌, ◌∙◌, Option, None, Some, List, refl, sym, ap, subst}
use Rattle.core_model.specs.State.{CoreJob}
use Rattle.core_model.specs.Next.{next_act}
use Rattle.core_model.specs.declared.next.Next.{Next}
use Rattle.core_model.specs.declared.next.Next.TheVariants as acts
use Rattle.table_rule.specs.CoreWords.{Event, Task, Run, Started, Kept, Ended, Start, End}
use Rattle.table_rule.specs.declared.slot.Slot.{Slot}
use Rattle.table_rule.specs.declared.view.View.{View}
use Rattle.table_rule.specs.DueActs.{IsTickDue}
use Rattle.table_rule.specs.Laws.{Laws}
use Rattle.table_rule.specs.Plays.{SeatState}
use Rattle.table_rule.specs.Tasks.{TaskHere, IsNext, job_seen_with, most_ticks}
use Rattle.table_rule.specs.Passes.{with_task}
use Rattle.table_rule.specs.Views.{with_step}
use Rattle.table_rule.proofs.StepLemmas.NextActs.{next_stands, next_seen}

module _ (job : CoreJob) (laws : Laws job) (v : View) (xs : List (ℕ × Slot)) (tick : ℕ) (m : SeatState) (was task : Task) (known : job_seen_with job.work v ≡ job) where
  -- the seat has one event more and this task, which the table may have
  abbrev IsTicked : Type 0
  IsTicked = (event : Event) × (m ≡ (with_step (with_task event task) v, xs)) × TaskHere job.plan task

  abbrev Starts : Type 0
  Starts = (n leaf : ℕ) → IsNext v (acts.Start n leaf) → m ≡ (with_step (with_task (Start n) (Started n tick)) v, xs)

  abbrev Ends : Type 0
  Ends = (n start : ℕ) → IsNext v (acts.End n start) → m ≡ (with_step (with_task (End n start) (Ended n start tick)) v, xs)

  ticks_by : (o : Option Next) → TaskHere job.plan v.own.task → next_act job v.own.task v.own.call ≡ o → IsTickDue o → v.own.task ≡ was → tick < most_ticks → Starts → Ends
      → ((n : ℕ) → was ≡ Run n → task ≡ Started n tick) → ((n start : ℕ) → was ≡ Kept n start → task ≡ Ended n start tick) → IsTicked
  ticks_by (Some (acts.Start n leaf)) here due is at low starts ends started ended =
      let stands = next_stands job laws v.own.call v.own.task (acts.Start n leaf) here due in
      let after = started n (sym at ∙ stands.0) in
      let told = starts n leaf (next_seen job v (acts.Start n leaf) known due) in
      let below : n < job.plan.count = subst (TaskHere job.plan) stands.0 here in
      (Start n, told ∙ ap (λ (y : Task). (with_step (with_task (Start n) y) v, xs)) (sym after), subst (TaskHere job.plan) (sym after) (below, low, stands.1))
  ticks_by (Some (acts.End n start)) here due is at low starts ends started ended =
      let stands = next_stands job laws v.own.call v.own.task (acts.End n start) here due in
      let after = ended n start (sym at ∙ stands) in
      let told = ends n start (next_seen job v (acts.End n start) known due) in
      let kept : (n < job.plan.count) × (start < most_ticks) = subst (TaskHere job.plan) stands here in
      (End n start, told ∙ ap (λ (y : Task). (with_step (with_task (End n start) y) v, xs)) (sym after), subst (TaskHere job.plan) (sym after) (kept.0, kept.1, low))
  ticks_by None here due is at low starts ends started ended = absurd is
  ticks_by (Some (acts.Open n y event)) here due is at low starts ends started ended = absurd is
  ticks_by (Some (acts.Spin n start leaf steps)) here due is at low starts ends started ended = absurd is
  ticks_by (Some (acts.Call n start leaf op)) here due is at low starts ends started ended = absurd is
  ticks_by (Some (acts.Got n start reply)) here due is at low starts ends started ended = absurd is
  ticks_by (Some (acts.Finish n event)) here due is at low starts ends started ended = absurd is
  ticks_by (Some (acts.Arrive p l r n)) here due is at low starts ends started ended = absurd is

  pub ticks : TaskHere job.plan v.own.task → IsTickDue (next_act job v.own.task v.own.call) → v.own.task ≡ was → (tick < most_ticks) × Starts × Ends
      → ((n : ℕ) → was ≡ Run n → task ≡ Started n tick) → ((n start : ℕ) → was ≡ Kept n start → task ≡ Ended n start tick) → IsTicked
  ticks here due at told started ended = ticks_by (next_act job v.own.task v.own.call) here refl due at told.0 told.1 told.2 started ended
