-- What a table is made for, and when a pass belongs to a table.
use Rattle.std.specs.Prelude.{ℕ, ◌≡◌, ◌≢◌, ◌<◌, ◌≤◌, ◌+◌, Bool, List, Option, None, Some, true, IfSome, slice_get}
use mathlib.Core.Option.{some}
use lib.ListN.{get_elem?}
use Rattle.atomic_table.specs.Seated.{TableId}
use Rattle.atomic_table.specs.declared.shared.Seat.{Seat}
use Rattle.sp_order.specs.Jobs.{JobValue}
use Rattle.table_rule.specs.CoreWords.{Out}
use Rattle.table_rule.specs.Tasks.{TaskHere, job_seen}
use Rattle.core_model.specs.Next.{next_act}
use Rattle.core_model.specs.declared.next.Next.{Next}
use Rattle.table_rule.specs.declared.view.HoldView.{HoldView}
use Rattle.table_rule.specs.declared.view.Miss.{Miss}
use Rattle.core_model.specs.Settings.{job_with}
use Rattle.core_model.specs.State.{CoreJob}
use Rattle.table_rule.specs.declared.slot.Slot.{Slot}
use Rattle.table_rule.specs.declared.view.PassView.{PassView}
use Rattle.table_rule.specs.declared.view.View.{View}
use Rattle.core_model.specs.declared.setting.Setting.{Setting}
use Rattle.core_table.specs.declared.table.CoreTable.{CoreTable}
use Rattle.core_table.specs.declared.table.Pass.{Pass}
use Rattle.table_rule.specs.Shows.{TableState, job_of, room_of}
use Rattle.table_rule.specs.Moments.{IsMomentOf, IsMissAt}
use Rattle.table_rule.specs.Passes.{unused}
use Rattle.table_rule.specs.Views.{first_view}
use Rattle.table_rule.specs.HoldsSlots.{HoldsSlots}
use Rattle.table_rule.specs.TracksHold.{TracksHold}

-- the setting that a table is made for: a planned job and a number of workers
abbrev pub setting_in : {B : Type 0} → CoreTable B → Setting
setting_in table = table.setting

-- The setting's job: `planned_in` with its plan as `sp_order` has it, and as the core's rules speak of it: `job_in_with`
-- where the leaves of work compute `work`, and `job_in` where that is of no concern: clauses read of it the plan, the
-- acts, the sources and the workers alone.
abbrev pub planned_in : {B : Type 0} → CoreTable B → JobValue
planned_in table = (setting_in table).job

abbrev pub job_in : {B : Type 0} → CoreTable B → CoreJob
job_in table = job_of (setting_in table)

abbrev pub job_in_with : {B : Type 0} → (ℕ → ℕ) → CoreTable B → CoreJob
job_in_with work table = job_with work (setting_in table)

-- the view of worker w's pass on a new table
abbrev pub opening_view : {B : Type 0} → CoreTable B → ℕ → View
opening_view table w = record (first_view table.setting) { own = unused w; to = w + 1; enrolled = true }

-- the view of a pass's seat
abbrev pub view : Pass → View
view pass = pass.seat.me.0

-- what contracts see of a pass
abbrev pub pass_view : Pass → PassView
pass_view pass = (view pass).own

-- the next act of a pass, by its task and the state of its call
abbrev pub next_in : {B : Type 0} → CoreTable B → PassView → Option Next
next_in table pass = next_act (job_in table) pass.task pass.call

-- the pass's call is outstanding: posted, and not left
abbrev pub IsTrapped : Pass → Type 0
IsTrapped pass = (view pass).own.call ≡ Out

abbrev pub IsNotTrapped : Pass → Type 0
IsNotTrapped pass = (view pass).own.call ≢ Out

-- A moment of a call with this pass, and what the call finds in the word at `place`, where that is not what it looks for.
-- The leaves of work compute `work`.
unfoldable pub IsMomentIn : {B : Type 0} → (ℕ → ℕ) → CoreTable B → Pass → ℕ → Type 0
IsMomentIn work table pass moment = IsMomentOf (job_with work (setting_in table)) (room_of (setting_in table)) (view pass) moment

unfoldable pub IsMissOf : {B : Type 0} → (ℕ → ℕ) → CoreTable B → Pass → ℕ → Miss → Type 0
IsMissOf work table pass place miss = IsMissAt (job_with work (setting_in table)) (room_of (setting_in table)) (view pass) place miss

-- each of these passes has a seat at the table in this state
abbrev pub AreSeated : TableState → List Pass → Type 0
AreSeated t passes = (w : ℕ) → IfSome (slice_get passes w) (λ pass. (id : ℕ) × (get_elem? t.views id ≡ some (view pass)))

-- the hold, if there is one, has looked at no more workers than there are
abbrev pub LooksFit : ℕ → Option HoldView → Type 0
LooksFit workers None = Unit {0}
LooksFit workers (Some h) = h.looks ≤ workers

-- The seat is `worker`'s at this table: its view has the table's counts and job, and agrees with its slots and fields.
abbrev pub IsSeatOf : Setting → TableId → ℕ → Seat Slot View → List ℕ → Bool → Type 0
IsSeatOf setting table worker seat owed published =
    (seat.table_id ≡ table) × (worker < setting.workers) × (seat.me.0.workers ≡ setting.workers)
    × (seat.me.0.nodes ≡ (job_of setting).plan.count) × (seat.me.0.enrolled ≡ true)
    × TaskHere (job_of setting).plan seat.me.0.own.task × (seat.me.0.room ≡ room_of setting) × HoldsSlots worker seat.me
    × TracksHold seat.me.0 owed published × (job_seen seat.me.0 ≡ job_of setting) × LooksFit setting.workers seat.me.0.own.hold

-- the pass belongs to this table
abbrev pub IsPassOf : {B : Type 0} → CoreTable B → Pass → Type 0
IsPassOf table pass = IsSeatOf table.setting table.table.shared.table_id pass.worker pass.seat pass.owed.items pass.published
