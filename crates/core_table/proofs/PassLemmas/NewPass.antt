-- A pass that has just enrolled, and the list of passes.
use Rattle.std.proofs.Common.{ℕ, zero, suc, ◌≡◌, ◌<◌, ◌≤◌, false, Option as Maybe, Some, List, [], ◌∷◌, ◌++◌, length, arith, refl, sym, ap, ◌∙◌, subst, IfSome, slice_get}
use mathlib.Core.Option.{some}
use lib.ListN.{get_elem?}
use Rattle.atomic_table.specs.Seated.{TableId}
use Rattle.atomic_table.specs.declared.shared.Seat.{Seat}
use Rattle.table_rule.specs.declared.view.View.{View}
use Rattle.table_rule.specs.declared.slot.Slot.{Slot}
use Rattle.table_rule.specs.declared.slot.Slot.TheVariants as Slots
use Rattle.core_model.specs.declared.setting.Setting.{Setting}
use Rattle.table_rule.specs.Shows.{TableState, job_of}
use Rattle.table_rule.specs.Plays.{SeatState}
use Rattle.table_rule.specs.Views.{enrolling, pass_of}
use Rattle.table_rule.specs.HoldsSlots.{HoldsSlots}
use Rattle.table_rule.specs.TracksHold.{TracksHold}
use Rattle.core_table.proofs.ListLemmas.Owed.{remembers_none}
use Rattle.core_table.specs.declared.table.Pass.{Pass}
use Rattle.core_table.specs.Passes.{IsSeatOf, AreSeated, LooksFit}
use Rattle.table_rule.specs.Tasks.{TaskHere, job_seen}
use Rattle.table_rule.specs.Views.{rest_from}

pub each_push : {A : Type 0} (P : ℕ → A → Type 0) (l : List A) (x : A) → ((w : ℕ) → IfSome (slice_get l w) (P w)) → P (length l) x → (w : ℕ) → IfSome (slice_get (l ++ x ∷ []) w) (P w)
each_push P [] x old new zero = new
each_push P [] x old new (suc w) = old (suc w)
each_push P (y ∷ ys) x old new zero = old zero
each_push P (y ∷ ys) x old new (suc w) = each_push (λ k. P (suc k)) ys x (λ k. old (suc k)) (subst (λ (k : ℕ). P k x) (omega arith) new) w

abbrev fresh : ℕ → Setting → View
fresh k setting = enrolling (pass_of (rest_from k setting))

carries_new : (k : ℕ) (setting : Setting) → HoldsSlots k (fresh k setting, (k, Slots.Vacant) ∷ [])
carries_new k setting = record {
  free = λ ne. (refl, refl);
  trapped = λ e _. absurd (cc);
  holds = λ h e. absurd (cc);
}

pub new_pass : (setting : Setting) (table : TableId) (k : ℕ) (seat : Seat Slot View) → k < setting.workers → seat.table_id ≡ table → seat.me ≡ (fresh k setting, (k, Slots.Vacant) ∷ []) → IsSeatOf setting table k seat [] false
new_pass setting table k seat low same is = (
  same,
  low,
  ap (λ (m : SeatState). m.0.workers) is,
  ap (λ (m : SeatState). m.0.nodes) is,
  ap (λ (m : SeatState). m.0.enrolled) is,
  subst (TaskHere (job_of setting).plan) (sym (ap (λ (m : SeatState). m.0.own.task) is)) tt,
  ap (λ (m : SeatState). m.0.room) is,
  subst (HoldsSlots k) (sym is) (carries_new k setting),
  subst (λ (m : SeatState). TracksHold m.0 [] false) (sym is) (remembers_none (fresh k setting) [] false refl refl),
  ap (λ (m : SeatState). job_seen m.0) is,
  subst (LooksFit setting.workers) (sym (ap (λ (m : SeatState). m.0.own.hold) is)) tt,
)

some_at : {A : Type 0} (l : List A) (w : ℕ) → w < length l → (x : A) × (slice_get l w ≡ Some x)
some_at [] w low = absurd (omega arith)
some_at (x ∷ xs) zero low = (x, refl)
some_at (x ∷ xs) (suc w) low = some_at xs w (omega arith)

-- a new pass that has its seat has not set the stop word
pub unset_seat : (setting : Setting) (table : TableId) (t : TableState) (passes : List Pass) (w : ℕ) → w < length passes
    → ((w : ℕ) → IfSome (slice_get passes w) (λ pass. (pass.worker ≡ w) × IsSeatOf setting table pass.worker pass.seat pass.owed.items pass.published × (pass.seat.me.0 ≡ enrolling (pass_of (rest_from w setting)))))
    → AreSeated t passes → (id : ℕ) × (v : View) × (get_elem? t.views id ≡ some v) × (v.own.worker ≤ w) × (w < v.to) × (v.own.stops ≡ 0)
unset_seat setting table t passes w low each seated =
    let (pass, at) = some_at passes w low in
    let new = subst (λ (o : Maybe Pass). IfSome o (λ pass. (pass.worker ≡ w) × IsSeatOf setting table pass.worker pass.seat pass.owed.items pass.published × (pass.seat.me.0 ≡ enrolling (pass_of (rest_from w setting))))) at (each w) in
    let seat = subst (λ (o : Maybe Pass). IfSome o (λ pass. (id : ℕ) × (get_elem? t.views id ≡ some pass.seat.me.0))) at (seated w) in
    (seat.0, fresh w setting, seat.1 ∙ ap (λ (v : View). some v) new.2, omega arith, omega arith, refl)
