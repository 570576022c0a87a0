-- A pass still belongs to its table after each kind of call.
use Rattle.std.proofs.Common.{ℕ, ◌≡◌, ◌≢◌, ◌≤◌, ◌+◌, Bool, true, false, Option as Maybe, None, Some, List, [], ◌∷◌, ◌++◌, get_or, refl, sym, ap, ◌∙◌, subst}
use Rattle.std.proofs.lemmas.List.{map-append}
use Rattle.core_model.specs.Measure.{call_count, total, one_if_call}
use Rattle.core_model.specs.Settings.{job_with}
use Rattle.core_model.specs.State.{CoreJob, core_job}
use Rattle.core_model.specs.Words.{Kind, LeafNode, ParNode, SeqNode}
use Rattle.atomic_table.specs.Table.{turned, rest}
use Rattle.atomic_table.specs.Seated.{TableId}
use Rattle.atomic_table.specs.declared.shared.Seat.{Seat}
use Rattle.core_model.specs.declared.status.CallState.TheVariants.{NotCalled, Out, Got}
use Rattle.core_model.specs.declared.status.CallState.{CallState}
use Rattle.table_rule.specs.declared.view.Miss.{Miss}
use Rattle.table_rule.specs.declared.view.View.{View}
use Rattle.table_rule.specs.declared.view.HoldView.{HoldView}
use Rattle.table_rule.specs.declared.slot.Slot.{Slot}
use Rattle.table_rule.specs.declared.slot.Slot.TheVariants as Slots
use Rattle.core_model.specs.declared.setting.Setting.{Setting}
use Rattle.table_rule.specs.Shows.{reserved, job_of, room_of}
use Rattle.batch_history.specs.Reserved.{ReservedView}
use Rattle.table_rule.specs.declared.slot.OpRecord.{OpRecord}
use Rattle.batch_history.specs.declared.batch.Entry.{Entry}
use Rattle.table_rule.specs.Plays.{SeatState}
use Rattle.table_rule.specs.CoreWords.{Event, Receipt}
use Rattle.table_rule.specs.Passes.{call_by, without_first, winning, in_hold, after_take, after_pass, after_publish, after_answer, taking, skipping, publishing, answering, releasing}
use Rattle.table_rule.specs.Views.{with_step, with_miss, with_post}
use Rattle.table_rule.specs.HoldsSlots.{vacant, HolderCarries, HoldsSlots}
use Rattle.table_rule.specs.TracksHold.{TracksHold}
use Rattle.core_table.proofs.ListLemmas.Owed.{remembers_kept}
use Rattle.core_table.specs.Passes.{IsSeatOf, LooksFit}
use Rattle.table_rule.specs.Tasks.{TaskHere, job_seen, job_seen_with}
use Rattle.std.proofs.lemmas.Option.{same_Some}

holder_kept : (b : Bool) (v w : View) (h : HoldView) (xs : List (ℕ × Slot)) → w.workers ≡ v.workers → w.room ≡ v.room → HolderCarries b v h xs → HolderCarries b w h xs
holder_kept false v w h xs a b m = rw (a, b) m
holder_kept true v w h xs a b m = rw a m

pub carries_kept : (k : ℕ) (v w : View) (xs : List (ℕ × Slot)) → w.workers ≡ v.workers → w.room ≡ v.room → w.own.call ≡ v.own.call → w.own.hold ≡ v.own.hold → HoldsSlots k (v, xs) → HoldsSlots k (w, xs)
carries_kept k v w xs workers room call hold m = record {
  free = λ ne. let t = m.free (λ e. ne (call ∙ e)) in (hold ∙ t.0, t.1);
  trapped = λ out none_held. m.trapped (sym call ∙ out) (sym hold ∙ none_held);
  holds = λ h is. holder_kept h.published v w h xs workers room (m.holds h (sym hold ∙ is));
}

same_job : (v w : View) → w.job ≡ v.job → w.workers ≡ v.workers → job_seen w ≡ job_seen v
same_job v w given workers = λ i. core_job (given i) (workers i)

-- what a view knows of its job and its room does not depend on what the leaves of work compute
pub known_with : (work : ℕ → ℕ) (v : View) (setting : Setting) → job_seen v ≡ job_of setting → job_seen_with work v ≡ job_with work setting
known_with work v setting known = ap (λ (job : CoreJob). record job { work = work }) known

same_if_call : (work : ℕ → ℕ) (setting : Setting) (kind : Maybe Kind) → one_if_call (job_of setting) kind ≡ one_if_call (job_with work setting) kind
same_if_call work setting None = refl
same_if_call work setting (Some (LeafNode leaf)) = refl
same_if_call work setting (Some (SeqNode left right)) = refl
same_if_call work setting (Some (ParNode left right)) = refl

pub room_with : (work : ℕ → ℕ) (setting : Setting) → room_of setting ≡ call_count (job_with work setting)
room_with work setting = λ i. total (λ n. same_if_call work setting ((job_of setting).plan.kind n) i) (job_of setting).plan.count

-- a pass after a step that leaves its call, its hold and its slots
pub pass_stepped : {owed : List ℕ} {published : Bool} (setting : Setting) (table : TableId) (k : ℕ) (old new : Seat Slot View) (w : View) → new.table_id ≡ old.table_id → new.me ≡ (w, old.me.1)
    → w.workers ≡ old.me.0.workers → w.nodes ≡ old.me.0.nodes → w.room ≡ old.me.0.room → w.enrolled ≡ old.me.0.enrolled → TaskHere (job_of setting).plan w.own.task → w.own.call ≡ old.me.0.own.call → w.own.hold ≡ old.me.0.own.hold → w.job ≡ old.me.0.job
    → IsSeatOf setting table k old owed published → IsSeatOf setting table k new owed published
pass_stepped {owed} {published} setting table k old new w same is workers nodes room enrolled task call hold given p = (
  same ∙ p.0,
  p.1,
  ap (λ (m : SeatState). m.0.workers) is ∙ (workers ∙ p.2),
  ap (λ (m : SeatState). m.0.nodes) is ∙ (nodes ∙ p.3),
  ap (λ (m : SeatState). m.0.enrolled) is ∙ (enrolled ∙ p.4),
  subst (TaskHere (job_of setting).plan) (sym (ap (λ (m : SeatState). m.0.own.task) is)) task,
  ap (λ (m : SeatState). m.0.room) is ∙ (room ∙ p.6),
  subst (HoldsSlots k) (sym is) (carries_kept k old.me.0 w old.me.1 workers room call hold p.7),
  remembers_kept old.me.0 new.me.0 owed published (ap (λ (m : SeatState). m.0.own.hold) is ∙ hold) p.8,
  same_job old.me.0 new.me.0 (ap (λ (m : SeatState). m.0.job) is ∙ given) (ap (λ (m : SeatState). m.0.workers) is ∙ workers) ∙ p.9,
  subst (LooksFit setting.workers) (sym (ap (λ (m : SeatState). m.0.own.hold) is ∙ hold)) p.10,
)

-- the same, where the task stays too
pub pass_kept : {owed : List ℕ} {published : Bool} (setting : Setting) (table : TableId) (k : ℕ) (old new : Seat Slot View) (w : View) → new.table_id ≡ old.table_id → new.me ≡ (w, old.me.1)
    → w.workers ≡ old.me.0.workers → w.nodes ≡ old.me.0.nodes → w.room ≡ old.me.0.room → w.enrolled ≡ old.me.0.enrolled → w.own.task ≡ old.me.0.own.task → w.own.call ≡ old.me.0.own.call → w.own.hold ≡ old.me.0.own.hold → w.job ≡ old.me.0.job
    → IsSeatOf setting table k old owed published → IsSeatOf setting table k new owed published
pass_kept setting table k old new w same is workers nodes room enrolled task call hold given p =
    pass_stepped setting table k old new w same is workers nodes room enrolled (subst (TaskHere (job_of setting).plan) (sym task) p.5) call hold given p

-- a pass after a step of a call or a hold, from its new view and slots
pub pass_made : {owed owed' : List ℕ} {published published' : Bool} (setting : Setting) (table : TableId) (k : ℕ) (old new : Seat Slot View) (w : View) (xs : List (ℕ × Slot)) → new.table_id ≡ old.table_id → new.me ≡ (w, xs)
    → w.workers ≡ old.me.0.workers → w.nodes ≡ old.me.0.nodes → w.room ≡ old.me.0.room → w.enrolled ≡ old.me.0.enrolled → w.own.task ≡ old.me.0.own.task → w.job ≡ old.me.0.job → HoldsSlots k (w, xs) → TracksHold w owed' published' → LooksFit setting.workers w.own.hold
    → IsSeatOf setting table k old owed published → IsSeatOf setting table k new owed' published'
pass_made {owed} {owed'} {published} {published'} setting table k old new w xs same is workers nodes room enrolled task given carries remembers looks p = (
  same ∙ p.0,
  p.1,
  ap (λ (m : SeatState). m.0.workers) is ∙ (workers ∙ p.2),
  ap (λ (m : SeatState). m.0.nodes) is ∙ (nodes ∙ p.3),
  ap (λ (m : SeatState). m.0.enrolled) is ∙ (enrolled ∙ p.4),
  subst (TaskHere (job_of setting).plan) (sym (ap (λ (m : SeatState). m.0.own.task) is ∙ task)) p.5,
  ap (λ (m : SeatState). m.0.room) is ∙ (room ∙ p.6),
  subst (HoldsSlots k) (sym is) carries,
  subst (λ (m : SeatState). TracksHold m.0 owed' published') (sym is) remembers,
  same_job old.me.0 new.me.0 (ap (λ (m : SeatState). m.0.job) is ∙ given) (ap (λ (m : SeatState). m.0.workers) is ∙ workers) ∙ p.9,
  subst (λ (m : SeatState). LooksFit setting.workers m.0.own.hold) (sym is) looks,
)

pub looks_at : (workers : ℕ) (hold : Maybe HoldView) (h : HoldView) → LooksFit workers hold → hold ≡ Some h → h.looks ≤ workers
looks_at workers hold h fits at = subst (LooksFit workers) at fits

-- a hold after a step that leaves this number of looks
pub looks_after : (workers : ℕ) (f : HoldView → HoldView) (hold : Maybe HoldView) (h : HoldView) → hold ≡ Some h → (f h).looks ≤ workers → LooksFit workers (in_hold f hold)
looks_after workers f hold h at low = subst (λ (o : Maybe HoldView). LooksFit workers (in_hold f o)) (sym at) low

-- the head of a seat's list
pub first : (m : SeatState) (v : View) (k : ℕ) (x : Slot) (xs : List (ℕ × Slot)) → m ≡ (v, (k, x) ∷ xs) → m.1 ≡ (k, x) ∷ rest m.1
first m v k x xs e = ap (λ (z : SeatState). z.1) e ∙ ap (λ (z : SeatState). (k, x) ∷ rest z.1) (sym e)

-- the list after an exchange of the head
pub swapped : (m n : SeatState) (v : View) (k : ℕ) (x y : Slot) (xs : List (ℕ × Slot)) → m ≡ (v, (k, x) ∷ xs) → n ≡ (m.0, (k, y) ∷ rest m.1) → n ≡ (v, (k, y) ∷ xs)
swapped m n v k x y xs e f = f ∙ ap (λ (z : SeatState). (z.0, (k, y) ∷ rest z.1)) e

-- the list after the head is moved to the back
pub turned_to : (m n : SeatState) (v : View) (xs : List (ℕ × Slot)) → m ≡ (v, xs) → n ≡ (m.0, turned m.1) → n ≡ (v, turned xs)
turned_to m n v xs e f = f ∙ ap (λ (z : SeatState). (z.0, turned z.1)) e

none_out : (a : HoldView) → None ≡ Some a → ⊥
none_out a e = cc

-- the hold after a step of it
hold_after : (f : HoldView → HoldView) (o : Maybe HoldView) (h g : HoldView) → o ≡ Some h → in_hold f o ≡ Some g → f h ≡ g
hold_after f o h g is e = same_Some (f h) g (sym (ap (in_hold f) is) ∙ e)

some_after : (f : HoldView → HoldView) (o : Maybe HoldView) (h : HoldView) → o ≡ Some h → in_hold f o ≡ None → ⊥
some_after f o h is e = none_out (f h) (sym e ∙ ap (in_hold f) is)

-- a pass that has just posted
pub carries_posted : (k : ℕ) (v : View) (call : OpRecord) (event : Event) → v.own.hold ≡ None → HoldsSlots k (with_post call event v, [])
carries_posted k v call event nothing = record {
  free = λ ne. absurd (ne refl);
  trapped = λ _ _. refl;
  holds = λ h is. absurd (none_out h (sym nothing ∙ is));
}

-- a pass that has just won
pub carries_won : (k workers : ℕ) (v : View) (history : List (List Entry)) → v.own.call ≡ Out → v.workers ≡ workers
    → HoldsSlots k (with_step (winning history) v, (workers + 1, Slots.Book (reserved history v.room)) ∷ (workers, Slots.Vacant) ∷ [])
carries_won k workers v history out wide = record {
  free = λ ne. absurd (ne out);
  trapped = λ _ e. absurd (cc);
  holds = λ h is. subst (λ (z : HoldView). HolderCarries z.published (with_step (winning history) v) z ((workers + 1, Slots.Book (reserved history v.room)) ∷ (workers, Slots.Vacant) ∷ [])) (same_Some _ h is)
      (rw wide refl);
}

-- a holder that has taken one more
pub carries_took : (k u : ℕ) (v : View) (h : HoldView) (call : OpRecord) (xs : List (ℕ × Slot)) → v.own.call ≡ Out → v.own.hold ≡ Some h → h.published ≡ false → HoldsSlots k (v, xs) → HoldsSlots k (with_step (taking (call_by u call)) v, xs ++ (u, Slots.Vacant) ∷ [])
carries_took k u v h call xs out is early m =
    let f = after_take (call_by u call) in
    let w : View = with_step (taking (call_by u call)) v in
    let was : HolderCarries false v h xs = subst (λ (b : Bool). HolderCarries b v h xs) early (m.holds h is) in record {
      free = λ ne. absurd (ne out);
      trapped = λ _ e. absurd (some_after f v.own.hold h is e);
      holds = λ g e. subst (λ (z : HoldView). HolderCarries z.published w z (xs ++ (u, Slots.Vacant) ∷ [])) (hold_after f v.own.hold h g is e)
          (subst (λ (b : Bool). HolderCarries b w (f h) (xs ++ (u, Slots.Vacant) ∷ [])) (sym early)
          (ap (λ l. l ++ (u, Slots.Vacant) ∷ []) was ∙ rw map-append refl));
    }

pub carries_passed : (k u : ℕ) (v : View) (miss : Miss) (h : HoldView) (status : ℕ) (xs : List (ℕ × Slot)) → v.own.call ≡ Out → v.own.hold ≡ Some h → HoldsSlots k (v, xs) → HoldsSlots k (with_miss miss (skipping u status) v, xs)
carries_passed k u v miss h status xs out is m =
    let f = after_pass status in
    let w : View = with_miss miss (skipping u status) v in record {
      free = λ ne. absurd (ne out);
      trapped = λ _ e. absurd (some_after f v.own.hold h is e);
      holds = λ g e. subst (λ (z : HoldView). HolderCarries z.published w z xs) (hold_after f v.own.hold h g is e) (elim h.published as (λ (b : Bool). HolderCarries b v h xs → HolderCarries b w (f h) xs) [ false ↦ λ y. y | true ↦ λ y. y ] (m.holds h is));
    }

-- a holder that has published
pub carries_published : (k workers : ℕ) (v : View) (h : HoldView) (batch : List Entry) → v.own.call ≡ Out → v.own.hold ≡ Some h → v.workers ≡ workers
    → HoldsSlots k (with_step (publishing batch) v, vacant h.owed ++ (workers, Slots.Vacant) ∷ [])
carries_published k workers v h batch out is wide =
    let f = after_publish batch in
    let w : View = with_step (publishing batch) v in record {
      free = λ ne. absurd (ne out);
      trapped = λ _ e. absurd (some_after f v.own.hold h is e);
      holds = λ g e. subst (λ (z : HoldView). HolderCarries z.published w z (vacant h.owed ++ (workers, Slots.Vacant) ∷ [])) (hold_after f v.own.hold h g is e) (rw wide refl);
    }

-- the list of a holder that has not published
pub holder_list : (k workers room : ℕ) (me : SeatState) (h : HoldView) → me.0.own.hold ≡ Some h → h.published ≡ false → me.0.workers ≡ workers → me.0.room ≡ room → HoldsSlots k me
    → me ≡ (me.0, (workers + 1, Slots.Book (reserved h.book room)) ∷ (workers, Slots.Vacant) ∷ vacant h.owed)
holder_list k workers room me h is early wide roomy m =
    let t : HolderCarries false me.0 h me.1 = subst (λ (b : Bool). HolderCarries b me.0 h me.1) early (m.holds h is) in
    let l = t ∙ (ap (λ (n : ℕ). (n + 1, Slots.Book (reserved h.book me.0.room)) ∷ (n, Slots.Vacant) ∷ vacant h.owed) wide
    ∙ ap (λ (r : ℕ). (workers + 1, Slots.Book (reserved h.book r)) ∷ (workers, Slots.Vacant) ∷ vacant h.owed) roomy) in λ i. (me.0, l i)

-- the content that an exchange of the head found
pub found_slot : (m : SeatState) (v : View) (k : ℕ) (x y : Slot) (xs ys : List (ℕ × Slot)) → m ≡ (v, (k, y) ∷ xs) → m.1 ≡ (k, x) ∷ ys → y ≡ x
found_slot m v k x y xs ys e f = ap (λ (l : List (ℕ × Slot)). (get_or l 0 (k, x)).1) (sym (ap (λ (z : SeatState). z.1) e) ∙ f)

pub same_record : (a b : OpRecord) → Slots.Record a ≡ Slots.Record b → a ≡ b
same_record a b e = cc

pub found_book : (m : SeatState) (v : View) (k : ℕ) (x : Slot) (b : ReservedView) (xs ys : List (ℕ × Slot)) → m ≡ (v, (k, Slots.Book b) ∷ xs) → m.1 ≡ (k, x) ∷ ys → Slots.Book b ≡ x
found_book m v k x b xs ys e f = ap (λ (l : List (ℕ × Slot)). (get_or l 0 (k, x)).1) (sym (ap (λ (z : SeatState). z.1) e) ∙ f)

pub books : (a b : ReservedView) → Slots.Book a ≡ Slots.Book b → a ≡ b
books a b e = cc

-- a pass that has the flag is trapped
out_by : (call : CallState) → ((call ≢ Out) → ⊥) → call ≡ Out
out_by NotCalled out = absurd (out (λ e. cc))
out_by Out out = refl
out_by (Got receipt) out = absurd (out (λ e. cc))

pub held_out : (k : ℕ) (me : SeatState) (h : HoldView) → HoldsSlots k me → me.0.own.hold ≡ Some h → me.0.own.call ≡ Out
held_out k me h carries holds = out_by me.0.own.call (λ ne. let clash : Some h ≡ None = sym holds ∙ (carries.free ne).0 in absurd (cc))

-- the list of a holder that has published
pub holder_after : (k workers : ℕ) (me : SeatState) (h : HoldView) (owed : List ℕ) → me.0.own.hold ≡ Some h → h.published ≡ true → h.owed ≡ owed → me.0.workers ≡ workers → HoldsSlots k me → me ≡ (me.0, vacant owed ++ (workers, Slots.Vacant) ∷ [])
holder_after k workers me h owed is there same wide m =
    let t : HolderCarries true me.0 h me.1 = subst (λ (b : Bool). HolderCarries b me.0 h me.1) there (m.holds h is) in
    let l = t ∙ (ap (λ (o : List ℕ). vacant o ++ (me.0.workers, Slots.Vacant) ∷ []) same ∙ ap (λ (n : ℕ). vacant owed ++ (n, Slots.Vacant) ∷ []) wide) in λ i. (me.0, l i)

pub carries_answered : (k workers u : ℕ) (v : View) (h : HoldView) (receipt : Receipt) → v.own.call ≡ Out → v.own.hold ≡ Some h → v.workers ≡ workers → h.published ≡ true
    → HoldsSlots k (with_step (answering u receipt) v, vacant (without_first u h.owed) ++ (workers, Slots.Vacant) ∷ [])
carries_answered k workers u v h receipt out is wide there =
    let f = after_answer u in
    let w : View = with_step (answering u receipt) v in let xs = vacant (without_first u h.owed) ++ (workers, Slots.Vacant) ∷ [] in record {
      free = λ ne. absurd (ne out);
      trapped = λ _ e. absurd (some_after f v.own.hold h is e);
      holds = λ g e. subst (λ (z : HoldView). HolderCarries z.published w z xs) (hold_after f v.own.hold h g is e) (subst (λ (b : Bool). HolderCarries b w (f h) xs) (sym there) (rw wide refl));
    }

pub carries_released : (k : ℕ) (v : View) → v.own.call ≡ Out → HoldsSlots k (with_step releasing v, [])
carries_released k v out = record { free = λ ne. absurd (ne out); trapped = λ _ _. refl; holds = λ g f. absurd (cc) }
