-- What a view says of its worker is kept by events of other workers, and by those that keep its task and call.
use Rattle.std.proofs.Common.{ℕ, ◌≡◌, ◌≢◌, ◌<◌, ◌+◌, true, Option as Maybe, None, Some, List, set, arith, refl, sym, ap, ◌∙◌, subst, inl, inr, length-set}
use Rattle.std.proofs.lemmas.Bool.{cases_eq}
use mathlib.Core.Option.{Option, some}
use lib.ListN.{get_elem?}
use Rattle.atomic_table.proofs.Lists.{set_here, set_else}
use Rattle.batch_history.specs.declared.batch.Entry.{Entry}
use Rattle.core_model.specs.declared.task.Task.{Task}
use Rattle.core_model.specs.declared.status.Status.{Status}
use Rattle.core_model.specs.declared.status.CallState.TheVariants.{NotCalled}
use Rattle.core_model.specs.declared.event.Event.{Event}
use Rattle.core_model.specs.State.{put, CoreJob, Hold, State}
use Rattle.core_model.specs.Events.{Happens}
use Rattle.core_model.specs.Operations.{value_under}
use Rattle.core_model.specs.Tasks.{is_done}
use Rattle.core_model.specs.Invariant.{Parts}
use Rattle.table_rule.specs.declared.view.HoldView.{HoldView}
use Rattle.table_rule.specs.declared.view.View.{View}
use Rattle.table_rule.specs.declared.slot.Slot.{Slot}
use Rattle.table_rule.specs.declared.slot.Slot.TheVariants as Slots
use Rattle.table_rule.specs.Laws.{Laws}
use Rattle.table_rule.specs.Shows.{SlotHome, IsPrefix, IsRecordOf, IsTold, RecordAt, ShopAt, BookAt, SlotsShow, hold_of, HoldKnown, AgreesWithView}
use Rattle.table_rule.proofs.TableLemmas.Facts.{is_trapped}
use Rattle.core_model.proofs.InvariantLemmas.Puts.{put_at, put_other}

-- the views of a pass before and after a step that keeps its task and its call
pub record SameTold (v w : View) : Type 0 where
  pub task : w.own.task ≡ v.own.task
  pub call : w.own.call ≡ v.own.call
  pub told : w.own.told ≡ v.own.told
  pub posted : w.own.posted ≡ v.own.posted
  pub left : w.own.left ≡ v.own.left
  pub enrolled : w.enrolled ≡ v.enrolled
  pub saw_done : w.saw_done ≡ v.saw_done
  pub greatest : w.own.greatest ≡ v.own.greatest
  pub before : w.own.before ≡ v.own.before
  pub after : w.own.after ≡ v.own.after
  pub book_seen : w.own.book_seen ≡ v.own.book_seen

pub told_again : (v : View) → SameTold v v
told_again v = record { task = refl; call = refl; told = refl; posted = refl; left = refl; enrolled = refl; saw_done = refl; greatest = refl; before = refl; after = refl; book_seen = refl }

-- `AgreesWithView` is kept for a seat of another worker
pub reseat : (job : CoreJob) (s : State) (home : SlotHome) (seat seat' id id' : ℕ) (v w : View) (x : ℕ) → seat' ≡ id' → SameTold v w → w.own.hold ≡ v.own.hold → AgreesWithView job s home seat id v x → AgreesWithView job s home seat' id' w x
reseat job s home seat seat' id id' v w x sits told hold m = record {
  sits = sits;
  task = m.task ∙ sym told.task;
  call = m.call ∙ sym told.call;
  posted = rw told.posted m.posted;
  told = λ value is. subst (λ (task : Task). IsTold job s task value) (sym told.task) (m.told value (sym told.told ∙ is));
  hold = rw hold m.hold;
  entries = rw told.left m.entries;
  new = λ e. let t = m.new (sym told.enrolled ∙ e) in (t.0, told.task ∙ t.1, told.call ∙ t.2, told.left ∙ t.3);
  done = λ e. m.done (sym told.saw_done ∙ e);
  seen = rw told.book_seen m.seen;
  since = record {
    most = rw told.greatest m.since.most;
    early = rw (told.greatest, told.before) m.since.early;
    late = rw (told.greatest, told.after) m.since.late;
    placed = rw told.before m.since.placed;
    waits = rw told.after m.since.waits;
  };
}

-- and for a view that has seen more of the book
pub reseen : (job : CoreJob) (s : State) (home : SlotHome) (seat id : ℕ) (v : View) (x : ℕ) (book : List (List Entry)) → IsPrefix book s.book → AgreesWithView job s home seat id v x → AgreesWithView job s home seat id (record v { own = record v.own { book_seen = book } }) x
reseen job s home seat id v x book front m = record {
  sits = m.sits;
  task = m.task;
  call = m.call;
  posted = m.posted;
  told = m.told;
  hold = m.hold;
  entries = m.entries;
  new = m.new;
  done = m.done;
  seen = front;
  since = record { most = m.since.most; early = m.since.early; late = m.since.late; placed = m.since.placed; waits = m.since.waits };
}

-- and for the same seat
pub again : (job : CoreJob) (s : State) (home : SlotHome) (seat id : ℕ) (v w : View) (x : ℕ) → SameTold v w → w.own.hold ≡ v.own.hold → AgreesWithView job s home seat id v x → AgreesWithView job s home seat id w x
again job s home seat id v w x told hold m = reseat job s home seat seat id id v w x m.sits told hold m

-- what was told for a task is the source's value in the next state too, where the task is the worker's
pub told_kept : (job : CoreJob) (laws : Laws job) (s new : State) (x : ℕ) (task task' : Task) (value : ℕ) → Parts job new → new.task x ≡ task → task ≡ task' → ((leaf v : ℕ) → value_under job s.book leaf ≡ Some v → value_under job new.book leaf ≡ Some v)
    → IsTold job s task value → IsTold job new task' value
told_kept job laws s new x task task' value parts here same longer told =
    let (node, start, leaf, source, started, kind, from, has, is) = told in
    let now = laws.source new x node leaf source parts (kind, start, here ∙ started) from in
    let both : Some has.value ≡ Some now.value = sym (longer source has.value has.under) ∙ now.under in
    let at : has.value ≡ now.value = cc in
    (node, start, leaf, source, sym same ∙ started, kind, from, now, is ∙ at)

pub through : (job : CoreJob) (laws : Laws job) (s new : State) (k x : ℕ) (event : Event) (v w : View) (home home' : SlotHome) (seat id : ℕ) → Parts job s → Happens job s k event new
    → new.task x ≡ s.task x → new.call x ≡ s.call x → new.book ≡ s.book → (is_done (s.node 0) ≡ true → is_done (new.node 0) ≡ true)
    → (home ≡ some (some Slots.Vacant) → v.own.call ≡ NotCalled → home' ≡ some (some Slots.Vacant)) → SameTold v w → HoldKnown job new w.own.hold x
    → AgreesWithView job s home seat id v x → AgreesWithView job new home' seat id w x
through job laws s new k x event v w home home' seat id kept happens same_task same_call same_book done here told hold m = record {
  sits = m.sits;
  task = same_task ∙ (m.task ∙ sym told.task);
  call = same_call ∙ (m.call ∙ sym told.call);
  posted = rw (same_call, same_task, same_book, told.posted) m.posted;
  told = λ value is. told_kept job laws s new x v.own.task w.own.task value (laws.keeps s new k event kept happens) (same_task ∙ m.task) (sym told.task) (λ leaf place at. rw same_book at) (m.told value (sym told.told ∙ is));
  hold = hold;
  entries = rw (same_call, same_task, same_book, told.left) m.entries;
  new = λ e. let t = m.new (sym told.enrolled ∙ e) in (here t.0 t.2, told.task ∙ t.1, told.call ∙ t.2, told.left ∙ t.3);
  done = λ e. done (m.done (sym told.saw_done ∙ e));
  seen = rw (same_book, told.book_seen) m.seen;
  since = record {
    most = rw (same_book, told.greatest) m.since.most;
    early = rw (told.greatest, told.before) m.since.early;
    late = rw (told.greatest, told.after) m.since.late;
    placed = rw (same_call, same_task, same_book, told.before) m.since.placed;
    waits = λ since is out. laws.waits s new k event x since kept happens (is_trapped job new x (laws.keeps s new k event kept happens) out) (m.since.waits since (sym told.after ∙ is) (sym same_call ∙ out));
  };
}

same_worker : (h g : Hold) → Some h ≡ Some g → h.worker ≡ g.worker
same_worker h g e = let f : h ≡ g = cc in ap (λ (x : Hold). x.worker) f

-- `HoldKnown` of other passes, when the holder stays
pub hold_others : (job : CoreJob) (s new : State) (k x : ℕ) (h g : Hold) → x ≢ k → s.hold ≡ Some h → h.worker ≡ k → new.hold ≡ Some g → g.worker ≡ k → (v : Maybe HoldView) → HoldKnown job s v x → HoldKnown job new v x
hold_others job s new k x h g ne was at now at' None m = λ i is f. let e = same_worker g i (sym now ∙ is) in ne (sym f ∙ (sym e ∙ at'))
hold_others job s new k x h g ne was at now at' (Some v) m = let e = same_worker h (hold_of x v) (sym was ∙ m.0) in absurd (ne (sym e ∙ at))

-- when the flag is won
pub hold_won : (job : CoreJob) (s new : State) (k x : ℕ) (g : Hold) → x ≢ k → s.hold ≡ None → new.hold ≡ Some g → g.worker ≡ k → (v : Maybe HoldView) → HoldKnown job s v x → HoldKnown job new v x
hold_won job s new k x g ne was now at None m = λ i is f. let e = same_worker g i (sym now ∙ is) in ne (sym f ∙ (sym e ∙ at))
hold_won job s new k x g ne was now at (Some v) m = let e = sym was ∙ m.0 in absurd (cc)

-- when it is released
pub hold_gone : (job : CoreJob) (s new : State) (k x : ℕ) (h : Hold) → x ≢ k → s.hold ≡ Some h → h.worker ≡ k → new.hold ≡ None → (v : Maybe HoldView) → HoldKnown job s v x → HoldKnown job new v x
hold_gone job s new k x h ne was at now None m = λ i is. let e = sym now ∙ is in absurd (cc)
hold_gone job s new k x h ne was at now (Some v) m = let e = same_worker h (hold_of x v) (sym was ∙ m.0) in absurd (ne (sym e ∙ at))

-- when hold, tasks and book stay
pub hold_same : (job : CoreJob) (s new : State) (x : ℕ) → new.hold ≡ s.hold → new.book ≡ s.book → ((u : ℕ) → new.task u ≡ s.task u) → (v : Maybe HoldView) → HoldKnown job s v x → HoldKnown job new v x
hold_same job s new x same_hold same_book same_task None m = λ i is. m i (sym same_hold ∙ is)
hold_same job s new x same_hold same_book same_task (Some v) m = (
  same_hold ∙ m.0,
  same_book ∙ m.1,
  (λ u call is yet. subst (λ (b : List (List Entry)). IsRecordOf job b (new.task u) call) (sym same_book) (subst (λ (y : Task). IsRecordOf job s.book y call) (sym (same_task u)) (m.2 u call is yet))),
  m.3,
)

-- a record slot changes with its worker's status
pub slots_record : (job : CoreJob) (room : ℕ) (homes : List (Option Slot)) (task : ℕ → Task) (status : ℕ → Status) (hold hold' : Maybe Hold) (book : List (List Entry)) (j : ℕ) (x : Status) (h : Option Slot)
    → SlotsShow job room homes task status hold book → j < job.workers → RecordAt job book (task j) x (some h)
    → ((home : SlotHome) → ShopAt hold book home → ShopAt hold' book home) → ((home : SlotHome) → BookAt room hold book home → BookAt room hold' book home)
    → SlotsShow job room (set homes j h) task (put status j x) hold' book
slots_record job room homes task status hold hold' book j x h o below here shop batches = record {
  wide = length-set homes j h ∙ o.wide;
  records = λ u low. elim (cases_eq u j) [
    | inl e ↦ subst (λ (m : ℕ). RecordAt job book (task m) (put status j x m) (get_elem? (set homes j h) m)) (sym e)
        (rw (put_at status j j x refl, set_here homes j h (omega (arith, o.wide, below))) here)
    | inr ne ↦ rw (put_other status j u x ne, set_else homes j u h ne) (o.records u low)
  ];
  shop = rw (set_else homes j job.workers h (λ e. omega arith)) (shop (get_elem? homes job.workers) o.shop);
  batches = rw (set_else homes j (job.workers + 1) h (λ e. omega arith)) (batches (get_elem? homes (job.workers + 1)) o.batches);
}
