-- The step that publishes.
use Rattle.std.proofs.Common.{ℕ, ◌≡◌, ◌<◌, ◌≤◌, ◌+◌, ◌*◌, ◌%◌, ◌^◌, Bool, true, false, Option as Maybe, Some, List, [], ◌∷◌, ◌++◌, map, length, get_or, set, arith, refl, sym, ap, ◌∙◌, subst, length-append, length-set, append_assoc, inl, get_or-set_other}
use Rattle.limits.specs.declared.TheConstants.{MOST_LEAVES, MOST_WORKERS}
use mathlib.Core.Option.{none, some}
use lib.ListN.{get_elem?}
use Rattle.atomic_table.specs.Table.{step, keeps, gives}
use Rattle.atomic_table.proofs.Lists.{set_here, set_else}
use Rattle.batch_history.specs.declared.batch.Entry.{Entry}
use Rattle.batch_history.specs.Book.{flat, IsHistory}
use Rattle.core_model.specs.declared.task.Task.{Task}
use Rattle.core_model.specs.declared.status.Status.{Status}
use Rattle.core_model.specs.declared.event.Event.TheVariants.{Publish}
use Rattle.core_model.specs.State.{CoreJob, Hold, State}
use Rattle.core_model.specs.Operations.{op_of, Place}
use Rattle.core_model.specs.Serving.{served}
use Rattle.core_model.specs.Events.{Happens, published, IsTakenCall, IsBatchOf}
use Rattle.core_model.specs.Invariant.Statuses.{is_taken_by}
use Rattle.core_model.specs.declared.status.Status.TheVariants.{Free, Pending, Executing}
use Rattle.core_model.specs.Invariant.{Parts}
use Rattle.core_model.specs.Waits.{task_place}
use Rattle.table_rule.proofs.ListLemmas.CallCounts.{room_few}
use Rattle.core_model.specs.Measure.{call_count}
use Rattle.core_model.specs.Entries.{entries_of}
use Rattle.table_rule.specs.declared.slot.OpRecord.{OpRecord}
use Rattle.table_rule.specs.declared.view.HoldView.{HoldView}
use Rattle.table_rule.specs.declared.view.View.{View}
use Rattle.table_rule.specs.declared.slot.Slot.{Slot}
use Rattle.table_rule.specs.declared.slot.Slot.TheVariants as Slots
use Rattle.table_rule.specs.Words.{stop_at, count_at, book_at, WordsShow}
use Rattle.table_rule.specs.Laws.{Laws}
use Rattle.table_rule.specs.Steps.{StepRefines, Stutters, MakesEvent}
use Rattle.table_rule.specs.Shows.{reserved, SlotHome, IsRecordOf, RecordAt, ShopAt, record_in, among, hold_of, HoldKnown, entry_of, present, SinceKnown, IsPrefix, AgreesWithView}
use Rattle.table_rule.specs.Batches.{call_of, ServesTaken, IsPublishDue}
use Rattle.table_rule.specs.Passes as W
use Rattle.table_rule.specs.Views as V
use Rattle.table_rule.specs.Plays as G
use Rattle.table_rule.proofs.TableLemmas.Words.{set_count, flag_same}
use Rattle.table_rule.proofs.TableLemmas.Facts.{is_trapped, is_out, is_executing}
use Rattle.table_rule.proofs.TableLemmas.Moved.{mine_of, moved, looked, record_took}
use Rattle.table_rule.proofs.TableLemmas.Through.{SameTold, told_again, told_kept, hold_others}
use Rattle.seq_objects.proofs.Elements.{each_so, each_mapped}
use Rattle.core_model.proofs.BookLemmas.Operations.{is_call}

answers_late : (h : Bool) (b : Bool) → (h ≡ true → b ≡ true) → b ≡ false → h ≡ false
answers_late h b f e = grind arith

executing_free : (st : Status) → st ≡ Executing → st ≡ Free → ⊥
executing_free st e f = absurd (cc)

place_same : (a b : Place) (o : Maybe Place) → o ≡ Some a → o ≡ Some b → a ≡ b
place_same a b o e f = cc

-- a prefix of a book is a prefix of a longer one
longer : (xs ys : List (List Entry)) (batch : List Entry) → IsPrefix xs ys → IsPrefix xs (ys ++ batch ∷ [])
longer xs ys batch h = (h.0 ++ batch ∷ [], ap (λ l. l ++ batch ∷ []) h.1 ∙ append_assoc xs h.0 (batch ∷ []))

-- a call is its leaf's under a longer book too
record_kept : (job : CoreJob) (laws : Laws job) (book : List (List Entry)) (batch : List Entry) (task : Task) (call : OpRecord) → IsRecordOf job book task call → IsRecordOf job (book ++ batch ∷ []) task call
record_kept job laws book batch task call is = (is.0, is.1, is.2, is.3, laws.operations book batch call.leaf call.op is.4)

record_at_kept : (job : CoreJob) (laws : Laws job) (book : List (List Entry)) (batch : List Entry) (task : Task) (status : Status) (home : SlotHome) → RecordAt job book task status home → RecordAt job (book ++ batch ∷ []) task status home
record_at_kept job laws book batch task Free home at = tt
record_at_kept job laws book batch task Pending home at = (at.0, at.1, record_kept job laws book batch task at.0 at.2)
record_at_kept job laws book batch task _ home at = at

-- `AgreesWithView` after a batch is published
module _ (job : CoreJob) (laws : Laws job) (s : State) (k : ℕ) (batch : List Entry) (parts : Parts job s) where
  abbrev later : State
  later = record s { book = s.book ++ batch ∷ []; objects = served s.objects batch; hold = published s.hold }

  entries_after : (x : ℕ) (v : View) → Happens job s k Publish later
      → entries_of x (flat s.book) ≡ map (entry_of x) v.own.left ++ present (s.call x) (task_place job s.book (s.task x))
      → entries_of x (flat later.book) ≡ map (entry_of x) v.own.left ++ present (s.call x) (task_place job later.book (s.task x))
  entries_after x v happens old =
      elim (is_taken_by s.hold x) as (λ (b : Bool). is_taken_by s.hold x ≡ b → entries_of x (flat later.book) ≡ map (entry_of x) v.own.left ++ present (s.call x) (task_place job later.book (s.task x))) [
        | false ↦ λ untaken. let t = laws.untaken s later k parts happens x untaken in rw (t.0, t.1) old
        | true ↦ λ took.
            let t = laws.taken s later k parts happens x took in
            let out = is_out job s x parts (λ free. executing_free (s.status x) (is_executing job s x parts took) free) in
            let old' : entries_of x (flat s.book) ≡ map (entry_of x) v.own.left ++ [] = rw (out, t.0) at old in
            rw (out, t.2) (t.5 ∙ (ap (λ l. l ++ t.1.entry ∷ []) old' ∙ append_assoc (map (entry_of x) v.own.left) [] (t.1.entry ∷ [])))
      ] refl

  since_after : (x : ℕ) (v : View) → Happens job s k Publish later → Parts job later → SinceKnown job s v x → SinceKnown job later v x
  since_after x v happens parts_later m =
      let long = length-append s.book (batch ∷ []) in record {
        most = omega (arith, m.most, long);
        early = m.early;
        late = m.late;
        placed = λ place out at.
            elim (is_taken_by s.hold x) as (λ (b : Bool). is_taken_by s.hold x ≡ b → v.own.before ≤ place.batch) [
              | false ↦ λ untaken. m.placed place out (sym (laws.untaken s later k parts happens x untaken).1 ∙ at)
              | true ↦ λ took.
                  let t = laws.taken s later k parts happens x took in
                  let same : t.1 ≡ place = place_same t.1 place (task_place job later.book (s.task x)) t.2 at in
                  let batch_is : place.batch ≡ length s.book = ap (λ (p : Place). p.batch) (sym same) ∙ t.3 in
                  omega (arith, batch_is, m.most, m.early)
            ] refl;
        waits = λ since told out. laws.waits s later k Publish x since parts happens (is_trapped job later x parts_later out) (m.waits since told out);
      }

  mine_after : (x : ℕ) (v w : View) (home home' : SlotHome) (seat id : ℕ) → Happens job s k Publish later → Parts job later → home' ≡ home → SameTold v w → HoldKnown job later w.own.hold x → AgreesWithView job s home seat id v x → AgreesWithView job later home' seat id w x
  mine_after x v w home home' seat id happens kept_later same told hold m = record {
    sits = m.sits;
    task = m.task ∙ sym told.task;
    call = m.call ∙ sym told.call;
    posted = λ out. let was = m.posted out in (was.0, told.posted ∙ was.1, record_kept job laws s.book batch (s.task x) was.0 was.2);
    told = λ value is. told_kept job laws s later x v.own.task w.own.task value kept_later m.task (sym told.task) (λ leaf v at. laws.values s.book batch leaf v at) (m.told value (sym told.told ∙ is));
    hold = hold;
    entries = rw told.left (entries_after x v happens m.entries);
    new = λ e. let t = m.new (sym told.enrolled ∙ e) in (same ∙ t.0, told.task ∙ t.1, told.call ∙ t.2, told.left ∙ t.3);
    done = λ e. m.done (sym told.saw_done ∙ e);
    seen = rw told.book_seen (longer v.own.book_seen s.book batch m.seen);
    since = let a = since_after x v happens kept_later m.since in record {
      most = rw told.greatest a.most;
      early = rw (told.greatest, told.before) a.early;
      late = rw (told.greatest, told.after) a.late;
      placed = rw told.before a.placed;
      waits = rw told.after a.waits;
    };
  }

to_taken : (job : CoreJob) (s : State) (k : ℕ) (h : HoldView) → s.hold ≡ Some (hold_of k h) → ((u : ℕ) → among h.answered u ≡ false)
    → ((u : ℕ) (call : OpRecord) → record_in h.taken u ≡ Some call → among h.answered u ≡ false → IsRecordOf job s.book (s.task u) call)
    → (e : Entry) → record_in h.taken e.worker ≡ Some (call_of e) → IsTakenCall job s e
to_taken job s k h held told known e at =
    let is = known e.worker (call_of e) at (told e.worker) in record {
      taken = rw held (record_took h.taken e.worker (call_of e) at);
      node = is.0;
      started = (is.3, is.1, is.2);
      operation = is.4;
    }

told_none : (job : CoreJob) (s : State) (k : ℕ) (h : HoldView) → Parts job s → s.hold ≡ Some (hold_of k h) → h.published ≡ false → (u : ℕ) → among h.answered u ≡ false
told_none job s k h kept held early u = let stands = rw held at kept.hold in answers_late (among h.answered u) h.published (stands.6 u) early

-- the batch of the view is the batch of the state
to_batch : (job : CoreJob) (s : State) (k : ℕ) (h : HoldView) (batch : List Entry) → Parts job s → s.hold ≡ Some (hold_of k h) → s.book ≡ h.book → ((u : ℕ) → among h.answered u ≡ false)
    → ((u : ℕ) (call : OpRecord) → record_in h.taken u ≡ Some call → among h.answered u ≡ false → IsRecordOf job s.book (s.task u) call)
    → ServesTaken h batch → IsBatchOf job s batch
to_batch job s k h batch kept held same told known serves = record {
  is_batch = serves.is_batch;
  only = each_so (λ (e : Entry). record_in h.taken e.worker ≡ Some (call_of e)) (IsTakenCall job s) (to_taken job s k h held told known) batch serves.only;
  each = λ w took. serves.each w (rw held at took);
  replies = rw (kept.book.objects_after, same) serves.replies;
}

-- the book of a state is a history
is_history : (job : CoreJob) (laws : Laws job) (s : State) → job.workers ≤ MOST_WORKERS → Parts job s → IsHistory s.book
is_history job laws s few parts = record {
  legal = parts.book.legal;
  batches = parts.book.batches;
  workers = each_so (λ (e : Entry). e.worker < job.workers) (λ (e : Entry). e.worker < MOST_WORKERS) (λ e low. omega arith) (flat s.book) parts.book.among;
  leaves = parts.book.leaves;
  numbers = each_mapped (λ (e : Entry). e.leaf) (λ (e : Entry). op_of job s.book e.leaf ≡ Some e.op) (λ (l : ℕ). l < 2 ^ 32) (λ e op. laws.low e.leaf (is_call job s.book e.leaf e.op op)) (flat s.book) parts.book.operations;
}

-- the batches of a book
abbrev batches_in : Slot → List (List Entry)
batches_in Slots.Vacant = []
batches_in (Slots.Record call) = []
batches_in (Slots.Receipt receipt) = []
batches_in (Slots.Shop book) = []
batches_in (Slots.Book book) = book.batches

batches_same : (a b : List (List Entry)) (r : ℕ) → Slots.Book (reserved a r) ≡ Slots.Book (reserved b r) → a ≡ b
batches_same a b r e = ap batches_in e

-- a book has fewer than twice `MOST_LEAVES` batches
few_batches : (job : CoreJob) (laws : Laws job) (s : State) → Parts job s → length s.book < 2 * MOST_LEAVES
few_batches job laws s parts =
    let most = laws.batches s parts in
    let room = laws.room s [] parts tt tt in
    let calls = room_few job in
    omega (arith, most, room, calls, laws.few)

publish_does : (s : State) (k : ℕ) (h : HoldView) (batch : List Entry) → s.hold ≡ Some (hold_of k h) → published s.hold ≡ Some (hold_of k (W.after_publish batch h))
publish_does s k h batch held = rw held refl

module _ (job : CoreJob) (room : ℕ) (laws : Laws job) (slots id : ℕ) (v : View) (xs : List (ℕ × Slot)) (k : ℕ) (from : v.own.worker ≡ k) (to : v.to ≡ k + 1) where
  abbrev P : ℕ
  P = job.workers

  abbrev N : ℕ
  N = job.plan.count

  same_book : (i j : ℕ) (a b : List (List Entry)) (r : ℕ) → (i, Slots.Book (reserved a r)) ∷ xs ≡ (j, Slots.Book (reserved b r)) ∷ xs → a ≡ b
  same_book i j a b r e = batches_same a b r (ap (λ (l : List (ℕ × Slot)). (get_or l 0 (i, Slots.Book (reserved a r))).1) e)

  last_same : (xs ys : List (List Entry)) (a b : List Entry) → xs ++ a ∷ [] ≡ ys ++ b ∷ [] → xs ≡ ys → a ≡ b
  last_same [] [] a b e f = cc
  last_same [] (y ∷ ys) a b e f = absurd (cc)
  last_same (x ∷ xs) [] a b e f = absurd (cc)
  last_same (x ∷ xs) (y ∷ ys) a b e f = let e' : xs ++ a ∷ [] ≡ ys ++ b ∷ [] = cc in let f' : xs ≡ ys = cc in last_same xs ys a b e' f'

  -- the event of a publish that is due
  can_publish : (s : State) (h : HoldView) (batch : List Entry) → Parts job s → k < job.workers → HoldKnown job s (Some h) k → IsPublishDue job.workers h batch
      → Happens job s k Publish (record s { book = s.book ++ batch ∷ []; objects = served s.objects batch; hold = published s.hold })
  can_publish s h batch parts low known due =
      let told : (u : ℕ) → among h.answered u ≡ false = λ u. told_none job s k h parts known.0 due.early u in record {
        worker_in = low;
        needs = (hold_of k h, (known.0, refl), due.looked, due.some, due.early);
        does = (batch, to_batch job s k h batch parts known.0 known.1 told known.2 due.serves, refl);
      }

  -- the look before a publish: the book has room for the batch, and stays a history with it
  pub admits : (i : ℕ) → v.workers ≡ job.workers → v.room ≡ call_count job → job.workers ≤ MOST_WORKERS → StepRefines job room slots id (v, xs) i (λ y. y) (G.admitted (step slots i 0 0 none) (v, xs)) (Stutters)
  admits i sized roomy few t o wide me fits =
      let s = o.state in
      let m = mine_of job room t o id k v me from to in (
        v,
        keeps,
        tt,
        looked job room t o id k i v v me from to from to refl refl (λ h. inl h) [] refl refl tt (λ m. m),
        (
          refl,
          λ h batch holds due'.
              let due = subst (λ (y : ℕ). IsPublishDue y h batch) sized due' in
              let known = subst (λ (z : Maybe HoldView). HoldKnown job s z k) holds m.1.hold in
              let new : State = record s { book = s.book ++ batch ∷ []; objects = served s.objects batch; hold = published s.hold } in
              let later = laws.keeps s new k Publish o.parts (can_publish s h batch o.parts m.0 known due) in
              let whole = is_history job laws new few later in
              let most = laws.batches new later in
              let room = laws.room new [] later tt tt in
              let long = length-append s.book (batch ∷ []) in
              let same = ap (λ (b : List (List Entry)). length b) known.1 in
              (subst (λ (b : List (List Entry)). IsHistory (b ++ batch ∷ [])) known.1 whole, omega (arith, most, room, long, same, roomy)),
        ),
      )

  pub publishes : (h : HoldView) (batch : List Entry) → v.own.hold ≡ Some h → v.room ≡ room → IsPublishDue job.workers h batch
      → StepRefines job room slots id (v, (book_at P, Slots.Book (reserved (h.book ++ batch ∷ []) room)) ∷ xs) (count_at P) (λ y. (y + 1) % 2 ^ 64)
      (G.published (step slots (count_at P) 1 0 none) (v, (book_at P, Slots.Book (reserved (h.book ++ batch ∷ []) room)) ∷ xs)) (MakesEvent job k Publish)
  publishes h batch holds roomy due t o wide me fits =
      let s = o.state in
      let book = reserved (h.book ++ batch ∷ []) room in
      let word = get_or t.words (count_at P) 0 in
      let m = mine_of job room t o id k v me from to in
      let known = subst (λ (z : Maybe HoldView). HoldKnown job s z k) holds m.1.hold in
      let hd = hold_of k h in
      let held : s.hold ≡ Some hd = known.0 in
      let f = W.after_publish batch in
      let h' = f h in
      let w : View = V.with_step (W.publishing batch) v in
      let new : State = record s { book = s.book ++ batch ∷ []; objects = served s.objects batch; hold = published s.hold } in
      let hold_new : published s.hold ≡ Some (hold_of k h') = publish_does s k h batch held in
      let happens : Happens job s k Publish new = can_publish s h batch o.parts m.0 known due in
      let parts_later = laws.keeps s new k Publish o.parts happens in
      let long : length (s.book ++ batch ∷ []) ≡ length s.book + 1 = length-append s.book (batch ∷ []) in
      let few : length s.book < 2 * MOST_LEAVES = few_batches job laws s o.parts in
      let count : (word + 1) % 2 ^ 64 ≡ length (s.book ++ batch ∷ []) = omega (arith, long, o.words.batches, few) in
      let homes = set t.homes (book_at P) (some (Slots.Book book)) in
      let far : (x : ℕ) → x < P → get_elem? homes x ≡ get_elem? t.homes x = λ x low. set_else t.homes (P + 1) x (some (Slots.Book book)) (λ e. omega arith) in (
        w,
        gives,
        tt,
        moved job room laws t o id k v w (set t.words (count_at P) ((word + 1) % 2 ^ 64)) homes Publish new happens me from to from to [] record { events = refl; stops = refl; found = refl; misses = refl; stopped = refl } tt (get_or-set_other t.words (count_at P) (stop_at P) ((word + 1) % 2 ^ 64) 0 (λ e. omega arith))
            (subst (λ (z : ℕ). WordsShow P N (set t.words (count_at P) z) s.node s.mark s.value s.status (published s.hold) s.tick (length (s.book ++ batch ∷ []))) (sym count)
            (flag_same P N (set t.words (count_at P) (length (s.book ++ batch ∷ []))) s.node s.mark s.value s.status s.hold (published s.hold) s.tick (length (s.book ++ batch ∷ [])) (rw held refl)
            (set_count P N t.words s.node s.mark s.value s.status s.hold s.tick (length s.book) o.words (length (s.book ++ batch ∷ [])))))
            record {
              wide = length-set t.homes (P + 1) (some (Slots.Book book)) ∙ o.slots.wide;
              records = λ u low. rw (far u low) (record_at_kept job laws s.book batch (s.task u) (s.status u) (get_elem? t.homes u) (o.slots.records u low));
              shop = rw (hold_new, set_else t.homes (P + 1) P (some (Slots.Book book)) (λ e. omega arith)) (subst (λ (z : Maybe Hold). ShopAt z s.book (get_elem? t.homes P)) held o.slots.shop);
              batches = rw hold_new (set_here t.homes (P + 1) (some (Slots.Book book)) (omega (arith, o.slots.wide)) ∙ ap (λ b. some (some (Slots.Book (reserved (b ++ batch ∷ []) room)))) (sym known.1));
            }
            (λ own. mine_after job laws s k batch o.parts k v w (get_elem? t.homes k) (get_elem? homes k) (o.seat k) id happens parts_later (far k m.0)
            record { task = refl; call = refl; told = refl; posted = refl; left = refl; enrolled = refl; saw_done = refl; greatest = refl; before = refl; after = refl; book_seen = refl }
            (subst (λ (z : Maybe HoldView). HoldKnown job new (W.in_hold f z) k) (sym holds) (hold_new, ap (λ b. b ++ batch ∷ []) known.1, (λ u call is yet. record_kept job laws s.book batch (s.task u) call (known.2 u call is yet)), known.3)) own)
            (λ i x y low ne other. mine_after job laws s k batch o.parts x y y (get_elem? t.homes x) (get_elem? homes x) (o.seat x) i happens parts_later (far x low) (told_again y)
            (hold_others job s new k x hd (hold_of k h') ne held refl hold_new refl y.own.hold other.hold) other),
        λ g c is at.
            let same_view : h ≡ g = (let e = sym holds ∙ is in cc) in
            let at' = subst (λ (r : ℕ). (book_at P, Slots.Book book) ∷ xs ≡ (book_at v.workers, Slots.Book (reserved (g.book ++ c ∷ []) r)) ∷ xs) roomy at in
            let b' = same_book (book_at P) (book_at v.workers) (h.book ++ batch ∷ []) (g.book ++ c ∷ []) room at' in
            let c' : batch ≡ c = last_same h.book g.book batch c b' (ap (λ (z : HoldView). z.book) same_view) in
            λ i. (V.with_step (W.publishing (c' i)) v, xs),
      )

  pub publishes_at : (g : G.SeatState) (h : HoldView) (batch : List Entry) → g ≡ (v, (book_at P, Slots.Book (reserved (h.book ++ batch ∷ []) room)) ∷ xs) → v.own.hold ≡ Some h → v.room ≡ room → IsPublishDue job.workers h batch
      → StepRefines job room slots id g (count_at P) (λ y. (y + 1) % 2 ^ 64) (G.published (step slots (count_at P) 1 0 none) g) (MakesEvent job k Publish)
  publishes_at g h batch e holds roomy due =
      subst (λ (g : G.SeatState). StepRefines job room slots id g (count_at P) (λ y. (y + 1) % 2 ^ 64) (G.published (step slots (count_at P) 1 0 none) g) (MakesEvent job k Publish)) (sym e) (publishes h batch holds roomy due)
