-- The steps of calls and of holds of the flag.
use Rattle.std.proofs.Common.{ℕ, ◌≡◌, ◌≢◌, ◌<◌, ◌≤◌, ◌+◌, Bool, true, false, if◌then◌else◌, ◌==◌, Option as Maybe, None, Some, List, [], ◌∷◌, ◌++◌, map, length, get_or, set, eqb, arith, refl, sym, ap, ◌∙◌, subst, inl, inr, ⊎_elim, length-set, get_or-set_other}
use Rattle.std.proofs.lemmas.List.{length-map, map-append, append-nil}
use Rattle.std.proofs.lemmas.Bool.Decides.{nat_tests}
use Rattle.std.proofs.lemmas.Bool.{cases_eq}
use mathlib.Core.Option.{Option, none, some}
use lib.ListN.{get_elem?}
use lib.Seq.{set-get_or}
use prog.Atomic.{either}
use Rattle.atomic_table.specs.Table.{step, Act, keeps, takes, gives, chain, Valid, carried_after, stepped}
use Rattle.atomic_table.proofs.Lists.{exchanged, set_here, set_else}
use Rattle.batch_history.specs.declared.batch.Entry.{Entry}
use Rattle.std.specs.List.{AllByRecursion}
use Rattle.seq_objects.specs.declared.op.Op.{Op}
use Rattle.seq_objects.specs.Pairs.{AreDistinct}
use Rattle.batch_history.specs.Book.{flat}
use Rattle.core_model.specs.Entries.{IsUnserved}
use Rattle.core_model.specs.Measure.{call_count}
use Rattle.sp_order.specs.declared.node.Kind.TheVariants.{LeafNode}
use Rattle.core_model.specs.declared.task.Task.{Task}
use Rattle.core_model.specs.declared.task.Task.TheVariants.{Started}
use Rattle.core_model.specs.declared.status.Receipt.{Receipt}
use Rattle.core_model.specs.declared.status.Status.{Status}
use Rattle.core_model.specs.declared.status.Status.TheVariants.{Free, Pending, Executing, Served}
use Rattle.core_model.specs.declared.status.CallState.{CallState}
use Rattle.core_model.specs.declared.status.CallState.TheVariants.{NotCalled, Out, Got}
use Rattle.core_model.specs.declared.event.Event.{Event}
use Rattle.core_model.specs.declared.event.Event.TheVariants.{Post, Win, Take, Answer, Release, Leave}
use Rattle.core_model.specs.State.{put, CoreJob, Hold, State}
use Rattle.core_model.specs.Operations.{leaf_of, op_from, op_of, value_under, IsCall, Place, place_of, IsReceipt, receipt_for}
use Rattle.core_model.specs.Events.{Happens, made, is_pending, new_hold}
use Rattle.core_model.specs.Invariant.Statuses.{is_taken_by}
use Rattle.core_model.specs.Invariant.{Parts}
use Rattle.core_model.specs.Waits.{WaitsSince, task_place}
use Rattle.table_rule.specs.declared.slot.OpRecord.{OpRecord}
use Rattle.seq_objects.specs.declared.call.Call.{Call}
use Rattle.table_rule.specs.declared.view.HoldView.{HoldView}
use Rattle.table_rule.specs.declared.view.View.{View}
use Rattle.table_rule.specs.declared.slot.Slot.{Slot}
use Rattle.table_rule.specs.declared.slot.Slot.TheVariants as Slots
use Rattle.table_rule.specs.Words.{stop_at, flag_at, shop_at, book_at, status_code, flag_code, WordsShow}
use Rattle.table_rule.specs.Laws.{Laws}
use Rattle.table_rule.specs.Steps.{ShowsOne, StepRefines, TryMakes, MakesEvent, MakesLeave}
use Rattle.table_rule.specs.Tasks.{job_seen_with}
use Rattle.table_rule.proofs.StepLemmas.NextActs.{MayPost}
use Rattle.table_rule.specs.Shows.{reserved, TableState, SlotHome, IsPrefix, IsRecordOf, RecordAt, ShopAt, IsBookHome, BookIf, BookAt, took_in, record_in, among, hold_of, HoldKnown, entry_of, Shows}
use Rattle.table_rule.specs.Passes as W
use Rattle.table_rule.specs.Views as V
use Rattle.table_rule.specs.Plays as G
use Rattle.table_rule.proofs.TableLemmas.Words.{set_status, set_flag, flag_same}
use Rattle.table_rule.proofs.TableLemmas.Facts.{is_free, is_trapped, is_executing, not_in_book}
use Rattle.table_rule.proofs.TableLemmas.Misses.{miss_of, noted_at, miss_seen}
use Rattle.table_rule.proofs.TableLemmas.Moved.{mine_of, moved, looked, found, missed, true_false, record_took, free_untaken, held_yes}
use Rattle.core_model.specs.Entries.{StandsAt}
use Rattle.table_rule.proofs.ListLemmas.Last.{took_put, among_put, record_last, workers_last}
use Rattle.table_rule.proofs.StepLemmas.TakeOk.{pending_is_new, taken_is_new}
use Rattle.table_rule.proofs.StepLemmas.ToldOps.{told_value, told_op}
use Rattle.table_rule.proofs.TableLemmas.Through.{SameTold, told_again, told_kept, reseen, through, hold_others, hold_won, hold_gone, hold_same, slots_record}
use Rattle.core_model.proofs.BookLemmas.Operations.{is_call}
use Rattle.core_model.proofs.InvariantLemmas.Puts.{put_at, put_other}

-- what the number found says of the flag, or of a status
free_flag : (h : Maybe Hold) → flag_code h ≡ 0 → h ≡ None
free_flag None e = refl
free_flag (Some h) e = absurd (omega (arith, e))

pending_word : (st : Status) → status_code st ≡ 1 → st ≡ Pending
pending_word Pending e = refl
pending_word _ e = absurd (omega (arith, e))

other_word : (st : Status) → status_code st ≢ 1 → is_pending st ≡ false
other_word Pending e = absurd (e refl)
other_word _ e = refl

served_word : (st : Status) → status_code st ≡ 3 → (r : Receipt) × (st ≡ Served r)
served_word (Served r) e = (r, refl)
served_word _ e = absurd (omega (arith, e))

called_got : (c : CallState) (r : Receipt) → c ≡ NotCalled → c ≡ Got r → ⊥
called_got c r e f = absurd (cc)

free_served : (st : Status) (r : Receipt) → st ≡ Free → st ≡ Served r → ⊥
free_served st r e f = absurd (cc)

free_executing : (st : Status) → st ≡ Free → st ≡ Executing → ⊥
free_executing st e f = absurd (cc)

-- a call that is not posted yet is not in the book
unbooked : (job : CoreJob) (s : State) (w n t leaf : ℕ) → Parts job s → s.task w ≡ Started n t → job.plan.kind n ≡ Some (LeafNode leaf) → IsCall job leaf → s.status w ≡ Free → s.call w ≡ NotCalled → place_of s.book leaf ≡ None
unbooked job s w n t leaf parts task kind call free called = not_in_book job s w n t leaf parts task kind call (λ r e. called_got (s.call w) r called e) (λ r e. free_served (s.status w) r free e) (λ e. absurd (free_executing (s.status w) free e))

started_place : (job : CoreJob) (book : List (List Entry)) (task : Task) (n t leaf : ℕ) → task ≡ Started n t → job.plan.kind n ≡ Some (LeafNode leaf) → task_place job book task ≡ place_of book leaf
started_place job book task n t leaf e kind = rw (e, kind) refl

leaf_is : (job : CoreJob) (n leaf : ℕ) → job.plan.kind n ≡ Some (LeafNode leaf) → IsCall job leaf → IsCall job (leaf_of (job.plan.kind n))
leaf_is job n leaf kind call = rw kind call

none_held : (job : CoreJob) (s : State) (k : ℕ) (o : Maybe HoldView) → HoldKnown job s o k → s.hold ≡ None → o ≡ None
none_held job s k None m e = refl
none_held job s k (Some h) m e = let f = sym e ∙ m.0 in absurd (cc)

not_published : (b : Bool) (looks workers : ℕ) → (b ≡ true → looks ≡ workers) → looks < workers → b ≡ false
not_published true looks workers f low = let e = f refl in absurd (omega arith)
not_published false looks workers f low = refl

none_answered : (a b : Bool) → (a ≡ true → b ≡ true) → b ≡ false → a ≡ false
none_answered a b f e = grind arith

-- the entry of a call that is served
pub record IsServed (job : CoreJob) (s : State) (k : ℕ) (call : OpRecord) (r : Receipt) : Type 0 where
  pub place : Place
  pub at : task_place job s.book (s.task k) ≡ Some place
  pub receipt : r ≡ receipt_for place
  pub entry : place.entry ≡ entry_of k (record { call = call; receipt = r })
  pub stands : StandsAt s.book r.batch r.place (entry_of k (record { call = call; receipt = r }))

is_served : (job : CoreJob) (laws : Laws job) (s : State) (k : ℕ) (call : OpRecord) (r : Receipt) → Parts job s → s.status k ≡ Served r → IsRecordOf job s.book (s.task k) call → IsServed job s k call r
is_served job laws s k call r parts st is =
    let t = laws.receipt s k is.0 call.leaf call.op r parts st (is.3, is.1, is.2) is.4 in record {
      place = t.0;
      at = t.1;
      receipt = t.3;
      entry = t.4;
      stands = subst (λ (e : Entry). StandsAt s.book r.batch r.place e) t.4 t.5;
    }

-- the receipt's batch is at most one past `after`
told_by : (job : CoreJob) (s : State) (k since : ℕ) (r : Receipt) (p : Place) → s.status k ≡ Served r → task_place job s.book (s.task k) ≡ Some p → WaitsSince job s k since → p.batch ≤ since + 1
told_by job s k since r p st at h = rw (st, at) at h

vacant_record : (c : OpRecord) (home : SlotHome) → home ≡ some (some (Slots.Record c)) → home ≡ some (some Slots.Vacant) → ⊥
vacant_record c home e f = let g = sym e ∙ f in cc

if_false : (a b : ℕ) (x : Bool) → (if a == b then true else x) ≡ false → (a ≢ b) × (x ≡ false)
if_false a b x e = ((λ f. grind (arith, nat_tests)), grind (arith, nat_tests))

-- a look that finds nothing pending
take_passes : (s : State) (k u : ℕ) (h : HoldView) (status : ℕ) → s.hold ≡ Some (hold_of k h) → is_pending (s.status u) ≡ false → record s { hold = Some (hold_of k (W.after_pass status h)) } ≡ made s k (Take u)
take_passes s k u h status held p = rw (p, held) refl

-- and one that takes a call
take_takes : (s : State) (k u : ℕ) (h : HoldView) (call : OpRecord) → s.hold ≡ Some (hold_of k h) → s.status u ≡ Pending → record s { status = put s.status u Executing; hold = Some (hold_of k (W.after_take (W.call_by u call) h)) } ≡ made s k (Take u)
take_takes s k u h call held p =
    let last : record s { status = put s.status u Executing; hold = Some (record (hold_of k h) { looks = h.looks + 1; taken = put (took_in h.taken) u true }) } ≡ made s k (Take u) = rw (p, held) refl in
    (λ i. record s { status = put s.status u Executing; hold = Some (record (hold_of k h) { looks = h.looks + 1; taken = λ x. took_put h.taken (W.call_by u call) x i }) }) ∙ last

-- an answer
answer_tells : (s : State) (k u : ℕ) (h : HoldView) (r : Receipt) → s.hold ≡ Some (hold_of k h) → record s { status = put s.status u (Served r); hold = Some (hold_of k (W.after_answer u h)) } ≡ made s k (Answer u r)
answer_tells s k u h r held =
    let last : record s { status = put s.status u (Served r); hold = Some (record (hold_of k h) { answered = put (among h.answered) u true }) } ≡ made s k (Answer u r) = rw held refl in
    (λ i. record s { status = put s.status u (Served r); hold = Some (record (hold_of k h) { answered = λ x. among_put h.answered u x i }) }) ∙ last

-- what the holder knows, once it has taken one more call
took_more : (job : CoreJob) (s : State) (u : ℕ) (call : OpRecord) (h : HoldView) → IsRecordOf job s.book (s.task u) call
    → ((x : ℕ) (c : OpRecord) → record_in h.taken x ≡ Some c → among h.answered x ≡ false → IsRecordOf job s.book (s.task x) c)
    → (x : ℕ) (c : OpRecord) → record_in (h.taken ++ W.call_by u call ∷ []) x ≡ Some c → among h.answered x ≡ false → IsRecordOf job s.book (s.task x) c
took_more job s u call h is old x c e yet = ⊎_elim
    (λ f. old x c f yet)
    (λ f. subst (λ (y : ℕ). IsRecordOf job s.book (s.task y) c) (sym f.0) (subst (IsRecordOf job s.book (s.task u)) f.1 is))
    (record_last h.taken (W.call_by u call) x c e)

took_later : (t : Call) (taken : List Call) (x : ℕ) → took_in taken x ≡ true → took_in (t ∷ taken) x ≡ true
took_later t taken x e = grind (arith, nat_tests)

took_first : (t : Call) (taken : List Call) → took_in (t ∷ taken) t.worker ≡ true
took_first t taken = grind (arith, nat_tests)

-- a property of every taken worker holds of all on the list
each_taken : (P : ℕ → Type 0) (taken : List Call) → ((x : ℕ) → took_in taken x ≡ true → P x) → AllByRecursion P (map (λ (t : Call). t.worker) taken)
each_taken P [] h = tt
each_taken P (t ∷ taken) h = (h t.worker (took_first t taken), each_taken P taken (λ x e. h x (took_later t taken x e)))

taken_is : (s : State) (k x : ℕ) (h : HoldView) → s.hold ≡ Some (hold_of k h) → took_in h.taken x ≡ true → among h.answered x ≡ false → is_taken_by s.hold x ≡ true
taken_is s k x h held took yet = rw held (held_yes (took_in h.taken x) (among h.answered x) took yet)

-- the leave with this receipt is some leave
left_with : (job : CoreJob) (room : ℕ) {t : TableState} (s : State) (k word : ℕ) (r : Receipt) → ShowsOne job room (Happens job s k (Leave r)) t → ShowsOne job room (MakesLeave job k s word) t
left_with job room s k word r h = (h.0, (r, h.1))

-- no worker that was taken before is the next one
others_before : (taken : List Call) (u : ℕ) → ((x : ℕ) → took_in taken x ≡ true → x < u) → AllByRecursion (λ y. u ≢ y) (map (λ (t : Call). t.worker) taken)
others_before taken u low = each_taken (λ y. u ≢ y) taken (λ x e is. let below = low x e in absurd (omega (arith, below, is)))

-- the book has room for the calls taken before and the one taken now
taken_fit : (job : CoreJob) (laws : Laws job) (s : State) (k u : ℕ) (h : HoldView) → Parts job s → s.hold ≡ Some (hold_of k h) → h.published ≡ false → s.status u ≡ Pending
    → AllByRecursion (λ y. u ≢ y) (map (λ (t : Call). t.worker) h.taken) → AreDistinct (map (λ (t : Call). t.worker) h.taken) → ((x : ℕ) → among h.answered x ≡ false)
    → length (flat s.book) + length h.taken + 1 ≤ call_count job
taken_fit job laws s k u h parts held early pending new distinct none_told =
    let workers = map (λ (t : Call). t.worker) h.taken in
    let unserved : AllByRecursion (IsUnserved s) workers = each_taken (IsUnserved s) h.taken (λ x took. inr (is_executing job s x parts (taken_is s k x h held took (none_told x)), rw held early)) in
    let all = laws.room s (u ∷ workers) parts (new, distinct) (inl pending, unserved) in
    let long : length workers ≡ length h.taken = length-map h.taken (λ (t : Call). t.worker) in
    omega (arith, all, long)

module _ (job : CoreJob) (room : ℕ) (laws : Laws job) (slots id : ℕ) (v : View) (xs : List (ℕ × Slot)) (k : ℕ) (from : v.own.worker ≡ k) (to : v.to ≡ k + 1) where
  abbrev P : ℕ
  P = job.workers

  abbrev N : ℕ
  N = job.plan.count

  same_call : (n : ℕ) (x : OpRecord) (call : OpRecord) → (n, Slots.Record x) ∷ xs ≡ (n, Slots.Record call) ∷ xs → x ≡ call
  same_call n x call e = let h = ap (λ (l : List (ℕ × Slot)). (get_or l 0 (n, Slots.Record x)).1) e in cc

  same_receipt : (n : ℕ) (x r : Receipt) → (n, Slots.Receipt x) ∷ xs ≡ (n, Slots.Receipt r) ∷ xs → x ≡ r
  same_receipt n x r e = let h = ap (λ (l : List (ℕ × Slot)). (get_or l 0 (n, Slots.Receipt x)).1) e in cc

  -- a post
  pub posts : (call : OpRecord) → v.enrolled ≡ true → (is : MayPost job v.own.told v.own.task call) → v.own.call ≡ NotCalled
      → StepRefines job room slots id (v, (k, Slots.Record call) ∷ xs) k (λ y. 1) (λ y. G.posted (step slots k 1 0 none) (v, (k, Slots.Record call) ∷ xs) 1) (MakesEvent job k (Post is.0 is.1))
  posts call enrolled is called t o wide me fits =
      let s = o.state in
      let m = mine_of job room t o id k v me from to in
      let not_called : s.call k ≡ NotCalled = m.1.call ∙ called in
      let free = is_free job s k o.parts (rw not_called (λ e. cc)) in
      let task : s.task k ≡ Started is.0 is.1 = m.1.task ∙ is.2 in
      let op = told_op (value_under job s.book) v.own.told (job.source call.leaf) is.4.0 call.op is.4.2 (told_value job s v.own.told v.own.task is.0 is.1 call.leaf is.2 is.3 m.1.told) in
      let op_is : op_of job s.book call.leaf ≡ Some call.op = ap (λ (x : Maybe Op). op_from (value_under job s.book) x (job.source call.leaf)) is.4.1 ∙ op in
      let calls = is_call job s.book call.leaf call.op op_is in
      let record_is : IsRecordOf job s.book (s.task k) call = (is.0, is.1, task, is.3, op_is) in
      let nowhere : task_place job s.book (s.task k) ≡ None = started_place job s.book (s.task k) is.0 is.1 call.leaf task is.3 ∙ unbooked job s k is.0 is.1 call.leaf o.parts task is.3 calls free not_called in
      let new : State = record s { status = put s.status k Pending; call = put s.call k Out } in
      let happens : Happens job s k (Post is.0 is.1) new = record { worker_in = m.0; needs = (free, task, leaf_is job is.0 call.leaf is.3 calls, not_called); does = refl } in
      let w : View = V.with_post call (Post is.0 is.1) v in (
        w,
        gives,
        tt,
        moved job room laws t o id k v w (set t.words k 1) (set t.homes k (some (Slots.Record call))) (Post is.0 is.1) new happens me from to from to [] record { events = refl; stops = refl; found = refl; misses = refl; stopped = refl } tt (get_or-set_other t.words k (stop_at P) 1 0 (λ e. let low = m.0 in omega arith))
            (set_status P N t.words s.node s.mark s.value s.status s.hold s.tick (length s.book) o.words k Pending m.0)
            (slots_record job room t.homes s.task s.status s.hold s.hold s.book k Pending (some (Slots.Record call)) o.slots m.0 (call, refl, record_is) (λ home h. h) (λ home h. h))
            (λ own. record {
              sits = own.sits;
              task = own.task;
              call = put_at s.call k k Out refl;
              posted = λ _. (call, refl, record_is);
              told = λ value at. told_kept job laws s new k v.own.task v.own.task value (laws.keeps s new k (Post is.0 is.1) o.parts happens) own.task refl (λ leaf place at. at) (own.told value at);
              hold = hold_same job s new k refl refl (λ u. refl) v.own.hold own.hold;
              entries = rw (put_at s.call k k Out refl, nowhere) (rw not_called at own.entries);
              new = λ e. absurd (true_false (sym enrolled ∙ e));
              done = own.done;
              seen = own.seen;
              since = record {
                most = own.since.most;
                early = omega arith;
                late = λ since e. absurd (cc);
                placed = λ place out e. let f = sym nowhere ∙ e in absurd (cc);
                waits = λ since e out. absurd (cc);
              };
            })
            (λ i x u low ne h. through job laws s new k x (Post is.0 is.1) u u (get_elem? t.homes x) (get_elem? (set t.homes k (some (Slots.Record call))) x) (o.seat x) i o.parts happens
            refl (put_other s.call k x Out ne) refl (λ d. d) (λ e _. set_else t.homes k x (some (Slots.Record call)) ne ∙ e) (told_again u) (hold_same job s new x refl refl (λ u. refl) u.own.hold h.hold) h),
        λ x e. (is.0, is.1, is.2, ap (λ (y : OpRecord). (V.with_post y (Post is.0 is.1) v, xs)) (same_call k call x e)),
      )

  pub posts_at : (m : G.SeatState) (call : OpRecord) → m ≡ (v, (k, Slots.Record call) ∷ xs) → v.enrolled ≡ true → (is : MayPost job v.own.told v.own.task call) → v.own.call ≡ NotCalled
      → StepRefines job room slots id m k (λ y. 1) (λ y. G.posted (step slots k 1 0 none) m 1) (MakesEvent job k (Post is.0 is.1))
  posts_at m call e enrolled is called = subst (λ (m : G.SeatState). StepRefines job room slots id m k (λ y. 1) (λ y. G.posted (step slots k 1 0 none) m 1) (MakesEvent job k (Post is.0 is.1))) (sym e) (posts call enrolled is called)

  -- a trapped pass tries for the flag
  pub wins : v.workers ≡ P → v.own.call ≡ Out → v.room ≡ room → job_seen_with job.work v ≡ job → StepRefines job room slots id (v, xs) (flag_at P) (λ y. either (eqb y 0) (k + 1) y) (G.won job.work (step slots (flag_at P) 0 (k + 1) none) (v, xs)) (TryMakes 0 (MakesEvent job k Win))
  wins sized out roomy seen t o wide me fits =
      let s = o.state in
      let miss = miss_of job room t o v (flag_at P) in
      let word = get_or t.words (flag_at P) 0 in
      let m = mine_of job room t o id k v me from to in
      exchanged word 0 (k + 1) (λ y. (w : View) × (a : Act Slot) × Valid t.homes xs a × ShowsOne job room (TryMakes 0 (MakesEvent job k Win) s word) (stepped t (flag_at P) y id xs w a) × G.won job.work (step slots (flag_at P) 0 (k + 1) none) (v, xs) word (w, carried_after xs a))
      (λ zero.
      let open_ : s.hold ≡ None = free_flag s.hold (sym o.words.flag ∙ zero) in
      let shop = subst (λ (h : Maybe Hold). ShopAt h s.book (get_elem? t.homes P)) open_ o.slots.shop in
      let book = subst (λ (h : Maybe Hold). BookAt room h s.book (get_elem? t.homes (P + 1))) open_ o.slots.batches in
      let h : Hold = new_hold k in
      let new : State = record s { hold = Some h } in
      let out' : s.call k ≡ Out = m.1.call ∙ out in
      let happens : Happens job s k Win new = record { worker_in = m.0; needs = (is_trapped job s k o.parts out', out', open_); does = refl } in
      let w : View = V.with_step (W.winning s.book) v in
      let homes = set (set t.homes (P + 1) none) P none in
      let far : (x : ℕ) → x < P → get_elem? homes x ≡ get_elem? t.homes x = λ x low. set_else (set t.homes (P + 1) none) P x none (λ e. omega arith) ∙ set_else t.homes (P + 1) x none (λ e. omega arith) in (
        w,
        chain (takes (P + 1) (Slots.Book (reserved s.book room))) (takes P (Slots.Shop s.book)),
        (book, set_else t.homes (P + 1) P none (λ e. omega arith) ∙ shop),
        found word 0 (MakesEvent job k Win) zero (moved job room laws t o id k v w (set t.words (flag_at P) (k + 1)) homes Win new happens me from to from to [] record { events = refl; stops = refl; found = refl; misses = refl; stopped = refl } tt (get_or-set_other t.words (flag_at P) (stop_at P) (k + 1) 0 (λ e. omega arith))
            (set_flag P N t.words s.node s.mark s.value s.status s.hold s.tick (length s.book) o.words (Some h))
            record {
              wide = length-set (set t.homes (P + 1) none) P none ∙ (length-set t.homes (P + 1) none ∙ o.slots.wide);
              records = λ u low. rw (far u low) (o.slots.records u low);
              shop = set_here (set t.homes (P + 1) none) P none (omega (arith, length-set t.homes (P + 1) none, o.slots.wide));
              batches = set_else (set t.homes (P + 1) none) P (P + 1) none (λ e. omega arith) ∙ set_here t.homes (P + 1) none (omega (arith, o.slots.wide));
            }
            (λ own. through job laws s new k k Win v w (get_elem? t.homes k) (get_elem? homes k) (o.seat k) id o.parts happens refl refl refl (λ d. d) (λ e _. far k m.0 ∙ e)
            record { task = refl; call = refl; told = refl; posted = refl; left = refl; enrolled = refl; saw_done = refl; greatest = refl; before = refl; after = refl; book_seen = refl }
            (refl, refl, (λ u call is yet. absurd (cc)), tt) own)
            (λ i x u low ne other. through job laws s new k x Win u u (get_elem? t.homes x) (get_elem? homes x) (o.seat x) i o.parts happens refl refl refl (λ d. d)
            (λ e _. far x low ∙ e) (told_again u) (hold_won job s new k x h ne open_ refl refl u.own.hold other.hold) other)),
        ((λ _. (none_held job s k v.own.hold m.1.hold open_, s.book, (λ i. (V.with_step (W.winning s.book) v, (shop_at (sym sized i), Slots.Shop s.book) ∷ (book_at (sym sized i), Slots.Book (reserved s.book (sym roomy i))) ∷ xs)), m.1.seen)), (λ ne. absurd (ne zero)), ap flag_at (sym sized)),
      ))
      (λ ne. (
        V.with_miss miss W.refusing_win v,
        keeps,
        tt,
        missed word 0 (MakesEvent job k Win) ne (looked job room t o id k (flag_at P) v (V.with_miss miss W.refusing_win v) me from to from to refl refl (λ h. inl h) (miss ∷ []) refl refl
            (noted_at job room t o id k v me from to (flag_at P) (λ e. omega arith))
            (λ own. record { sits = own.sits; task = own.task; call = own.call; posted = own.posted; told = own.told; entries = own.entries; hold = own.hold; new = own.new; done = own.done; seen = own.seen; since = record { most = own.since.most; early = own.since.early; late = own.since.late; placed = own.since.placed; waits = own.since.waits } })),
        ((λ zero. absurd (ne zero)), (λ _. (miss, miss_seen job room t o id k v me from to seen roomy (flag_at P), refl, refl)), ap flag_at (sym sized)),
      ))

  -- a trapped pass without the flag tries to leave
  pub leaves : v.enrolled ≡ true → v.own.call ≡ Out → v.own.hold ≡ None → job_seen_with job.work v ≡ job → v.room ≡ room → StepRefines job room slots id (v, xs) k (λ y. either (eqb y 3) 0 y) (G.left job.work (step slots k 3 0 none) (v, xs)) (TryMakes 3 (MakesLeave job k))
  leaves enrolled out idle seen roomy t o wide me fits =
      let s = o.state in
      let miss = miss_of job room t o v k in
      let word = get_or t.words k 0 in
      let m = mine_of job room t o id k v me from to in
      let out' : s.call k ≡ Out = m.1.call ∙ out in
      exchanged word 3 0 (λ y. (w : View) × (a : Act Slot) × Valid t.homes xs a × ShowsOne job room (TryMakes 3 (MakesLeave job k) s word) (stepped t k y id xs w a) × G.left job.work (step slots k 3 0 none) (v, xs) word (w, carried_after xs a))
      (λ three.
      let st = served_word (s.status k) (sym (o.words.statuses k m.0) ∙ three) in
      let r = st.0 in
      let what = m.1.posted out' in
      let call = what.0 in
      let served = is_served job laws s k call r o.parts st.1 what.2 in
      let home : get_elem? t.homes k ≡ some (some (Slots.Receipt r)) = subst (λ (z : Status). RecordAt job s.book (s.task k) z (get_elem? t.homes k)) st.1 (o.slots.records k m.0) in
      let new : State = record s { status = put s.status k Free; call = put s.call k (Got r) } in
      let happens : Happens job s k (Leave r) new = record { worker_in = m.0; needs = (st.1, subst (λ (z : Maybe HoldView). HoldKnown job s z k) idle m.1.hold); does = refl } in
      let w : View = V.with_step (W.leaving call r s.book) v in
      let still : put s.call k (Got r) k ≢ Out = rw (put_at s.call k k (Got r) refl) (λ e. cc) in (
        w,
        takes k (Slots.Receipt r),
        home,
        found word 3 (MakesLeave job k) three (left_with job room s k word r (moved job room laws t o id k v w (set t.words k 0) (set t.homes k none) (Leave r) new happens me from to from to [] record { events = refl; stops = refl; found = refl; misses = refl; stopped = refl } tt (get_or-set_other t.words k (stop_at P) 0 0 (λ e. let low = m.0 in omega arith))
            (set_status P N t.words s.node s.mark s.value s.status s.hold s.tick (length s.book) o.words k Free m.0)
            (slots_record job room t.homes s.task s.status s.hold s.hold s.book k Free none o.slots m.0 tt (λ home h. h) (λ home h. h))
            (λ own. record {
              sits = own.sits;
              task = own.task;
              call = put_at s.call k k (Got r) refl;
              posted = λ e. absurd (still e);
              told = λ value at. told_kept job laws s new k v.own.task v.own.task value (laws.keeps s new k (Leave r) o.parts happens) own.task refl (λ leaf place at. at) (own.told value at);
              hold = hold_same job s new k refl refl (λ u. refl) v.own.hold own.hold;
              entries = let was = rw (out', served.at, served.entry) at own.entries in rw (put_at s.call k k (Got r) refl, map-append, append-nil) was;
              new = λ e. absurd (true_false (sym enrolled ∙ e));
              done = own.done;
              seen = ([], sym (append-nil s.book));
              since = record {
                most = own.since.most;
                early = own.since.early;
                late = own.since.late;
                placed = λ place e. absurd (still e);
                waits = λ since e f. absurd (still f);
              };
            })
            (λ i x u low ne h. through job laws s new k x (Leave r) u u (get_elem? t.homes x) (get_elem? (set t.homes k none) x) (o.seat x) i o.parts happens
            refl (put_other s.call k x (Got r) ne) refl (λ d. d) (λ e _. set_else t.homes k x none ne ∙ e) (told_again u) (hold_same job s new x refl refl (λ u. refl) u.own.hold h.hold) h))),
        (
          (λ _. (
            call,
            r,
            what.1,
            subst (λ (z : Receipt). v.own.before ≤ z.batch) (sym served.receipt) (m.1.since.placed served.place out' served.at),
            (λ since told. subst (λ (z : Receipt). z.batch ≤ since + 1) (sym served.receipt) (told_by job s k since r served.place st.1 served.at (m.1.since.waits since told out'))),
            (s.book, m.1.seen, subst (λ (j : CoreJob). op_of j s.book call.leaf ≡ Some call.op) (sym seen) what.2.4, subst (λ (x : ℕ). StandsAt s.book r.batch r.place (entry_of x (record { call = call; receipt = r }))) (sym from) served.stands, refl),
          )),
          (λ ne. absurd (ne three)),
          sym from,
        ),
      ))
      (λ ne. (
        V.with_miss miss W.refusing_leave v,
        keeps,
        tt,
        missed word 3 (MakesLeave job k) ne (looked job room t o id k k v (V.with_miss miss W.refusing_leave v) me from to from to refl refl (λ h. inl h) (miss ∷ []) refl refl
            (noted_at job room t o id k v me from to k (λ e. let low = m.0 in omega arith))
            (λ own. record { sits = own.sits; task = own.task; call = own.call; posted = own.posted; told = own.told; entries = own.entries; hold = own.hold; new = own.new; done = own.done; seen = own.seen; since = record { most = own.since.most; early = own.since.early; late = own.since.late; placed = own.since.placed; waits = own.since.waits } })),
        ((λ three. absurd (ne three)), (λ _. (miss, miss_seen job room t o id k v me from to seen roomy k, refl, refl)), sym from),
      ))

  holding : (t : TableState) (o : Shows job room t) (h : HoldView) → get_elem? t.views id ≡ some v → v.own.hold ≡ Some h → HoldKnown job o.state (Some h) k
  holding t o h me is = subst (λ (z : Maybe HoldView). HoldKnown job o.state z k) is (mine_of job room t o id k v me from to).1.hold

  again : (event : Event) (f : HoldView → HoldView) → SameTold v (V.with_step (W.with_hold event f) v)
  again event f = record { task = refl; call = refl; told = refl; posted = refl; left = refl; enrolled = refl; saw_done = refl; greatest = refl; before = refl; after = refl; book_seen = refl }

  -- the hold that the view tells after this step
  now_holds : (h : HoldView) (f : HoldView → HoldView) → v.own.hold ≡ Some h → (s : State) → HoldKnown job s (Some (f h)) k → HoldKnown job s (W.in_hold f v.own.hold) k
  now_holds h f holds s known = subst (λ (z : Maybe HoldView). HoldKnown job s (W.in_hold f z) k) (sym holds) known

  -- the holder looks at the next worker
  pub looks : (h : HoldView) (u : ℕ) → v.room ≡ call_count job → v.room ≡ room → job_seen_with job.work v ≡ job → v.own.hold ≡ Some h → u ≡ h.looks → u < job.workers
      → StepRefines job room slots id (v, xs) u (λ y. either (eqb y 1) 2 y) (G.took job.work (step slots u 1 2 none) (v, xs)) (MakesEvent job k (Take u))
  looks h u roomy same_room seen holds next low t o wide me fits =
      let s = o.state in
      let miss = miss_of job room t o v u in
      let word = get_or t.words u 0 in
      let m = mine_of job room t o id k v me from to in
      let known = holding t o h me holds in
      let held : s.hold ≡ Some (hold_of k h) = known.0 in
      let stands = rw held at o.parts.hold in
      let unpublished : h.published ≡ false = not_published h.published h.looks job.workers stands.3 (omega (arith, next, low)) in
      exchanged word 1 2 (λ y. (w : View) × (a : Act Slot) × Valid t.homes xs a × ShowsOne job room (MakesEvent job k (Take u) s word) (stepped t u y id xs w a) × G.took job.work (step slots u 1 2 none) (v, xs) word (w, carried_after xs a))
      (λ one.
      let pending : s.status u ≡ Pending = pending_word (s.status u) (sym (o.words.statuses u low) ∙ one) in
      let what = subst (λ (z : Status). RecordAt job s.book (s.task u) z (get_elem? t.homes u)) pending (o.slots.records u low) in
      let call = what.0 in
      let f = W.after_take (W.call_by u call) in
      let h' = f h in
      let w : View = V.with_step (W.taking (W.call_by u call)) v in
      let new : State = record s { status = put s.status u Executing; hold = Some (hold_of k h') } in
      let happens : Happens job s k (Take u) new = record { worker_in = m.0; needs = (hold_of k h, (held, refl), next, low); does = take_takes s k u h call held pending } in
      let here : (x : ℕ) → get_elem? t.homes x ≡ some (some Slots.Vacant) → get_elem? (set t.homes u none) x ≡ some (some Slots.Vacant) = λ x e. elim (cases_eq x u) [
        | inl same ↦ absurd (vacant_record call (get_elem? t.homes x) (ap (λ (y : ℕ). get_elem? t.homes y) same ∙ what.1) e)
        | inr ne ↦ set_else t.homes u x none ne ∙ e
      ] in (
        w,
        takes u (Slots.Record call),
        what.1,
        moved job room laws t o id k v w (set t.words u 2) (set t.homes u none) (Take u) new happens me from to from to [] record { events = refl; stops = refl; found = refl; misses = refl; stopped = refl } tt (get_or-set_other t.words (u) (stop_at P) (2) 0 (λ e. omega arith))
            (subst (λ (z : Maybe Hold). WordsShow P N (set t.words u 2) s.node s.mark s.value (put s.status u Executing) z s.tick (length s.book)) refl
            (flag_same P N (set t.words u 2) s.node s.mark s.value (put s.status u Executing) s.hold (Some (hold_of k h')) s.tick (length s.book) (rw held refl)
            (set_status P N t.words s.node s.mark s.value s.status s.hold s.tick (length s.book) o.words u Executing low)))
            (slots_record job room t.homes s.task s.status s.hold (Some (hold_of k h')) s.book u Executing none o.slots low refl
            (λ home g. subst (λ (z : Maybe Hold). ShopAt z s.book home) held g) (λ home g. subst (λ (z : Maybe Hold). BookAt room z s.book home) held g))
            (λ own. through job laws s new k k (Take u) v w (get_elem? t.homes k) (get_elem? (set t.homes u none) k) (o.seat k) id o.parts happens refl refl refl (λ d. d) (λ e _. here k e) (again (Take u) f)
            (now_holds h f holds new (refl, known.1, took_more job s u call h what.2 known.2, workers_last h.taken (W.call_by u call) known.3 (others_before h.taken u (λ x e. let low' = stands.2 x e in omega (arith, low', next))))) own)
            (λ i x y low' ne other. through job laws s new k x (Take u) y y (get_elem? t.homes x) (get_elem? (set t.homes u none) x) (o.seat x) i o.parts happens refl refl refl (λ d. d) (λ e _. here x e) (told_again y)
            (hold_others job s new k x (hold_of k h) (hold_of k h') ne held refl refl refl y.own.hold other.hold) other),
        (
          h,
          holds,
          unpublished,
          (λ _. (
            call,
            record {
              unbooked = subst (λ (b : List (List Entry)). place_of b call.leaf ≡ None) known.1 (pending_is_new job s u call o.parts pending what.2);
              apart = λ x c is same. taken_is_new job laws s k u x h call c o.parts held next is what.2 (known.2 x c is (none_answered (among h.answered x) h.published (stands.6 x) unpublished)) (sym same);
              fits = subst (λ (b : List (List Entry)). length (flat b) + length h.taken + 1 ≤ v.room) known.1 (rw roomy (taken_fit job laws s k u h o.parts held unpublished pending (others_before h.taken u (λ x e. let low' = stands.2 x e in omega (arith, low', next))) known.3 (λ x. none_answered (among h.answered x) h.published (stands.6 x) unpublished)));
            },
            subst (λ (j : CoreJob). op_of j h.book call.leaf ≡ Some call.op) (sym seen) (subst (λ (b : List (List Entry)). op_of job b call.leaf ≡ Some call.op) known.1 what.2.4),
            refl,
          )),
          (λ ne. absurd (ne one)),
          next,
        ),
      ))
      (λ ne.
      let other_status : is_pending (s.status u) ≡ false = other_word (s.status u) (λ e. ne (o.words.statuses u low ∙ e)) in
      let f = W.after_pass word in
      let h' = f h in
      let w : View = V.with_miss miss (W.skipping u word) v in
      let new : State = record s { hold = Some (hold_of k h') } in
      let happens : Happens job s k (Take u) new = record { worker_in = m.0; needs = (hold_of k h, (held, refl), next, low); does = take_passes s k u h word held other_status } in (
        w,
        keeps,
        tt,
        moved job room laws t o id k v w (set t.words u word) t.homes (Take u) new happens me from to from to (miss ∷ []) record { events = refl; stops = refl; found = refl; misses = refl; stopped = refl }
            (noted_at job room t o id k v me from to u (λ e. omega arith)) (get_or-set_other t.words (u) (stop_at P) (word) 0 (λ e. omega arith))
            (subst (λ (ws : List ℕ). WordsShow P N ws s.node s.mark s.value s.status (Some (hold_of k h')) s.tick (length s.book)) (sym (set-get_or t.words u 0))
            (flag_same P N t.words s.node s.mark s.value s.status s.hold (Some (hold_of k h')) s.tick (length s.book) (rw held refl) o.words))
            record {
              wide = o.slots.wide;
              records = o.slots.records;
              shop = subst (λ (z : Maybe Hold). ShopAt z s.book (get_elem? t.homes P)) held o.slots.shop;
              batches = subst (λ (z : Maybe Hold). BookAt room z s.book (get_elem? t.homes (P + 1))) held o.slots.batches;
            }
            (λ own. through job laws s new k k (Take u) v w (get_elem? t.homes k) (get_elem? t.homes k) (o.seat k) id o.parts happens refl refl refl (λ d. d) (λ e _. e) record { task = refl; call = refl; told = refl; posted = refl; left = refl; enrolled = refl; saw_done = refl; greatest = refl; before = refl; after = refl; book_seen = refl } (now_holds h f holds new (refl, known.1, known.2, known.3)) own)
            (λ i x y low' ne' other. through job laws s new k x (Take u) y y (get_elem? t.homes x) (get_elem? t.homes x) (o.seat x) i o.parts happens refl refl refl (λ d. d) (λ e _. e) (told_again y)
            (hold_others job s new k x (hold_of k h) (hold_of k h') ne' held refl refl refl y.own.hold other.hold) other),
        (h, holds, unpublished, (λ one. absurd (ne one)), (λ _. (miss, miss_seen job room t o id k v me from to seen same_room u, refl, refl)), next),
      ))

  untaken : (s : State) (h : HoldView) (x u : ℕ) (call : OpRecord) → Parts job s → s.hold ≡ Some (hold_of k h) → record_in h.taken u ≡ Some call → among h.answered u ≡ false → x ≡ u → s.call x ≡ NotCalled → ⊥
  untaken s h x u call kept held is yet same not_called =
      free_untaken job s u k h call kept (subst (λ (y : ℕ). s.status y ≡ Free) same (is_free job s x kept (rw not_called (λ e. cc)))) held is yet

  -- the holder hands a worker its receipt
  pub answers : (h : HoldView) (u : ℕ) (call : OpRecord) (r : Receipt) → v.own.hold ≡ Some h → h.published ≡ true → record_in h.taken u ≡ Some call → among h.answered u ≡ false → IsReceipt (place_of h.book call.leaf) r
      → StepRefines job room slots id (v, (u, Slots.Receipt r) ∷ xs) u (λ y. 3) (λ y. G.answered (step slots u 3 0 none) (v, (u, Slots.Receipt r) ∷ xs) 3) (MakesEvent job k (Answer u r))
  answers h u call r holds there is yet receipt t o wide me fits =
      let s = o.state in
      let m = mine_of job room t o id k v me from to in
      let known = holding t o h me holds in
      let held : s.hold ≡ Some (hold_of k h) = known.0 in
      let stands = rw held at o.parts.hold in
      let looked_at = stands.2 u (record_took h.taken u call is) in
      let low : u < job.workers = omega (arith, looked_at, stands.1) in
      let what = known.2 u call is yet in
      let f = W.after_answer u in
      let h' = f h in
      let w : View = V.with_step (W.answering u r) v in
      let new : State = record s { status = put s.status u (Served r); hold = Some (hold_of k h') } in
      let receipt' : IsReceipt (place_of s.book call.leaf) r = subst (λ (b : List (List Entry)). IsReceipt (place_of b call.leaf) r) (sym known.1) receipt in
      let happens : Happens job s k (Answer u r) new = record {
        worker_in = m.0;
        needs = (hold_of k h, (held, refl), there, record_took h.taken u call is, yet, (what.0, call.leaf, (what.3, what.1, what.2), receipt'));
        does = answer_tells s k u h r held;
      } in
      let homes = set t.homes u (some (Slots.Receipt r)) in
      let here : (x : ℕ) → s.call x ≡ NotCalled → get_elem? t.homes x ≡ some (some Slots.Vacant) → get_elem? homes x ≡ some (some Slots.Vacant) = λ x not_called e. elim (cases_eq x u) [
        | inl same ↦ absurd (untaken s h x u call o.parts held is yet same not_called)
        | inr ne ↦ set_else t.homes u x (some (Slots.Receipt r)) ne ∙ e
      ] in (
        w,
        gives,
        tt,
        moved job room laws t o id k v w (set t.words u 3) homes (Answer u r) new happens me from to from to [] record { events = refl; stops = refl; found = refl; misses = refl; stopped = refl } tt (get_or-set_other t.words (u) (stop_at P) (3) 0 (λ e. omega arith))
            (flag_same P N (set t.words u 3) s.node s.mark s.value (put s.status u (Served r)) s.hold (Some (hold_of k h')) s.tick (length s.book) (rw held refl)
            (set_status P N t.words s.node s.mark s.value s.status s.hold s.tick (length s.book) o.words u (Served r) low))
            (slots_record job room t.homes s.task s.status s.hold (Some (hold_of k h')) s.book u (Served r) (some (Slots.Receipt r)) o.slots low refl
            (λ home g. subst (λ (z : Maybe Hold). ShopAt z s.book home) held g) (λ home g. subst (λ (z : Maybe Hold). BookAt room z s.book home) held g))
            (λ own. through job laws s new k k (Answer u r) v w (get_elem? t.homes k) (get_elem? homes k) (o.seat k) id o.parts happens refl refl refl (λ d. d) (λ e c. here k (own.call ∙ c) e) (again (Answer u r) f)
            (now_holds h f holds new (refl, known.1, (λ x c e yet'. let g = if_false x u (among h.answered x) (sym (among_put h.answered u x) ∙ yet') in known.2 x c e g.1), known.3)) own)
            (λ i x y low' ne other. through job laws s new k x (Answer u r) y y (get_elem? t.homes x) (get_elem? homes x) (o.seat x) i o.parts happens refl refl refl (λ d. d) (λ e c. here x (other.call ∙ c) e) (told_again y)
            (hold_others job s new k x (hold_of k h) (hold_of k h') ne held refl refl refl y.own.hold other.hold) other),
        (h, holds, (λ q e. ap (λ (z : Receipt). (V.with_step (W.answering u z) v, xs)) (same_receipt u r q e))),
      )

  -- a release returns the shop to the table, and the book too if nothing was published
  let_go : (h : HoldView) (homes : List (Option Slot)) → v.own.hold ≡ Some h → h.looks ≡ job.workers → ((u : ℕ) → took_in h.taken u ≡ true → among h.answered u ≡ true)
      → (t : TableState) (o : Shows job room t) → get_elem? t.views id ≡ some v → length homes ≡ length t.homes → ((x : ℕ) → x < job.workers → get_elem? homes x ≡ get_elem? t.homes x)
      → ShopAt None o.state.book (get_elem? homes job.workers) → BookAt room None o.state.book (get_elem? homes (job.workers + 1))
      → ShowsOne job room (Happens job o.state k Release) record { words = set t.words (flag_at P) 0; homes = homes; views = set t.views id (V.with_step W.releasing v) }
  let_go h homes holds looked_all all t o me wide far shop batches =
      let s = o.state in
      let m = mine_of job room t o id k v me from to in
      let known = holding t o h me holds in
      let held : s.hold ≡ Some (hold_of k h) = known.0 in
      let w : View = V.with_step W.releasing v in
      let told : View = record w { own = record w.own { book_seen = v.own.book_seen } } in
      let front : IsPrefix (W.book_after v.own.hold v.own.book_seen) s.book = subst (λ (z : Maybe HoldView). IsPrefix (W.book_after z v.own.book_seen) s.book) (sym holds) ([], known.1 ∙ sym (append-nil h.book)) in
      let gone : Maybe Hold = None in
      let new : State = record s { hold = gone } in
      let happens : Happens job s k Release new = record { worker_in = m.0; needs = (hold_of k h, (held, refl), looked_all, all); does = refl } in
      moved job room laws t o id k v w (set t.words (flag_at P) 0) homes Release new happens me from to from to [] record { events = refl; stops = refl; found = refl; misses = refl; stopped = refl } tt (get_or-set_other t.words (flag_at P) (stop_at P) 0 0 (λ e. omega arith))
      (set_flag P N t.words s.node s.mark s.value s.status s.hold s.tick (length s.book) o.words gone)
      record { wide = wide ∙ o.slots.wide; records = λ u low. rw (far u low) (o.slots.records u low); shop = shop; batches = batches }
      (λ own. reseen job new (get_elem? homes k) (o.seat k) id told k (W.book_after v.own.hold v.own.book_seen) front
      (through job laws s new k k Release v told (get_elem? t.homes k) (get_elem? homes k) (o.seat k) id o.parts happens refl refl refl (λ d. d) (λ e c. far k m.0 ∙ e)
      record { task = refl; call = refl; told = refl; posted = refl; left = refl; enrolled = refl; saw_done = refl; greatest = refl; before = refl; after = refl; book_seen = refl }
      (λ i e. absurd (cc)) own))
      (λ i x y low ne other. through job laws s new k x Release y y (get_elem? t.homes x) (get_elem? homes x) (o.seat x) i o.parts happens refl refl refl (λ d. d) (λ e c. far x low ∙ e) (told_again y)
      (hold_gone job s new k x (hold_of k h) ne held refl refl y.own.hold other.hold) other)

  pub releases_shop : (h : HoldView) (shop : List (List Entry)) → v.own.hold ≡ Some h → h.looks ≡ job.workers → h.published ≡ true → ((u : ℕ) → took_in h.taken u ≡ true → among h.answered u ≡ true) → shop ≡ h.book
      → StepRefines job room slots id (v, (shop_at P, Slots.Shop shop) ∷ xs) (flag_at P) (λ y. 0) (λ y. G.released_shop (step slots (flag_at P) 0 0 none) (v, (shop_at P, Slots.Shop shop) ∷ xs) 0) (MakesEvent job k (Release))
  releases_shop h shop holds looked_all there all whole t o wide me fits =
      let s = o.state in
      let known = holding t o h me holds in
      let homes = set t.homes P (some (Slots.Shop shop)) in
      let wide' = o.slots.wide in
      let at_home : BookAt room (Some (hold_of k h)) s.book (get_elem? t.homes (P + 1)) = subst (λ (z : Maybe Hold). BookAt room z s.book (get_elem? t.homes (P + 1))) known.0 o.slots.batches in
      let at_home' : BookIf true room s.book (get_elem? t.homes (P + 1)) = subst (λ (z : Bool). BookIf z room s.book (get_elem? t.homes (P + 1))) there at_home in (
        V.with_step W.releasing v,
        gives,
        tt,
        let_go h homes holds looked_all all t o me (length-set t.homes P (some (Slots.Shop shop))) (λ x low. set_else t.homes P x (some (Slots.Shop shop)) (λ e. omega arith))
            (set_here t.homes P (some (Slots.Shop shop)) (omega (arith, wide')) ∙ ap (λ b. some (some (Slots.Shop b))) (whole ∙ sym known.1))
            (subst (λ (z : SlotHome). IsBookHome room s.book z) (sym (set_else t.homes P (P + 1) (some (Slots.Shop shop)) (λ e. omega arith))) at_home'),
        refl,
      )

  pub releases_both : (h : HoldView) (shop : List (List Entry)) → v.own.hold ≡ Some h → h.looks ≡ job.workers → ((u : ℕ) → took_in h.taken u ≡ true → among h.answered u ≡ true) → shop ≡ h.book
      → StepRefines job room slots id (v, (shop_at P, Slots.Shop shop) ∷ (book_at P, Slots.Book (reserved h.book room)) ∷ xs) (flag_at P) (λ y. 0)
      (λ y. G.released_both (step slots (flag_at P) 0 0 none) (v, (shop_at P, Slots.Shop shop) ∷ (book_at P, Slots.Book (reserved h.book room)) ∷ xs) 0) (MakesEvent job k (Release))
  releases_both h shop holds looked_all all whole t o wide me fits =
      let s = o.state in
      let known = holding t o h me holds in
      let first = set t.homes P (some (Slots.Shop shop)) in
      let homes = set first (P + 1) (some (Slots.Book (reserved h.book room))) in
      let long = length-set t.homes P (some (Slots.Shop shop)) in
      let wide' = o.slots.wide in (
        V.with_step W.releasing v,
        chain gives gives,
        (tt, tt),
        let_go h homes holds looked_all all t o me
            (length-set first (P + 1) (some (Slots.Book (reserved h.book room))) ∙ long)
            (λ x low. set_else first (P + 1) x (some (Slots.Book (reserved h.book room))) (λ e. omega arith) ∙ set_else t.homes P x (some (Slots.Shop shop)) (λ e. omega arith))
            (set_else first (P + 1) P (some (Slots.Book (reserved h.book room))) (λ e. omega arith) ∙ (set_here t.homes P (some (Slots.Shop shop)) (omega (arith, wide')) ∙ ap (λ b. some (some (Slots.Shop b))) (whole ∙ sym known.1)))
            (set_here first (P + 1) (some (Slots.Book (reserved h.book room))) (omega (arith, wide', long)) ∙ ap (λ b. some (some (Slots.Book (reserved b room)))) (sym known.1)),
        refl,
      )

  pub answers_at : (m : G.SeatState) (h : HoldView) (u : ℕ) (call : OpRecord) (r : Receipt) → m ≡ (v, (u, Slots.Receipt r) ∷ xs) → v.own.hold ≡ Some h → h.published ≡ true → record_in h.taken u ≡ Some call → among h.answered u ≡ false → IsReceipt (place_of h.book call.leaf) r
      → StepRefines job room slots id m u (λ y. 3) (λ y. G.answered (step slots u 3 0 none) m 3) (MakesEvent job k (Answer u r))
  answers_at m h u call r e holds there is yet receipt = subst (λ (m : G.SeatState). StepRefines job room slots id m u (λ y. 3) (λ y. G.answered (step slots u 3 0 none) m 3) (MakesEvent job k (Answer u r))) (sym e) (answers h u call r holds there is yet receipt)

  pub releases_shop_at : (m : G.SeatState) (h : HoldView) (shop : List (List Entry)) → m ≡ (v, (shop_at P, Slots.Shop shop) ∷ xs) → v.own.hold ≡ Some h → h.looks ≡ job.workers → h.published ≡ true → ((u : ℕ) → took_in h.taken u ≡ true → among h.answered u ≡ true) → shop ≡ h.book
      → StepRefines job room slots id m (flag_at P) (λ y. 0) (λ y. G.released_shop (step slots (flag_at P) 0 0 none) m 0) (MakesEvent job k (Release))
  releases_shop_at m h shop e holds looked_all there all whole = subst (λ (m : G.SeatState). StepRefines job room slots id m (flag_at P) (λ y. 0) (λ y. G.released_shop (step slots (flag_at P) 0 0 none) m 0) (MakesEvent job k (Release))) (sym e) (releases_shop h shop holds looked_all there all whole)

  pub releases_both_at : (m : G.SeatState) (h : HoldView) (shop : List (List Entry)) → m ≡ (v, (shop_at P, Slots.Shop shop) ∷ (book_at P, Slots.Book (reserved h.book room)) ∷ xs) → v.own.hold ≡ Some h → h.looks ≡ job.workers → ((u : ℕ) → took_in h.taken u ≡ true → among h.answered u ≡ true) → shop ≡ h.book
      → StepRefines job room slots id m (flag_at P) (λ y. 0) (λ y. G.released_both (step slots (flag_at P) 0 0 none) m 0) (MakesEvent job k (Release))
  releases_both_at m h shop e holds looked_all all whole = subst (λ (m : G.SeatState). StepRefines job room slots id m (flag_at P) (λ y. 0) (λ y. G.released_both (step slots (flag_at P) 0 0 none) m 0) (MakesEvent job k (Release))) (sym e) (releases_both h shop holds looked_all all whole)
