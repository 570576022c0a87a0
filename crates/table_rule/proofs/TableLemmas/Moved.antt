-- After a step the table shows the state that its event makes, or after a stutter the same state.
use Rattle.std.proofs.Common.{ℕ, zero, suc, ◌≡◌, ◌≢◌, ◌<◌, ◌≤◌, ◌+◌, ◌*◌, Bool, true, false, ◌&&◌, not, ◌⊎◌, Option as Maybe, None, Some, List, [], ◌∷◌, ◌++◌, map, length, get_or, set, arith, refl, sym, ap, ◌∙◌, subst, inl, inr, ⊎_elim}
use Rattle.limits.specs.declared.TheConstants.{MOST_LEAVES}
use Rattle.std.specs.List.{AllByRecursion}
use Rattle.std.proofs.lemmas.Bool.{cases_eq}
use Rattle.std.proofs.lemmas.Bool.Decides.{nat_tests}
use mathlib.Core.Option.{Option, some, some-injective, some-ne-none}
use lib.ListN.{get_elem?}
use lib.Seq.{set-get_or}
use Rattle.atomic_table.specs.Table.{Allows}
use Rattle.atomic_table.proofs.Lists.{at_set, set_here, set_else}
use Rattle.batch_history.specs.declared.batch.Entry.{Entry}
use Rattle.batch_history.specs.Book.{flat}
use Rattle.core_model.specs.declared.progress.Progress.{Progress}
use Rattle.core_model.specs.declared.task.Task.{Task}
use Rattle.core_model.specs.declared.status.Status.{Status}
use Rattle.core_model.specs.declared.status.Status.TheVariants.{Free}
use Rattle.core_model.specs.declared.status.CallState.{CallState}
use Rattle.core_model.specs.declared.status.CallState.TheVariants.{Out}
use Rattle.core_model.specs.declared.event.Event.{Event}
use Rattle.core_model.specs.State.{put, CoreJob, State}
use Rattle.core_model.specs.Operations.{Place}
use Rattle.core_model.specs.Entries.{entries_of}
use Rattle.core_model.specs.Events.{Happens}
use Rattle.core_model.specs.Tasks.{is_done}
use Rattle.core_model.specs.Invariant.{Parts}
use Rattle.core_model.specs.Waits.{task_place}
use Rattle.seq_objects.proofs.Elements.{each_so}
use Rattle.table_rule.specs.declared.slot.OpRecord.{OpRecord}
use Rattle.seq_objects.specs.declared.call.Call.{Call}
use Rattle.table_rule.specs.declared.view.HoldView.{HoldView}
use Rattle.table_rule.specs.declared.view.LeftCall.{LeftCall}
use Rattle.table_rule.specs.declared.view.Miss.{Miss}
use Rattle.table_rule.specs.declared.view.View.{View}
use Rattle.table_rule.specs.declared.slot.Slot.{Slot}
use Rattle.table_rule.specs.Words.{WordsShow}
use Rattle.core_model.specs.declared.setting.Setting.{Setting}
use Rattle.table_rule.specs.Steps.{ShowsOne, TryMakes, ArrivalMakes}
use Rattle.table_rule.specs.Plays.{SeatState}
use Rattle.table_rule.specs.Laws.{Laws}
use Rattle.table_rule.specs.Shows.{TableState, HasSeat, IsRecordOf, RecordAt, SlotsShow, took_in, record_in, among, hold_of, HoldKnown, entry_of, present, SinceKnown, AgreesWithView, Shows, ShownWith, MissesAgree, StopShows}
use Rattle.table_rule.proofs.TableLemmas.Facts.{is_free, is_trapped, not_taken}
use Rattle.core_model.specs.Lists.{ready_after}
use Rattle.table_rule.specs.Words.{stop_at}
use Rattle.table_rule.proofs.TableLemmas.Traces.{AddsEvent, IsNoted, true_longer, misses_kept, reached_next, agree_next, agree_still, stop_still}
use Rattle.table_rule.proofs.TableLemmas.Through.{told_kept}
use Rattle.core_model.proofs.InvariantLemmas.Puts.{put_at, put_other}

-- the seat id, whose range is k alone, is the seat of worker k
pub mine_of : (job : CoreJob) (room : ℕ) (t : TableState) (o : Shows job room t) (id k : ℕ) (v : View) → get_elem? t.views id ≡ some v → v.own.worker ≡ k → v.to ≡ k + 1
    → (k < job.workers) × AgreesWithView job o.state (get_elem? t.homes k) (o.seat k) id v k
mine_of job room t o id k v me from to = o.views id v k me (omega arith) (omega arith)

-- an index with a member is below the list's length
pub at_below : {A : Type 0} (l : List A) (i : ℕ) (a : A) → get_elem? l i ≡ some a → i < length l
at_below [] i a e = absurd (some-ne-none a (sym e))
at_below (x ∷ xs) zero a e = omega arith
at_below (x ∷ xs) (suc i) a e = let low = at_below xs i a e in omega (arith, low)

-- every worker stays in the range of its seat when the view of worker k changes
pub seat_stays : (views : List View) (id k : ℕ) (v w : View) → get_elem? views id ≡ some v → v.own.worker ≡ k → v.to ≡ k + 1 → w.own.worker ≡ k → w.to ≡ k + 1
    → (seat x : ℕ) → HasSeat views seat x → HasSeat (set views id w) seat x
seat_stays views id k v w me from to from' to' seat x h = elim (cases_eq seat id) [
  | inl e ↦
      let same : h.0 ≡ v = some-injective _ _ (sym h.1 ∙ (ap (λ (j : ℕ). get_elem? views j) e ∙ me)) in
      let low : v.own.worker ≤ x = subst (λ (y : View). y.own.worker ≤ x) same h.2 in
      let high : x < v.to = subst (λ (y : View). x < y.to) same h.3 in
      (w, ap (λ (j : ℕ). get_elem? (set views id w) j) e ∙ set_here views id w (at_below views id v me), omega arith, omega arith)
  | inr ne ↦ (h.0, set_else views id seat w ne ∙ h.1, h.2, h.3)
]

-- a step of worker k
pub moved : (job : CoreJob) (room : ℕ) (laws : Laws job) (t : TableState) (o : Shows job room t) (id k : ℕ) (v w : View) (words : List ℕ) (homes : List (Option Slot)) (event : Event) (new : State)
    → Happens job o.state k event new → get_elem? t.views id ≡ some v → v.own.worker ≡ k → v.to ≡ k + 1 → w.own.worker ≡ k → w.to ≡ k + 1
    → (more : List Miss) → AddsEvent v w event more → AllByRecursion (IsNoted job k o.trace (get_or t.words (stop_at job.workers) 0)) more
    → get_or words (stop_at job.workers) 0 ≡ get_or t.words (stop_at job.workers) 0
    → WordsShow job.workers job.plan.count words new.node new.mark new.value new.status new.hold new.tick (length new.book)
    → SlotsShow job room homes new.task new.status new.hold new.book
    → (AgreesWithView job o.state (get_elem? t.homes k) (o.seat k) id v k → AgreesWithView job new (get_elem? homes k) (o.seat k) id w k)
    → ((i x : ℕ) (u : View) → x < job.workers → x ≢ k → AgreesWithView job o.state (get_elem? t.homes x) (o.seat x) i u x → AgreesWithView job new (get_elem? homes x) (o.seat x) i u x)
    → ShowsOne job room (Happens job o.state k event) record { words = words; homes = homes; views = set t.views id w }
moved job room laws t o id k v w words homes event new happens me from to from' to' more adds noted stop shown slots own others = (
  record {
    state = new;
    seat = o.seat;
    parts = laws.keeps o.state new k event o.parts happens;
    words = shown;
    slots = slots;
    views = λ i u x e lo hi. let m = mine_of job room t o id k v me from to in ⊎_elim
        (λ q.
        let lo' : w.own.worker ≤ x = subst (λ (y : View). y.own.worker ≤ x) (sym q.1) lo in
        let hi' : x < w.to = subst (λ (y : View). x < y.to) (sym q.1) hi in
        let is : x ≡ k = omega arith in (
          subst (λ (y : ℕ). y < job.workers) (sym is) m.0,
          subst (λ (y : ℕ). AgreesWithView job new (get_elem? homes y) (o.seat y) i u y) (sym is)
              (subst (λ (j : ℕ). AgreesWithView job new (get_elem? homes k) (o.seat k) j u k) (sym q.0) (subst (λ (z : View). AgreesWithView job new (get_elem? homes k) (o.seat k) id z k) q.1 (own m.1))),
        ))
        (λ q.
        let was = o.views i u x q.1 lo hi in
        (was.0, others i x u was.0 (λ is. q.0 (sym was.1.sits ∙ (ap o.seat is ∙ m.1.sits))) was.1))
        (at_set t.views id i w u e);
    seats = λ x low. seat_stays t.views id k v w me from to from' to' (o.seat x) x (o.seats x low);
    trace = o.trace ++ record { worker = k; event = event } ∷ [];
    ready = ready_after k event o.ready;
    reached = reached_next job o.trace o.ready o.state new k event o.reached happens;
    events = agree_next t.views id k v w o.trace event me from to from' to' adds.events
        (λ i x u at lo hi ne is. let m = mine_of job room t o id k v me from to in let was = o.views i u x at lo hi in ne (sym was.1.sits ∙ (ap o.seat is ∙ m.1.sits))) o.events;
    misses = misses_kept job t.views id k v w o.trace (o.trace ++ record { worker = k; event = event } ∷ []) more (get_or t.words (stop_at job.workers) 0) me from to from' to' adds.misses noted
        (λ x m h. true_longer job x o.trace record { worker = k; event = event } m h) o.misses;
    stop = let word = get_or t.words (stop_at job.workers) 0 in
        stop_still (stop_at job.workers) t.views id v w word (get_or words (stop_at job.workers) 0) more me (at_below t.views id v me) (omega arith) (omega arith) stop adds.stops
        (λ some_found. inl (let a = adds.found in omega arith)) adds.misses adds.stopped
        (each_so (IsNoted job k o.trace word) (λ (m : Miss). m.word ≡ stop_at job.workers → (m.found ≡ 0) × (word ≡ 0)) (λ m h. h.stop) more noted) o.stop;
  },
  happens,
)

-- the views, when only that of worker k changes and the state stays
views_still : (job : CoreJob) (room : ℕ) (t : TableState) (o : Shows job room t) (id k : ℕ) (v w : View)
    → get_elem? t.views id ≡ some v → v.own.worker ≡ k → v.to ≡ k + 1 → w.own.worker ≡ k → w.to ≡ k + 1
    → (AgreesWithView job o.state (get_elem? t.homes k) (o.seat k) id v k → AgreesWithView job o.state (get_elem? t.homes k) (o.seat k) id w k)
    → (i : ℕ) (u : View) (x : ℕ) → get_elem? (set t.views id w) i ≡ some u → u.own.worker ≤ x → x < u.to → (x < job.workers) × AgreesWithView job o.state (get_elem? t.homes x) (o.seat x) i u x
views_still job room t o id k v w me from to from' to' own i u x e lo hi = let m = mine_of job room t o id k v me from to in ⊎_elim
    (λ q.
    let lo' : w.own.worker ≤ x = subst (λ (y : View). y.own.worker ≤ x) (sym q.1) lo in
    let hi' : x < w.to = subst (λ (y : View). x < y.to) (sym q.1) hi in
    let is : x ≡ k = omega arith in (
      subst (λ (y : ℕ). y < job.workers) (sym is) m.0,
      subst (λ (y : ℕ). AgreesWithView job o.state (get_elem? t.homes y) (o.seat y) i u y) (sym is)
          (subst (λ (j : ℕ). AgreesWithView job o.state (get_elem? t.homes k) (o.seat k) j u k) (sym q.0) (subst (λ (z : View). AgreesWithView job o.state (get_elem? t.homes k) (o.seat k) id z k) q.1 (own m.1))),
    ))
    (λ q. o.views i u x q.1 lo hi)
    (at_set t.views id i w u e)

-- a step on a word that encodes no part of the state
pub renewed : (job : CoreJob) (room : ℕ) (t : TableState) (o : Shows job room t) (id k : ℕ) (v w : View) (words : List ℕ)
    → get_elem? t.views id ≡ some v → v.own.worker ≡ k → v.to ≡ k + 1 → w.own.worker ≡ k → w.to ≡ k + 1
    → w.own.events ≡ v.own.events → MissesAgree job (set t.views id w) o.trace → StopShows (stop_at job.workers) (get_or words (stop_at job.workers) 0) (set t.views id w)
    → WordsShow job.workers job.plan.count words o.state.node o.state.mark o.state.value o.state.status o.state.hold o.state.tick (length o.state.book)
    → (AgreesWithView job o.state (get_elem? t.homes k) (o.seat k) id v k → AgreesWithView job o.state (get_elem? t.homes k) (o.seat k) id w k)
    → ShowsOne job room (λ (s : State). s ≡ o.state) record { words = words; homes = t.homes; views = set t.views id w }
renewed job room t o id k v w words me from to from' to' events misses stop shown own = (
  record {
    state = o.state;
    seat = o.seat;
    parts = o.parts;
    words = shown;
    slots = o.slots;
    views = views_still job room t o id k v w me from to from' to' own;
    seats = λ x low. seat_stays t.views id k v w me from to from' to' (o.seat x) x (o.seats x low);
    trace = o.trace;
    ready = o.ready;
    reached = o.reached;
    events = agree_still t.views id k v w o.trace me from to from' to' events o.events;
    misses = misses;
    stop = stop;
  },
  refl,
)

-- a look or a refused try, which may note a miss
pub looked : (job : CoreJob) (room : ℕ) (t : TableState) (o : Shows job room t) (id k j : ℕ) (v w : View)
    → get_elem? t.views id ≡ some v → v.own.worker ≡ k → v.to ≡ k + 1 → w.own.worker ≡ k → w.to ≡ k + 1
    → w.own.events ≡ v.own.events → w.own.stops ≡ v.own.stops → (0 < w.own.stops_found → (0 < v.own.stops_found) ⊎ (get_or t.words (stop_at job.workers) 0 ≡ 1))
    → (more : List Miss) → w.misses ≡ more ++ v.misses → w.stopped_at ≡ v.stopped_at → AllByRecursion (IsNoted job k o.trace (get_or t.words (stop_at job.workers) 0)) more
    → (AgreesWithView job o.state (get_elem? t.homes k) (o.seat k) id v k → AgreesWithView job o.state (get_elem? t.homes k) (o.seat k) id w k)
    → ShowsOne job room (λ (s : State). s ≡ o.state) record { words = set t.words j (get_or t.words j 0); homes = t.homes; views = set t.views id w }
looked job room t o id k j v w me from to from' to' events stops found more are stopped noted own =
    let word = get_or t.words (stop_at job.workers) 0 in
    renewed job room t o id k v w (set t.words j (get_or t.words j 0)) me from to from' to' events
    (misses_kept job t.views id k v w o.trace o.trace more word me from to from' to' are noted (λ x m h. h) o.misses)
    (stop_still (stop_at job.workers) t.views id v w word _ more me (at_below t.views id v me) (omega arith) (omega arith) (ap (λ (ws : List ℕ). get_or ws (stop_at job.workers) 0) (set-get_or t.words j 0)) stops found are stopped
    (each_so (IsNoted job k o.trace word) (λ (m : Miss). m.word ≡ stop_at job.workers → (m.found ≡ 0) × (word ≡ 0)) (λ m h. h.stop) more noted) o.stop)
    (subst (λ (ws : List ℕ). WordsShow job.workers job.plan.count ws o.state.node o.state.mark o.state.value o.state.status o.state.hold o.state.tick (length o.state.book)) (sym (set-get_or t.words j 0)) o.words)
    own

pub true_false : true ≡ false → ⊥
true_false e = cc

-- a worker with a record in the list was taken
pub record_took : (taken : List Call) (u : ℕ) (call : OpRecord) → record_in taken u ≡ Some call → took_in taken u ≡ true
record_took [] u call e = absurd (cc)
record_took (t ∷ taken) u call e = let again = record_took taken u call in grind (arith, nat_tests, again)

pub held_yes : (took answered : Bool) → took ≡ true → answered ≡ false → (took && not answered) ≡ true
held_yes took answered a b = grind arith

-- a free worker is not one that the holder took and has not answered
pub free_untaken : (job : CoreJob) (s : State) (k x : ℕ) (v : HoldView) (call : OpRecord) → Parts job s → s.status k ≡ Free → s.hold ≡ Some (hold_of x v) → record_in v.taken k ≡ Some call → among v.answered k ≡ false → ⊥
free_untaken job s k x v call kept free hold is none_yet =
    let row = not_taken job s k kept (rw free (λ e. cc)) in
    let row' = rw hold at row in
    let yes = held_yes (took_in v.taken k) (among v.answered k) (record_took v.taken k call is) none_yet in absurd (cc)

-- `HoldKnown` is kept when a free worker's task changes
pub hold_still : (job : CoreJob) (s new : State) (k x : ℕ) → Parts job s → s.status k ≡ Free → new.hold ≡ s.hold → new.book ≡ s.book → ((u : ℕ) → u ≢ k → new.task u ≡ s.task u)
    → (v : Maybe HoldView) → HoldKnown job s v x → HoldKnown job new v x
hold_still job s new k x kept free same_hold same_book same_task None h = λ hold is. h hold (sym same_hold ∙ is)
hold_still job s new k x kept free same_hold same_book same_task (Some v) h = (
  same_hold ∙ h.0,
  same_book ∙ h.1,
  λ u call is none_yet. elim (cases_eq u k) [
    | inl e ↦ absurd (free_untaken job s k x v call kept free h.0 (ap (record_in v.taken) (sym e) ∙ is) (ap (among v.answered) (sym e) ∙ none_yet))
    | inr ne ↦ subst (λ (b : List (List Entry)). IsRecordOf job b (new.task u) call) (sym same_book) (subst (λ (y : Task). IsRecordOf job s.book y call) (sym (same_task u ne)) (h.2 u call is none_yet))
  ],
  h.3,
)

-- the views of one pass before and after an event of the job side
pub record SameBut (v w : View) : Type 0 where
  pub from : w.own.worker ≡ v.own.worker
  pub to : w.to ≡ v.to
  pub told : w.own.told ≡ None
  pub left : w.own.left ≡ v.own.left
  pub hold : w.own.hold ≡ v.own.hold
  pub enrolled : w.enrolled ≡ v.enrolled
  pub saw_done : w.saw_done ≡ v.saw_done
  pub greatest : w.own.greatest ≡ v.own.greatest
  pub before : w.own.before ≡ v.own.before
  pub after : w.own.after ≡ v.own.after
  pub book_seen : w.own.book_seen ≡ v.own.book_seen

-- a call that is not out adds no entry
pub present_none : (c : CallState) (place : Maybe Place) → c ≢ Out → present c place ≡ []
present_none Out place ne = absurd (ne refl)
present_none _ place ne = refl

own_entries : (xs : List Entry) (k : ℕ) (l m : List LeftCall) (c d : CallState) (p q : Maybe Place) → c ≢ Out → d ≢ Out → m ≡ l → xs ≡ map (entry_of k) l ++ present c p → xs ≡ map (entry_of k) m ++ present d q
own_entries xs k l m c d p q ne ne' same e =
    e ∙ (ap (λ z. map (entry_of k) l ++ z) (present_none c p ne ∙ sym (present_none d q ne')) ∙ ap (λ z. map (entry_of k) z ++ present d q) (sym same))

out_others : (job : CoreJob) (laws : Laws job) (s : State) (k x : ℕ) (v : View) (event : Event) (node : ℕ → Progress) (mark : ℕ → ℕ) (value : ℕ → Maybe ℕ) (tick : ℕ) (call : ℕ → CallState) (y : Task) → Parts job s
    → let new : State = record s { node = node; mark = mark; value = value; tick = tick; task = put s.task k y; call = call } in
    Happens job s k event new → x ≢ k → call x ≡ s.call x → SinceKnown job s v x → SinceKnown job new v x
out_others job laws s k x v event node mark value tick call y kept happens ne same h =
    let new : State = record s { node = node; mark = mark; value = value; tick = tick; task = put s.task k y; call = call } in record {
      most = h.most;
      early = h.early;
      late = h.late;
      placed = λ place out is. h.placed place (sym same ∙ out) (ap (task_place job s.book) (sym (put_other s.task k x y ne)) ∙ is);
      waits = λ since told out. laws.waits s new k event x since kept happens (is_trapped job new x (laws.keeps s new k event kept happens) out) (h.waits since told (sym same ∙ out));
    }

-- an event of the job side: worker k is free before and after it
pub job_step : (job : CoreJob) (room : ℕ) (laws : Laws job) (t : TableState) (o : Shows job room t) (id k : ℕ) (v w : View) (words : List ℕ) (event : Event)
    (node : ℕ → Progress) (mark : ℕ → ℕ) (value : ℕ → Maybe ℕ) (tick : ℕ) (call : ℕ → CallState) (y : Task)
    → let s = o.state in
    let new : State = record s { node = node; mark = mark; value = value; tick = tick; task = put s.task k y; call = call } in
    Happens job s k event new → get_elem? t.views id ≡ some v → v.own.worker ≡ k → v.to ≡ k + 1 → v.enrolled ≡ true → s.call k ≢ Out → call k ≢ Out
    → SameBut v w → AddsEvent v w event [] → get_or words (stop_at job.workers) 0 ≡ get_or t.words (stop_at job.workers) 0 → w.own.task ≡ y → call k ≡ w.own.call → ((x : ℕ) → x ≢ k → call x ≡ s.call x) → (is_done (s.node 0) ≡ true → is_done (node 0) ≡ true)
    → WordsShow job.workers job.plan.count words node mark value s.status s.hold tick (length s.book)
    → ShowsOne job room (Happens job o.state k event) record { words = words; homes = t.homes; views = set t.views id w }
job_step job room laws t o id k v w words event node mark value tick call y happens me from to enrolled inside inside' same adds stop task_is call_is calls done shown =
    let s = o.state in
    let new : State = record s { node = node; mark = mark; value = value; tick = tick; task = put s.task k y; call = call } in
    let free = is_free job s k o.parts inside in
    let stay : (u : ℕ) → u ≢ k → put s.task k y u ≡ s.task u = λ u ne. put_other s.task k u y ne in
    moved job room laws t o id k v w words t.homes event new happens me from to (same.from ∙ from) (same.to ∙ to) [] adds tt stop shown
    record {
      wide = o.slots.wide;
      records = λ u below. elim (cases_eq u k) [
        | inl e ↦ subst (λ (m : ℕ). RecordAt job s.book (put s.task k y m) (s.status m) (get_elem? t.homes m)) (sym e) (subst (λ (st : Status). RecordAt job s.book (put s.task k y k) st (get_elem? t.homes k)) (sym free) tt)
        | inr ne ↦ subst (λ (z : Task). RecordAt job s.book z (s.status u) (get_elem? t.homes u)) (sym (stay u ne)) (o.slots.records u below)
      ];
      shop = o.slots.shop;
      batches = o.slots.batches;
    }
    (λ m. record {
      sits = m.sits;
      task = put_at s.task k k y refl ∙ sym task_is;
      call = call_is;
      posted = λ out. absurd (inside' out);
      told = λ value is. let none = sym same.told ∙ is in absurd (cc);
      entries = own_entries (entries_of k (flat s.book)) k v.own.left w.own.left (s.call k) (call k) (task_place job s.book (s.task k)) (task_place job s.book (put s.task k y k)) inside inside' same.left m.entries;
      hold = subst (λ (z : Maybe HoldView). HoldKnown job new z k) (sym same.hold) (hold_still job s new k k o.parts free refl refl stay v.own.hold m.hold);
      new = λ e. absurd (true_false (sym enrolled ∙ (sym same.enrolled ∙ e)));
      done = λ e. done (m.done (sym same.saw_done ∙ e));
      seen = rw same.book_seen m.seen;
      since = record {
        most = subst (λ (z : ℕ). z ≤ length s.book) (sym same.greatest) m.since.most;
        early = subst (λ (z : ℕ). w.own.before ≤ z) (sym same.greatest) (subst (λ (z : ℕ). z ≤ v.own.greatest) (sym same.before) m.since.early);
        late = λ since told. subst (λ (z : ℕ). since ≤ z) (sym same.greatest) (m.since.late since (sym same.after ∙ told));
        placed = λ place out is. absurd (inside' out);
        waits = λ since told out. absurd (inside' out);
      };
    })
    (λ i x u low ne m. record {
      sits = m.sits;
      task = stay x ne ∙ m.task;
      call = calls x ne ∙ m.call;
      posted = rw (calls x ne, stay x ne) m.posted;
      told = λ value is. told_kept job laws s new x u.own.task u.own.task value (laws.keeps s new k event o.parts happens) (stay x ne ∙ m.task) refl (λ leaf place at. at) (m.told value is);
      entries = rw (calls x ne, stay x ne) m.entries;
      hold = hold_still job s new k x o.parts free refl refl stay u.own.hold m.hold;
      new = m.new;
      done = λ e. done (m.done e);
      seen = m.seen;
      since = out_others job laws s k x u event node mark value tick call y o.parts happens ne (calls x ne) m.since;
    })

-- the key of a table is its setting
pub keyed : (work : ℕ → ℕ) (key setting : Setting) (slots id : ℕ) (me : SeatState) (i : ℕ) (f : ℕ → ℕ) (tells : ℕ → SeatState → Type 0) → key ≡ setting → Allows (ShownWith work setting) slots id me i f tells → Allows (ShownWith work key) slots id me i f tells
keyed work key setting slots id me i f tells e h = subst (λ (y : Setting). Allows (ShownWith work y) slots id me i f tells) (sym e) h

pub few_nodes : (nodes count : ℕ) → nodes ≡ count → nodes < 2 * MOST_LEAVES → count < 2 * MOST_LEAVES
few_nodes nodes count e h = omega (arith, e, h)

-- `TryMakes` for a try that finds the wanted number, and for one that does not
pub found : {job : CoreJob} {room : ℕ} {t : TableState} {before : State} (word wanted : ℕ) (Makes : State → ℕ → State → Type 0) → word ≡ wanted → ShowsOne job room (Makes before word) t → ShowsOne job room (TryMakes wanted Makes before word) t
found word wanted Makes is h = (h.0, ((λ _. h.1), (λ ne. absurd (ne is))))

pub missed : {job : CoreJob} {room : ℕ} {t : TableState} {before : State} (word wanted : ℕ) (Makes : State → ℕ → State → Type 0) → word ≢ wanted → ShowsOne job room (λ (s : State). s ≡ before) t → ShowsOne job room (TryMakes wanted Makes before word) t
missed word wanted Makes ne h = (h.0, ((λ is. absurd (ne is)), (λ _. h.1)))

-- `ArrivalMakes` for a mark found at 0, and for another
pub found_none : {job : CoreJob} {room : ℕ} {t : TableState} {before : State} (word : ℕ) (First Second : State → ℕ → State → Type 0) → word ≡ 0 → ShowsOne job room (First before word) t → ShowsOne job room (ArrivalMakes First Second before word) t
found_none word First Second is h = (h.0, ((λ _. h.1), (λ ne. absurd (ne is))))

pub found_one : {job : CoreJob} {room : ℕ} {t : TableState} {before : State} (word : ℕ) (First Second : State → ℕ → State → Type 0) → word ≢ 0 → ShowsOne job room (Second before word) t → ShowsOne job room (ArrivalMakes First Second before word) t
found_one word First Second ne h = (h.0, ((λ is. absurd (ne is)), (λ _. h.1)))
