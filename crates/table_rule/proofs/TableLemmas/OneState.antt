-- A table shows at most one state: each part is determined by a word, a slot or a view.
use Rattle.std.proofs.Common.{ℕ, ◌≡◌, ◌≢◌, ◌<◌, ◌≤◌, ◌+◌, Option as Maybe, None, Some, List, get_or, arith, refl, sym, ap, ◌∙◌, subst, inl, inr}
use Rattle.limits.specs.declared.TheConstants.{MOST_WORKERS}
use Rattle.table_rule.specs.declared.progress.TheConstants.{TICKS}
use mathlib.Core.Option.{some, some-injective}
use lib.ListN.{get_elem?}
use native.Mathlib.Decide.{dec_le}
use Rattle.std.proofs.Common.{lt_of_not-le}
use Rattle.batch_history.specs.declared.batch.Entry.{Entry}
use Rattle.batch_history.specs.Book.{flat}
use Rattle.seq_objects.specs.Stores.{opening_store}
use Rattle.core_model.specs.State.{CoreJob, Hold, State}
use Rattle.core_model.specs.Tasks.{is_done}
use Rattle.core_model.specs.Invariant.{Parts}
use Rattle.core_model.specs.Invariant.Ticks.{start_of as start_of_node}
use Rattle.core_model.specs.Invariant.Values.{IsKept}
use Rattle.core_model.specs.Serving.{served}
use Rattle.core_model.specs.Words.{Kind}
use Rattle.table_rule.specs.CoreWords.{Progress, Waiting, Ready, Taken, Done, Ran, Status, Free, Pending, Executing, Served, Task, CallState, NotCalled, Out, Receipt}
use Rattle.table_rule.specs.declared.slot.Slot.{Slot}
use Rattle.table_rule.specs.declared.slot.Slot.TheVariants as Slots
use Rattle.table_rule.specs.declared.view.View.{View}
use Rattle.table_rule.specs.declared.view.HoldView.{HoldView}
use Rattle.table_rule.specs.Words.{progress_code, worker_in, start_in, end_in, status_code, flag_code, value_at, HasValue}
use Rattle.table_rule.specs.Shows.{TableState, SlotHome, RecordAt, ShopAt, HoldKnown, AgreesWithView, Shows}
use Rattle.table_rule.specs.OneState.{AreOne}
use Rattle.table_rule.specs.Laws.{Laws}
use Rattle.table_rule.proofs.TableLemmas.Words.{worker_of, start_of, end_of}

-- a node's word determines its progress, if the worker and start of what has run fit their bits
same_progress : (x y : Progress) → progress_code x ≡ progress_code y
    → ((w s e : ℕ) → x ≡ Ran w s e → (w < MOST_WORKERS) × (s < TICKS)) → ((w s e : ℕ) → y ≡ Ran w s e → (w < MOST_WORKERS) × (s < TICKS))
    → ((w s e : ℕ) → y ≡ Ran w s e → x ≢ Done) → ((w s e : ℕ) → x ≡ Ran w s e → y ≢ Done) → x ≡ y
same_progress Waiting Waiting same low low' leaf leaf' = refl
same_progress Waiting Ready same low low' leaf leaf' = absurd (omega (arith, same))
same_progress Waiting Taken same low low' leaf leaf' = absurd (omega (arith, same))
same_progress Waiting Done same low low' leaf leaf' = absurd (omega (arith, same))
same_progress Waiting (Ran v t f) same low low' leaf leaf' = absurd (omega (arith, same))
same_progress Ready Waiting same low low' leaf leaf' = absurd (omega (arith, same))
same_progress Ready Ready same low low' leaf leaf' = refl
same_progress Ready Taken same low low' leaf leaf' = absurd (omega (arith, same))
same_progress Ready Done same low low' leaf leaf' = absurd (omega (arith, same))
same_progress Ready (Ran v t f) same low low' leaf leaf' = absurd (omega (arith, same))
same_progress Taken Waiting same low low' leaf leaf' = absurd (omega (arith, same))
same_progress Taken Ready same low low' leaf leaf' = absurd (omega (arith, same))
same_progress Taken Taken same low low' leaf leaf' = refl
same_progress Taken Done same low low' leaf leaf' = absurd (omega (arith, same))
same_progress Taken (Ran v t f) same low low' leaf leaf' = absurd (omega (arith, same))
same_progress Done Waiting same low low' leaf leaf' = absurd (omega (arith, same))
same_progress Done Ready same low low' leaf leaf' = absurd (omega (arith, same))
same_progress Done Taken same low low' leaf leaf' = absurd (omega (arith, same))
same_progress Done Done same low low' leaf leaf' = refl
same_progress Done (Ran v t f) same low low' leaf leaf' = absurd (leaf v t f refl refl)
same_progress (Ran w s e) Waiting same low low' leaf leaf' = absurd (omega (arith, same))
same_progress (Ran w s e) Ready same low low' leaf leaf' = absurd (omega (arith, same))
same_progress (Ran w s e) Taken same low low' leaf leaf' = absurd (omega (arith, same))
same_progress (Ran w s e) Done same low low' leaf leaf' = absurd (leaf' w s e refl refl)
same_progress (Ran w s e) (Ran v t f) same low low' leaf leaf' =
    let p = low w s e refl in
    let q = low' v t f refl in
    let worker = sym (worker_of w s e p.0) ∙ (ap worker_in same ∙ worker_of v t f q.0) in
    let start = sym (start_of w s e p.0 p.1) ∙ (ap start_in same ∙ start_of v t f q.0 q.1) in
    let end = sym (end_of w s e p.0 p.1) ∙ (ap end_in same ∙ end_of v t f q.0 q.1) in
    λ i. Ran (worker i) (start i) (end i)

pub receipts : (r q : Receipt) → Slots.Receipt r ≡ Slots.Receipt q → r ≡ q
receipts r q e = cc

shops : (a b : List (List Entry)) → Slots.Shop a ≡ Slots.Shop b → a ≡ b
shops a b e = cc

some_both : (a b : Slot) → some (some a) ≡ some (some b) → a ≡ b
some_both a b e = some-injective _ _ (some-injective _ _ e)

-- a worker's status word and record slot determine its status
same_status : (job : CoreJob) (p q : List (List Entry)) (a b : Task) (x y : Status) (home : SlotHome) → status_code x ≡ status_code y → RecordAt job p a x home → RecordAt job q b y home → x ≡ y
same_status job p q a b Free Free home same at at' = refl
same_status job p q a b Free Pending home same at at' = absurd (omega (arith, same))
same_status job p q a b Free Executing home same at at' = absurd (omega (arith, same))
same_status job p q a b Free (Served x) home same at at' = absurd (omega (arith, same))
same_status job p q a b Pending Free home same at at' = absurd (omega (arith, same))
same_status job p q a b Pending Pending home same at at' = refl
same_status job p q a b Pending Executing home same at at' = absurd (omega (arith, same))
same_status job p q a b Pending (Served x) home same at at' = absurd (omega (arith, same))
same_status job p q a b Executing Free home same at at' = absurd (omega (arith, same))
same_status job p q a b Executing Pending home same at at' = absurd (omega (arith, same))
same_status job p q a b Executing Executing home same at at' = refl
same_status job p q a b Executing (Served x) home same at at' = absurd (omega (arith, same))
same_status job p q a b (Served r) Free home same at at' = absurd (omega (arith, same))
same_status job p q a b (Served r) Pending home same at at' = absurd (omega (arith, same))
same_status job p q a b (Served r) Executing home same at at' = absurd (omega (arith, same))
same_status job p q a b (Served r) (Served x) home same at at' = ap Served (receipts r x (some_both _ _ (sym at ∙ at')))

-- case split on whether w is a worker's number
by_worker : (workers w : ℕ) (Goal : Type 0) → (w < workers → Goal) → (workers ≤ w → Goal) → Goal
by_worker workers w Goal inside outside = elim (dec_le workers w) [
  | yes high ↦ outside high
  | no low ↦ inside (lt_of_not-le low)
]

-- what the one seat of a worker says of two states
record BothMine (job : CoreJob) (t : TableState) (a b : State) (w : ℕ) : Type 0 where
  view : View
  seat : ℕ
  other : ℕ
  id : ℕ
  one : AgreesWithView job a (get_elem? t.homes w) seat id view w
  two : AgreesWithView job b (get_elem? t.homes w) other id view w

both_mine : (job : CoreJob) (room : ℕ) (t : TableState) (a b : Shows job room t) (w : ℕ) → w < job.workers → BothMine job t a.state b.state w
both_mine job room t a b w low =
    let h = a.seats w low in record {
      view = h.0;
      seat = a.seat w;
      other = b.seat w;
      id = a.seat w;
      one = (a.views (a.seat w) h.0 w h.1 h.2 h.3).1;
      two = (b.views (a.seat w) h.0 w h.1 h.2 h.3).1;
    }

out_not : (c : CallState) → c ≡ Out → c ≡ NotCalled → ⊥
out_not c e f = absurd (cc)

-- the flag's holder is one of the workers
flag_inside : (job : CoreJob) (s : State) (h : Hold) → Parts job s → s.hold ≡ Some h → h.worker < job.workers
flag_inside job s h kept held = let is = rw held at kept.hold in
    by_worker job.workers h.worker (h.worker < job.workers) (λ low. low) (λ high. absurd (out_not (s.call h.worker) is.0 (kept.beyond h.worker high).2))

-- the two states agree in the hold and the book
record SameHold (a b : State) : Type 0 where
  hold : a.hold ≡ b.hold
  book : a.book ≡ b.book

told_hold : (job : CoreJob) (a b : State) (known : Maybe HoldView) (w : ℕ) (h : Hold) → a.hold ≡ Some h → h.worker ≡ w → HoldKnown job a known w → HoldKnown job b known w → SameHold a b
told_hold job a b None w h held is x y = absurd (x h held is)
told_hold job a b (Some v) w h held is x y = record { hold = x.0 ∙ sym y.0; book = x.1 ∙ sym y.1 }

same_hold : (job : CoreJob) (room : ℕ) (t : TableState) (a b : Shows job room t) (x y : Maybe Hold) → a.state.hold ≡ x → b.state.hold ≡ y → SameHold a.state b.state
same_hold job room t a b None None e f =
    let one = subst (λ (h : Maybe Hold). ShopAt h a.state.book (get_elem? t.homes job.workers)) e a.slots.shop in
    let two = subst (λ (h : Maybe Hold). ShopAt h b.state.book (get_elem? t.homes job.workers)) f b.slots.shop in
    record { hold = e ∙ sym f; book = shops a.state.book b.state.book (some_both _ _ (sym one ∙ two)) }
same_hold job room t a b None (Some h) e f =
    let word : flag_code a.state.hold ≡ flag_code b.state.hold = sym a.words.flag ∙ b.words.flag in
    let clash : 0 ≡ h.worker + 1 = rw (e, f) at word in absurd (omega (arith, clash))
same_hold job room t a b (Some h) y e f =
    let m = both_mine job room t a b h.worker (flag_inside job a.state h a.parts e) in
    told_hold job a.state b.state m.view.own.hold h.worker h e refl m.one.hold m.two.hold

-- the worker and start of a leaf that has run fit their bits
ran_low : (job : CoreJob) (laws : Laws job) (s : State) (n w t e : ℕ) → job.workers ≤ MOST_WORKERS → Parts job s → s.node n ≡ Ran w t e → (w < MOST_WORKERS) × (t < TICKS)
ran_low job laws s n w t e few kept ran =
    let worker = kept.ticks.among n w t e ran in
    let start = kept.ticks.only (start_of_node n) t (w, e, ran) in
    let most = laws.ticks s kept in (omega (arith, worker, few), omega (arith, start, most, laws.few))

same_node : (job : CoreJob) (laws : Laws job) (room : ℕ) (t : TableState) (a b : Shows job room t) (n : ℕ) (kind : Maybe Kind) → job.workers ≤ MOST_WORKERS → job.plan.kind n ≡ kind → a.state.node n ≡ b.state.node n
same_node job laws room t a b n None few is = a.parts.nodes.outside n is ∙ sym (b.parts.nodes.outside n is)
same_node job laws room t a b n (Some kind) few is =
    let low = laws.plan.within n (λ e. let f = sym is ∙ e in absurd (cc)) in
    same_progress (a.state.node n) (b.state.node n) (sym (a.words.progress n low) ∙ b.words.progress n low)
    (λ w s e. ran_low job laws a.state n w s e few a.parts) (λ w s e. ran_low job laws b.state n w s e few b.parts)
    (λ w s e ran. a.parts.nodes.leaf_ran n (b.parts.nodes.ran_leaf n w s e ran))
    (λ w s e ran. b.parts.nodes.leaf_ran n (a.parts.nodes.ran_leaf n w s e ran))

kept_too : (a b : State) (n : ℕ) → a.node n ≡ b.node n → ((w : ℕ) → a.task w ≡ b.task w) → IsKept a.node a.task n → IsKept b.node b.task n
kept_too a b n node task (inl over) = inl (ap is_done (sym node) ∙ over)
kept_too a b n node task (inr (inl k)) = inr (inl (k.0, k.1, sym (task k.0) ∙ k.2))
kept_too a b n node task (inr (inr k)) = inr (inr (k.0, k.1, k.2, sym (task k.0) ∙ k.3))

same_value : (x y : Maybe ℕ) (v u word : ℕ) → x ≡ Some v → y ≡ Some u → HasValue x word → HasValue y word → x ≡ y
same_value x y v u word e f h g =
    let one : word ≡ v = rw e at h in
    let two : word ≡ u = rw f at g in
    e ∙ (ap Some (sym one ∙ two) ∙ sym f)

pub one_state : (job : CoreJob) (room : ℕ) (laws : Laws job) (t : TableState) (a b : Shows job room t) → job.workers ≤ MOST_WORKERS → AreOne job a.state b.state
one_state job room laws t a b few =
    let one = a.state in
    let two = b.state in
    let held = same_hold job room t a b one.hold two.hold refl refl in
    let node : (n : ℕ) → one.node n ≡ two.node n = λ n. same_node job laws room t a b n (job.plan.kind n) few refl in
    let task : (w : ℕ) → one.task w ≡ two.task w = λ w. by_worker job.workers w (one.task w ≡ two.task w)
    (λ low. let m = both_mine job room t a b w low in m.one.task ∙ sym m.two.task)
    (λ high. (a.parts.beyond w high).0 ∙ sym (b.parts.beyond w high).0) in record {
      node = node;
      mark = λ n low. sym (a.words.marks n low) ∙ b.words.marks n low;
      value = λ n leaf kind kept.
          let low = laws.plan.within n (λ e. let f = sym kind ∙ e in absurd (cc)) in
          let x = a.parts.values.values n leaf kind kept in
          let y = b.parts.values.values n leaf kind (kept_too one two n (node n) task kept) in
          same_value (one.value n) (two.value n) x.0 y.0 (get_or t.words (value_at job.workers job.plan.count n) 0) x.1 y.1 (a.words.values n low) (b.words.values n low);
      task = task;
      status = λ w. by_worker job.workers w (one.status w ≡ two.status w)
          (λ low. same_status job one.book two.book (one.task w) (two.task w) (one.status w) (two.status w) (get_elem? t.homes w)
          (sym (a.words.statuses w low) ∙ b.words.statuses w low) (a.slots.records w low) (b.slots.records w low))
          (λ high. (a.parts.beyond w high).1 ∙ sym (b.parts.beyond w high).1);
      call = λ w. by_worker job.workers w (one.call w ≡ two.call w)
          (λ low. let m = both_mine job room t a b w low in m.one.call ∙ sym m.two.call)
          (λ high. (a.parts.beyond w high).2 ∙ sym (b.parts.beyond w high).2);
      hold = held.hold;
      tick = sym a.words.ticks ∙ b.words.ticks;
      book = held.book;
      objects = a.parts.book.objects_after ∙ (ap (λ (book : List (List Entry)). served opening_store (flat book)) held.book ∙ sym b.parts.book.objects_after);
    }
