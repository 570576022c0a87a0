-- The parts of the invariant imply the inductive invariant. The holder of a node is the worker found to name it, and
-- the draw of a tick is the one that the parts give.
use Rattle.std.proofs.Common.{ℕ, ◌≡◌, ◌≢◌, ◌<◌, ◌≤◌, ◌⊎◌, ◌==◌, Bool, true, false, Option, Some, None, List, arith, refl, inl, inr, subst, sym, ◌∙◌, ap}
use Rattle.std.proofs.lemmas.Bool.{cases_eq, cases_lt, false_from_ne_true}
use Rattle.std.proofs.lemmas.Bool.Decides.{nat_tests}
use Rattle.core_model.proofs.Words.{Kind, LeafNode, SeqNode, ParNode, Nodes, IsPlan, Entry, Progress, Waiting, Ready, Taken, Done, Ran, Task, Idle, Started, Kept, Ended, Whole, Status, Free, Pending, Executing, Served, CallState, NotCalled, Out, Got, Receipt, CoreJob, State, CoreState, is_done, names, Event}
use Rattle.sp_order.specs.Plans.{itself}
use Rattle.core_model.specs.Operations.{IsLeaf, op_of, Place, place_of}
use Rattle.core_model.specs.Choice.{least_below}
use Rattle.core_model.specs.Events.{Happens}
use Rattle.core_model.specs.Runs.{IsStep}
use Rattle.core_model.specs.Lists.{times}
use Rattle.core_model.specs.Invariant.ReadyLists.{ReadyListsInvariant}
use Rattle.core_model.specs.Invariant.Nodes.{NodesInvariant}
use Rattle.core_model.specs.Invariant.Tasks.{IsNamed, IsCount, IsPassed, TasksInvariant}
use Rattle.core_model.specs.Invariant.Ticks.{IsStartedAs, Draw, start_of, end_of, start_by, end_by, IsDrawn, HasStart, HasEnd, TicksInvariant}
use Rattle.core_model.specs.Invariant.Values.{IsKept}
use Rattle.core_model.specs.Invariant.Statuses.{IsAtCall, HasReceipt, is_taken_by}
use Rattle.core_model.specs.Invariant.Hold.{is_published}
use Rattle.core_model.specs.Invariant.{Parts, Invariant}
use Rattle.core_model.proofs.Inductive.Nodes.{InductiveNodes, passed_if, LeftAlone, InductiveTasks}
use Rattle.core_model.proofs.Inductive.Ticks.{Stamp, stamp, stamp_in_task, stamp_by, stamps, Drawn, StartOf, EndOf, StartsAt, EndsAt, InductiveTicks}
use Rattle.core_model.proofs.Inductive.Book.{StatusFits, IsEarlier, InductiveBook, booked_by, worker_at, is_valued, valued_by}
use Rattle.core_model.proofs.Inductive.Stamps.{started_name, started_leaf, stamped, stamped_end}
use Rattle.core_model.proofs.Inductive.Parts.{InductiveParts}
use Rattle.core_model.proofs.Inductive.Lists.{stands_in, InductiveLists}
use Rattle.core_model.proofs.ChoiceLemmas.Search.{least_is_chosen, no_least}
use Rattle.batch_history.proofs.BookLemmas.Books.{found_in_book, place_below}
use Rattle.core_model.proofs.Inductive.PartsHold.{by_node, is_by, parts_stand}
use Rattle.core_model.proofs.InvariantLemmas.EachEvent.{event_keeps}
use Rattle.core_model.proofs.InvariantLemmas.ReadyLists.{lists_after, lists_fit}

-- the nodes
nodes_carried : (plan : Nodes) (node : ℕ → Progress) → NodesInvariant plan node → InductiveNodes plan node
nodes_carried plan node h = record {
  root = h.root;
  below_waiting = λ p n side e. h.before_run p n (n, side, itself) (inl e);
  below_ready = λ p n side e. h.before_run p n (n, side, itself) (inr e);
  second = h.second;
  below_done = λ p n side done. h.below_done p n (n, side, itself) done;
  outside = h.outside;
  leaf_ran = λ n leaf kind. h.leaf_ran n (leaf, kind);
  ran_leaf = h.ran_leaf;
}

-- whether a name is this node
abbrev is_name : Option ℕ → ℕ → Bool
is_name None n = false
is_name (Some m) n = m == n

name_true : (o : Option ℕ) (n : ℕ) → is_name o n ≡ true → o ≡ Some n
name_true None n e = cc
name_true (Some m) n e = grind (arith, nat_tests)

name_yes : (o : Option ℕ) (n : ℕ) → o ≡ Some n → is_name o n ≡ true
name_yes None n e = cc
name_yes (Some m) n e = grind (arith, nat_tests)

-- the node that a name is
abbrev node_in : Option ℕ → ℕ
node_in None = 0
node_in (Some n) = n

-- what a draw of the parts is for, by the tasks
abbrev told : (ℕ → Task) → Draw → Drawn
told task (start_of n) = StartOf n
told task (end_of n) = EndOf n
told task (start_by w) = StartOf (node_in (names (task w)))
told task (end_by w) = EndOf (node_in (names (task w)))

-- equal stamps have equal parts
stamp_parts : (v w a s : ℕ) (d e : Option ℕ) → Some (stamp v a d) ≡ Some (stamp w s e) → (v ≡ w) × (a ≡ s) × (d ≡ e)
stamp_parts v w a s d e is =
    let f : stamp v a d ≡ stamp w s e = cc in
    (ap (λ (x : Stamp). x.worker) f, ap (λ (x : Stamp). x.start) f, ap (λ (x : Stamp). x.end) f)

-- the stamp of a task
tells_start : (t : Task) (v w n s : ℕ) (e : Option ℕ) → names t ≡ Some n → stamp_in_task v t ≡ Some (stamp w s e)
    → (v ≡ w) × IsStartedAs t n s × ((d : ℕ) → e ≡ Some d → t ≡ Ended n s d)
tells_start (Started m a) v w n s e name is =
    let p = stamp_parts v w a s None e is in let m_is : m ≡ n = cc in (p.0, (m_is, p.1), λ d f. let g = p.2 ∙ f in cc)
tells_start (Kept m a) v w n s e name is =
    let p = stamp_parts v w a s None e is in let m_is : m ≡ n = cc in (p.0, (m_is, p.1), λ d f. let g = p.2 ∙ f in cc)
tells_start (Ended m a b) v w n s e name is =
    let p = stamp_parts v w a s (Some b) e is in
    let m_is : m ≡ n = cc in
    (p.0, (m_is, p.1), λ d f. let g = p.2 ∙ f in let b_is : b ≡ d = cc in let a_is : a ≡ s = p.1 in rw (m_is, a_is, b_is) refl)
tells_start _ v w n s e name is = cc

module _ (plan : Nodes) (workers : ℕ) (node : ℕ → Progress) (mark : ℕ → ℕ) (tick : ℕ) (task : ℕ → Task)
    (nodes : NodesInvariant plan node) (tasks : TasksInvariant plan node mark task) (ticks : TicksInvariant plan workers node tick task)
    (beyond : (w : ℕ) → workers ≤ w → task w ≡ Idle) where
  -- the worker that names a node
  abbrev holder_of : ℕ → Option ℕ
  holder_of n = least_below (λ w. is_name (names (task w)) n) workers

  holds : (w n : ℕ) → holder_of n ≡ Some w → names (task w) ≡ Some n
  holds w n e = name_true (names (task w)) n (least_is_chosen (λ v. is_name (names (task v)) n) workers w e)

  -- a worker with a task is one of the workers
  among : (w n : ℕ) → names (task w) ≡ Some n → w < workers
  among w n name = elim (cases_lt w workers) [
    | inl below ↦ below
    | inr past ↦ let idle = beyond w past in let e = ap names idle in let f = sym name ∙ e in absurd cc
  ]

  named_by : (w n : ℕ) (o : Option ℕ) → holder_of n ≡ o → names (task w) ≡ Some n → o ≡ Some w
  named_by w n None at name =
      let f = no_least (λ v. is_name (names (task v)) n) workers at w (among w n name) in
      let g = name_yes (names (task w)) n name in let z : false ≡ true = sym f ∙ g in absurd cc
  named_by w n (Some v) at name = ap Some (tasks.apart v w n (holds v n at) name)

  named : (w n : ℕ) → names (task w) ≡ Some n → holder_of n ≡ Some w
  named w n name = named_by w n (holder_of n) refl name

  unnamed : (n : ℕ) → holder_of n ≡ None → IsNamed task n → ⊥
  unnamed n none is = let f = named is.0 n is.1 in let g = sym none ∙ f in cc

  not_whole : (l r : ℕ) → holder_of l ≡ None → ((w : ℕ) × (task w ≡ Whole l)) ⊎ (node r ≢ Waiting) → node r ≢ Waiting
  not_whole l r free (inl whole) = absurd (unnamed l free (whole.0, ap names whole.1))
  not_whole l r free (inr is) = is

  -- the tasks
  left_alone : (p : ℕ) (k : Option Kind) → plan.kind p ≡ k → node p ≡ Taken → holder_of p ≡ None → LeftAlone k node mark holder_of p
  left_alone p None kind taken none = let f = sym (nodes.outside p kind) ∙ taken in absurd cc
  left_alone p (Some (LeafNode u)) kind taken none = unnamed p none (tasks.leaf p (u, kind) taken)
  left_alone p (Some (SeqNode l r)) kind taken none =
      let is = tasks.series p l r kind taken (unnamed p none) in
      (is.0, λ done free. not_whole l r free (is.1 done), λ done free. let whole = is.2 done in unnamed r free (whole.0, ap names whole.1))
  left_alone p (Some (ParNode l r)) kind taken none = tasks.parallel p l r kind taken (unnamed p none)

  counted : (n c : ℕ) (b : Bool) (o : Option ℕ) → is_done (node n) ≡ b → holder_of n ≡ o → IsCount (IsPassed node task n) c → c ≡ passed_if b o
  counted n c true None done held (inl is) = is.1
  counted n c true None done held (inr is) = absurd (is.0 (done, unnamed n held))
  counted n c true (Some w) done held (inl is) = absurd (is.0.1 (w, holds w n held))
  counted n c true (Some w) done held (inr is) = is.1
  counted n c false o done held (inl is) = let f = sym done ∙ is.0.0 in absurd cc
  counted n c false o done held (inr is) = is.1

  tasks_carried : InductiveTasks plan node mark task holder_of
  tasks_carried = record {
    holders = record { named = named; holds = holds };
    fits = tasks.says;
    alone = λ p taken none. left_alone p (plan.kind p) refl taken none;
    marks = λ p l r kind.
        let is = tasks.marks p l r kind in
        let a = counted l is.0 (is_done (node l)) (holder_of l) refl refl is.2 in
        let b = counted r is.1 (is_done (node r)) (holder_of r) refl refl is.3 in
        let c = is.4 in omega (arith, a, b, c);
  }

  -- what a tick was drawn for
  drawn_by : (t : ℕ) → (t < tick) ⊎ (tick ≤ t) → Drawn
  drawn_by t (inl below) = told task (ticks.each t below).0
  drawn_by t (inr past) = StartOf 0

  draw_of : ℕ → Drawn
  draw_of t = drawn_by t (cases_lt t tick)

  draw_when : (t : ℕ) (a : Draw) (c : (t < tick) ⊎ (tick ≤ t)) → IsDrawn node task a t → drawn_by t c ≡ told task a
  unfolding drawn_by
  draw_when t a (inl below) d = ap (told task) (ticks.distinct (ticks.each t below).0 a t (ticks.each t below).1 d)
  draw_when t a (inr past) d = let low = ticks.only a t d in absurd (omega (arith, low, past))

  draw_is : (t : ℕ) (a : Draw) → IsDrawn node task a t → draw_of t ≡ told task a
  unfolding draw_of
  draw_is t a d = draw_when t a (cases_lt t tick) d

  -- the stamps
  tells : (n w s : ℕ) (e : Option ℕ) (x : Progress) (o : Option ℕ) → node n ≡ x → holder_of n ≡ o → stamp_by x o task ≡ Some (stamp w s e)
      → HasStart node task n w s × ((d : ℕ) → e ≡ Some d → HasEnd node task n w s d)
  tells n w s e Waiting o at held is = cc
  tells n w s e Ready o at held is = cc
  tells n w s e Done o at held is = cc
  tells n w s e Taken None at held is = cc
  tells n w s e Taken (Some v) at held is =
      let t = tells_start (task v) v w n s e (holds v n held) is in
      (inr (rw (← t.0) t.1), λ d f. inr (rw (← t.0) (t.2 d f)))
  tells n w s e (Ran v a b) o at held is =
      let p = stamp_parts v w a s (Some b) e is in
      (inl (b, rw (← p.0, ← p.1) at), λ d i. let k = p.2 ∙ i in let j : b ≡ d = cc in inl (rw (← p.0, ← p.1, ← j) at))

  abbrev stamps_of : ℕ → Option Stamp
  stamps_of = stamps node task holder_of

  known : (n w s : ℕ) (e : Option ℕ) → stamps_of n ≡ Some (stamp w s e) → HasStart node task n w s × ((d : ℕ) → e ≡ Some d → HasEnd node task n w s d)
  known n w s e is = tells n w s e (node n) (holder_of n) refl refl is

  stamp_ended : (n w s e : ℕ) → HasEnd node task n w s e → stamps_of n ≡ Some (stamp w s (Some e))
  stamp_ended = stamped_end plan node mark task holder_of tasks_carried

  -- the ticks at which it started and ended
  started_draw : (n w s : ℕ) → HasStart node task n w s → (draw_of s ≡ StartOf n) × (s < tick)
  started_draw n w s (inl ran) =
      let d : IsDrawn node task (start_of n) s = (w, ran.0, ran.1) in (draw_is s (start_of n) d, ticks.only (start_of n) s d)
  started_draw n w s (inr is) =
      let d : IsDrawn node task (start_by w) s = (n, is) in
      (draw_is s (start_by w) d ∙ ap (λ (o : Option ℕ). StartOf (node_in o)) (started_name (task w) n s is), ticks.only (start_by w) s d)

  ended_draw : (n w s e : ℕ) → HasEnd node task n w s e → (draw_of e ≡ EndOf n) × (e < tick)
  ended_draw n w s e (inl ran) =
      let d : IsDrawn node task (end_of n) e = (w, s, ran) in (draw_is e (end_of n) d, ticks.only (end_of n) e d)
  ended_draw n w s e (inr mine) =
      let d : IsDrawn node task (end_by w) e = (n, s, mine) in
      (draw_is e (end_by w) d ∙ ap (λ (x : Task). EndOf (node_in (names x))) mine, ticks.only (end_by w) e d)

  same_start : (m n : ℕ) → StartOf m ≡ StartOf n → m ≡ n
  same_start m n e = cc

  same_end : (m n : ℕ) → EndOf m ≡ EndOf n → m ≡ n
  same_end m n e = cc

  start_told : (t n : ℕ) (a : Draw) → IsDrawn node task a t → told task a ≡ StartOf n → StartsAt (stamps_of n) t
  start_told t n (start_of m) d is = let e : m ≡ n = same_start m n is in rw (← e, d.2) refl
  start_told t n (start_by w) d is =
      let name = started_name (task w) d.0 t d.1 in
      let e : d.0 ≡ n = same_start d.0 n (sym (ap (λ (o : Option ℕ). StartOf (node_in o)) name) ∙ is) in
      let s = stamped plan node mark task holder_of tasks_carried d.0 w t (inr d.1) in rw (← e, s.1) refl
  start_told t n _ d is = absurd cc

  end_told : (t n : ℕ) (a : Draw) → IsDrawn node task a t → told task a ≡ EndOf n → EndsAt (stamps_of n) t
  end_told t n (end_of m) d is = let e : m ≡ n = same_end m n is in rw (← e, d.2) refl
  end_told t n (end_by w) d is =
      let e : d.0 ≡ n = same_end d.0 n (sym (ap (λ (x : Task). EndOf (node_in (names x))) d.2) ∙ is) in
      let s = stamp_ended d.0 w d.1 t (inr d.2) in rw (← e, s) refl
  end_told t n _ d is = absurd cc

  start_worker : (n w s : ℕ) → HasStart node task n w s → w < workers
  start_worker n w s (inl ran) = ticks.among n w s ran.0 ran.1
  start_worker n w s (inr is) = among w n (started_name (task w) n s is)

  start_leaf : (n w s : ℕ) → HasStart node task n w s → IsLeaf (plan.kind n)
  start_leaf n w s (inl ran) = nodes.ran_leaf n w s ran.0 ran.1
  start_leaf n w s (inr is) = (started_leaf plan node mark (task w) n s is (tasks.says w)).0

  same_stamp : (w s : ℕ) (d e : Option ℕ) → Some (stamp w s d) ≡ Some (stamp w s e) → d ≡ e
  same_stamp w s d e is = (stamp_parts w w s s d e is).2

  ticks_carried : InductiveTicks plan workers node tick stamps_of
  ticks_carried = record {
    draw = draw_of;
    start_drawn = λ n w s e is. started_draw n w s (known n w s e is).0;
    end_drawn = λ n w s e is.
        let ends = (known n w s (Some e) is).1 e refl in
        let at = ended_draw n w s e ends in (at.0, at.1, ticks.starts_first n w s e ends);
    start_at = λ t n low is. let a = ticks.each t low in start_told t n a.0 a.1 (sym (draw_is t a.0 a.1) ∙ is);
    end_at = λ t n low is. let a = ticks.each t low in end_told t n a.0 a.1 (sym (draw_is t a.0 a.1) ∙ is);
    workers_below = λ n w s e is. start_worker n w s (known n w s e is).0;
    in_order = λ n m w s e before is.
        let starts = (known m w s e is).0 in
        let ran = ticks.in_order n m w s (before.0, before.1) (start_leaf m w s starts) before.2 starts in
        rw ran.3 ran.4;
    one_at_once = λ n m w s t d e is is' less.
        let ends = ticks.alone n m w s t (known n w s d is).0 (known m w t e is').0 less in
        let same : Some ends.0 ≡ d = same_stamp w s (Some ends.0) d (sym (stamp_ended n w s ends.0 ends.1) ∙ is) in
        rw (← same) ends.2;
  }

-- one worker's status and call
row_carried : (job : CoreJob) (book : List (List Entry)) (t : Task) (st : Status) (c : CallState) (b : Bool)
    → (c ≡ Out → st ≢ Free) → (st ≢ Free → c ≡ Out) → (c ≢ NotCalled → IsAtCall job t) → (st ≡ Executing → b ≡ true) → (b ≡ true → st ≡ Executing)
    → ((r : Receipt) → st ≡ Served r → HasReceipt job book t r) → ((r : Receipt) → c ≡ Got r → HasReceipt job book t r) → StatusFits job book t st c b
row_carried job book t Free NotCalled b out busy at taken executes served got = false_from_ne_true b (λ e. let f = executes e in cc)
row_carried job book t Free Out b out busy at taken executes served got = out refl refl
row_carried job book t Free (Got r) b out busy at taken executes served got = (false_from_ne_true b (λ e. let f = executes e in cc), at (λ e. cc), got r refl)
row_carried job book t Pending NotCalled b out busy at taken executes served got = let f = busy (λ e. cc) in absurd cc
row_carried job book t Pending Out b out busy at taken executes served got = (false_from_ne_true b (λ e. let f = executes e in cc), at (λ e. cc))
row_carried job book t Pending (Got r) b out busy at taken executes served got = let f = busy (λ e. cc) in absurd cc
row_carried job book t Executing NotCalled b out busy at taken executes served got = let f = busy (λ e. cc) in absurd cc
row_carried job book t Executing Out b out busy at taken executes served got = (taken refl, at (λ e. cc))
row_carried job book t Executing (Got r) b out busy at taken executes served got = let f = busy (λ e. cc) in absurd cc
row_carried job book t (Served q) NotCalled b out busy at taken executes served got = let f = busy (λ e. cc) in absurd cc
row_carried job book t (Served q) Out b out busy at taken executes served got = (false_from_ne_true b (λ e. let f = executes e in cc), at (λ e. cc), served q refl)
row_carried job book t (Served q) (Got r) b out busy at taken executes served got = let f = busy (λ e. cc) in absurd cc

earlier_if : (p q : Option Place) → ((later : Place) → q ≡ Some later → (earlier : Place) × (p ≡ Some earlier) × (earlier.batch < later.batch)) → IsEarlier p q
earlier_if None None h = tt
earlier_if (Some x) None h = tt
earlier_if p (Some later) h = let at = h later refl in rw at.1 at.2

-- which calls are in the book
worker_same : (p : Option Place) (o : Option ℕ) → ((place : Place) → p ≡ Some place → o ≡ Some place.entry.worker)
    → ((w : ℕ) → o ≡ Some w → (place : Place) × (p ≡ Some place) × (place.entry.worker ≡ w)) → worker_at p ≡ o
worker_same (Some place) o only each = sym (only place refl)
worker_same None None only each = refl
worker_same None (Some w) only each = let at = each w refl in let f = at.1 in absurd cc

module _ (job : CoreJob) (s : State) (h : Parts job s) where
  idle_beyond : (w : ℕ) → job.workers ≤ w → s.task w ≡ Idle
  idle_beyond w past = (h.beyond w past).0

  abbrev holder : ℕ → Option ℕ
  holder = holder_of job.plan job.workers s.node s.mark s.tick s.task h.nodes h.tasks h.ticks idle_beyond

  kept_tasks : InductiveTasks job.plan s.node s.mark s.task holder
  kept_tasks = tasks_carried job.plan job.workers s.node s.mark s.tick s.task h.nodes h.tasks h.ticks idle_beyond

  book_carried : InductiveBook job s.book s.objects (stamps s.node s.task holder)
  book_carried = record {
    legal = h.book.legal;
    objects_after = h.book.objects_after;
    batches = h.book.batches;
    leaves = h.book.leaves;
    among = h.book.among;
    operations = h.book.operations;
    sources = h.book.sources;
    entries = λ leaf place at.
        let op = found_in_book (λ (e : Entry). op_of job s.book e.leaf ≡ Some e.op) s.book leaf place h.book.operations at in
        let among' = found_in_book (λ (e : Entry). e.worker < job.workers) s.book leaf place h.book.among at in
        (rw op.1 at op.0, among'.0, place_below s.book leaf place at);
    in_order = λ n m u v w x a b d e kind kind' call is is' less.
        let ends = (known job.plan job.workers s.node s.mark s.tick s.task h.nodes h.tasks h.ticks idle_beyond n w a (Some d) is).1 d refl in
        let starts = (known job.plan job.workers s.node s.mark s.tick s.task h.nodes h.tasks h.ticks idle_beyond m x b e is').0 in
        earlier_if (place_of s.book u) (place_of s.book v) (λ later at. h.book.in_order n m u v w x a b d kind kind' call ends starts less later at);
  }

  kept_by : (t : Task) (n w : ℕ) → s.task w ≡ t → names t ≡ Some n → is_valued t ≡ true → IsKept s.node s.task n
  kept_by (Kept m a) n w mine name e = let f : m ≡ n = cc in inr (inl (w, a, rw (← f) mine))
  kept_by (Ended m a d) n w mine name e = let f : m ≡ n = cc in inr (inr (w, a, d, rw (← f) mine))
  kept_by _ n w mine name e = cc

  is_kept : (n : ℕ) (x : Progress) (o : Option ℕ) → s.node n ≡ x → holder n ≡ o → valued_by x o s.task ≡ true → IsKept s.node s.task n
  is_kept n Waiting o at held e = cc
  is_kept n Ready o at held e = cc
  is_kept n Done o at held e = cc
  is_kept n Taken None at held e = cc
  is_kept n Taken (Some w) at held e = kept_by (s.task w) n w refl (kept_tasks.holders.holds w n held) e
  is_kept n (Ran w a d) o at held e = inl (rw at refl)

  pub parts_carried : InductiveParts job s
  parts_carried = record {
    holder = holder;
    nodes = nodes_carried job.plan s.node h.nodes;
    tasks = kept_tasks;
    beyond = idle_beyond;
    ticks = ticks_carried job.plan job.workers s.node s.mark s.tick s.task h.nodes h.tasks h.ticks idle_beyond;
    statuses = λ w. row_carried job s.book (s.task w) (s.status w) (s.call w) (is_taken_by s.hold w)
        (h.statuses.out w).0 (h.statuses.out w).1 (h.statuses.at_call w) (h.statuses.executing w).0 (h.statuses.executing w).1
        (h.statuses.served_receipt w) (h.statuses.got_receipt w);
    hold = h.hold;
    book = book_carried;
    booked = λ n leaf kind call.
        worker_same (place_of s.book leaf) (booked_by (s.node n) (holder n) s.task s.status s.call (is_published s.hold))
        (λ place at. is_by s job.plan holder n place.entry.worker kept_tasks (h.members.only n leaf kind call place at))
        (λ w e. h.members.each n leaf kind call w (by_node s holder n w (s.node n) (holder n) kept_tasks.holders refl refl e));
    values = λ n leaf kind valued. h.values.values n leaf kind (is_kept n (s.node n) (holder n) refl refl valued);
  }

-- the lists
module _ (workers : ℕ) (node : ℕ → Progress) (ready : ℕ → List ℕ) (h : ReadyListsInvariant workers node ready) where
  home_by : (n : ℕ) (x : Progress) → node n ≡ x → Option ℕ
  home_by n Ready at = Some (h.each n at).0
  home_by n _ at = None

  home_there : (n : ℕ) (x : Progress) (at : node n ≡ x) → x ≡ Ready → home_by n x at ≢ None
  unfolding home_by
  home_there n Waiting at e none = cc
  home_there n _ at e none = cc

  home_among : (n w : ℕ) (x : Progress) (at : node n ≡ x) → home_by n x at ≡ Some w → w < workers
  unfolding home_by
  home_among n w Ready at e = let f : (h.each n at).0 ≡ w = cc in rw (← f) (h.each n at).1
  home_among n w _ at e = absurd cc

  stands_not : (n w : ℕ) → node n ≢ Ready → times n (ready w) ≡ 0
  stands_not n w other = elim (cases_eq (times n (ready w)) 0) [
    | inl none ↦ none
    | inr some ↦ absurd (other (h.only n w some))
  ]

  stands_so : (n w : ℕ) (x : Progress) (at : node n ≡ x) → times n (ready w) ≡ stands_in x (home_by n x at) w
  unfolding home_by
  stands_so n w Waiting at = stands_not n w (λ e. let f = sym at ∙ e in cc)
  stands_so n w Ready at = elim (cases_eq (h.each n at).0 w) [
    | inl e ↦ let one = rw e at (h.each n at).2 in grind (arith, nat_tests)
    | inr other ↦ let none = (h.each n at).3 w (λ e. other (sym e)) in grind (arith, nat_tests)
  ]
  stands_so n w Taken at = stands_not n w (λ e. let f = sym at ∙ e in cc)
  stands_so n w _ at = stands_not n w (λ e. let f = sym at ∙ e in cc)

  pub lists_carried : InductiveLists workers node ready
  lists_carried = record {
    home = λ n. home_by n (node n) refl;
    homes = λ n e. home_there n (node n) refl e;
    among = λ n w e. home_among n w (node n) refl e;
    stands = λ w n. stands_so n w (node n) refl;
  }

-- so each event keeps the parts
pub event_keeps_parts : (job : CoreJob) (s new : State) (w : ℕ) (event : Event) → IsPlan job.plan → Parts job s → Happens job s w event new → Parts job new
event_keeps_parts job s new w event laws h go = parts_stand job new (event_keeps job s new w event laws (parts_carried job s h) go)

-- and the invariant
pub event_keeps_all : (job : CoreJob) (old new : CoreState) (w : ℕ) (event : Event) → IsPlan job.plan → Invariant job old → IsStep job old w event new → Invariant job new
event_keeps_all job old new w event laws h step =
    let parts = parts_carried job old.state h.parts in
    let lists = lists_carried job.workers old.state.node old.ready h.lists in
    record {
      parts = parts_stand job new.state (event_keeps job old.state new.state w event laws parts step.happens);
      lists = lists_fit job.workers new.state.node new.ready
          (subst (InductiveLists job.workers new.state.node) (sym step.lists)
          (lists_after job old.state w old.ready laws parts step.happens.worker_in lists event new.state step.happens.needs step.happens.does));
    }
