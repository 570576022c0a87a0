-- The steps of a pass at the nodes of the job.
use Rattle.std.proofs.Common.{ℕ, ◌≡◌, ◌≢◌, ◌<◌, ◌+◌, ◌%◌, ◌^◌, true, false, Option as Maybe, None, Some, List, [], ◌∷◌, length, get_or, set, eqb, arith, refl, sym, ap, ◌∙◌, subst, inl, inr, get_or-set_other}
use Rattle.std.proofs.lemmas.Bool.Decides.{nat_tests}
use Rattle.std.proofs.lemmas.Bool.{cases_eq}
use mathlib.Core.Option.{none, some}
use lib.ListN.{get_elem?}
use prog.Atomic.{either}
use Rattle.atomic_table.specs.Table.{step, Act, keeps, Valid, carried_after, stepped}
use Rattle.atomic_table.proofs.Lists.{exchanged}
use Rattle.core_model.specs.declared.progress.Progress.{Progress}
use Rattle.core_model.specs.declared.progress.Progress.TheVariants.{Ready, Taken as IsTaken}
use Rattle.core_model.specs.declared.task.Task.{Task}
use Rattle.core_model.specs.declared.task.Task.TheVariants.{Idle, Run, Started, Kept, Ended, Handed}
use Rattle.core_model.specs.declared.status.CallState.TheVariants.{NotCalled, Out}
use Rattle.core_model.specs.declared.event.Event.{Event}
use Rattle.core_model.specs.declared.event.Event.TheVariants.{Claim, Start, Keep, End, ArriveFirst, ArriveSecond}
use Rattle.core_model.specs.declared.next.Next.{Next}
use Rattle.core_model.specs.declared.next.Next.TheVariants as acts
use Rattle.core_model.specs.Next.{next_act}
use Rattle.sp_order.specs.declared.node.Kind.TheVariants.{ParNode}
use Rattle.sp_order.specs.Plans.{IsSide}
use Rattle.core_model.specs.Events.{Happens, task_after, value_in}
use Rattle.core_model.specs.State.{put, CoreJob}
use Rattle.core_model.specs.Tasks.{is_done}
use Rattle.core_model.specs.Operations.{leaf_of, value_under}
use Rattle.table_rule.specs.declared.view.Miss.{Miss}
use Rattle.table_rule.specs.declared.view.View.{View}
use Rattle.table_rule.specs.declared.slot.Slot.{Slot}
use Rattle.table_rule.specs.Tasks.{TaskHere, most_ticks, progress_after, job_seen_with, IsNext}
use Rattle.table_rule.specs.DueActs.{IsTickDue}
use Rattle.table_rule.proofs.StepLemmas.NextActs.{act_is, next_stands, MayKeep}
use Rattle.table_rule.proofs.StepLemmas.ToldOps.{told_keep}
use Rattle.table_rule.proofs.StepLemmas.Sides.{block_in}
use Rattle.table_rule.proofs.TableLemmas.Traces.{AddsEvent}
use Rattle.table_rule.specs.Words.{stop_at, node_at, mark_at, value_at, tick_at, progress_code, WordsShow}
use Rattle.table_rule.specs.Laws.{Laws}
use Rattle.table_rule.specs.Steps.{ShowsOne, StepRefines, TryMakes, ArrivalMakes, MakesEvent}
use Rattle.table_rule.specs.Shows.{TableState, Shows, AgreesWithView}
use Rattle.table_rule.specs.Plays.{claimed, drawn, opened, kept, finished, arrived}
use Rattle.table_rule.specs.Passes.{with_task, claiming, refusing, opening, keeping}
use Rattle.table_rule.specs.Views.{with_step, with_miss}
use Rattle.table_rule.proofs.TableLemmas.Words.{set_node, set_mark, set_value, set_tick}
use Rattle.table_rule.proofs.TableLemmas.Facts.{is_free}
use Rattle.table_rule.proofs.TableLemmas.Misses.{miss_of, noted_at, miss_seen}
use Rattle.table_rule.proofs.TableLemmas.Moved.{mine_of, job_step, looked, found, missed, found_none, found_one, SameBut}
use Rattle.core_model.proofs.InvariantLemmas.Puts.{put_at, put_other}

ready_word : (p : Progress) → progress_code p ≡ 1 → p ≡ Ready
ready_word Ready e = refl
ready_word _ e = absurd (omega (arith, e))

-- the root stays done when the progress of a node that is not done changes
root_kept : (node : ℕ → Progress) (n : ℕ) (x : Progress) → is_done (node n) ≡ false → is_done (node 0) ≡ true → is_done (put node n x 0) ≡ true
root_kept node n x undone done = grind (arith, nat_tests)

root_done : (node : ℕ → Progress) (n : ℕ) (x : Progress) → is_done x ≡ true → is_done (node 0) ≡ true → is_done (put node n x 0) ≡ true
root_done node n x is done = grind (arith, nat_tests)

module _ (job : CoreJob) (room : ℕ) (laws : Laws job) (slots id : ℕ) (v : View) (xs : List (ℕ × Slot)) (k : ℕ) (from : v.own.worker ≡ k) (to : v.to ≡ k + 1) (sized : v.workers ≡ job.workers) (enrolled : v.enrolled ≡ true) (known : job_seen_with job.work v ≡ job) where
  abbrev P : ℕ
  P = job.workers

  abbrev N : ℕ
  N = job.plan.count

  -- the view after a look or a refused try
  refused : (t : TableState) (o : Shows job room t) (n : ℕ) (miss : Miss) → AgreesWithView job o.state (get_elem? t.homes k) (o.seat k) id v k → AgreesWithView job o.state (get_elem? t.homes k) (o.seat k) id (with_miss miss (refusing n) v) k
  refused t o n miss m = record { sits = m.sits; task = m.task; call = m.call; posted = m.posted; told = m.told; entries = m.entries; hold = m.hold; new = m.new; done = m.done; seen = m.seen; since = record { most = m.since.most; early = m.since.early; late = m.since.late; placed = m.since.placed; waits = m.since.waits } }

  -- a claim
  pub claims : v.room ≡ room → (n : ℕ) → n < job.plan.count → v.own.task ≡ Idle → v.own.call ≢ Out
      → StepRefines job room slots id (v, xs) (node_at job.workers n) (λ y. either (eqb y 1) 2 y) (claimed job.work (step slots (node_at job.workers n) 1 2 none) (v, xs)) (TryMakes 1 (MakesEvent job k (Claim n)))
  claims roomy n below idle inside t o wide me fits =
      let s = o.state in
      let place = node_at job.workers n in
      let miss = miss_of job room t o v place in
      let word = get_or t.words (node_at job.workers n) 0 in
      let m = mine_of job room t o id k v me from to in
      let inside' : s.call k ≢ Out = λ e. inside (sym m.1.call ∙ e) in
      exchanged word 1 2 (λ y. (w : View) × (a : Act Slot) × Valid t.homes xs a × ShowsOne job room (TryMakes 1 (MakesEvent job k (Claim n)) s word) (stepped t (node_at job.workers n) y id xs w a) × claimed job.work (step slots (node_at job.workers n) 1 2 none) (v, xs) word (w, carried_after xs a))
      (λ one.
      let ready : s.node n ≡ Ready = ready_word (s.node n) (sym (o.words.progress n below) ∙ one) in (
        with_step (claiming n) v,
        keeps,
        tt,
        found word 1 (MakesEvent job k (Claim n)) one (job_step job room laws t o id k v (with_step (claiming n) v) (set t.words (node_at job.workers n) 2) (Claim n) (put s.node n IsTaken) s.mark s.value s.tick s.call (Run n)
            record { worker_in = m.0; needs = (is_free job s k o.parts inside', m.1.task ∙ idle, ready); does = refl }
            me from to enrolled inside' inside'
            record { from = refl; to = refl; told = refl; left = refl; hold = refl; enrolled = refl; saw_done = refl; greatest = refl; before = refl; after = refl; book_seen = refl }
            record { events = refl; stops = refl; found = refl; misses = refl; stopped = refl } (get_or-set_other t.words (node_at P n) (stop_at P) 2 0 (λ e. omega arith))
            refl m.1.call (λ x ne. refl) (root_kept s.node n IsTaken (ap is_done ready))
            (set_node P N t.words s.node s.mark s.value s.status s.hold s.tick (length s.book) o.words n IsTaken below)),
        (n, ap (λ (p : ℕ). node_at p n) (sym sized), (λ _. refl), (λ ne. absurd (ne one))),
      ))
      (λ ne. (
        with_miss miss (refusing n) v,
        keeps,
        tt,
        missed word 1 (MakesEvent job k (Claim n)) ne (looked job room t o id k place v (with_miss miss (refusing n) v) me from to from to refl refl (λ h. inl h) (miss ∷ []) refl refl
            (noted_at job room t o id k v me from to place (λ e. omega arith)) (refused t o n miss)),
        (n, ap (λ (p : ℕ). node_at p n) (sym sized), (λ one. absurd (ne one)), (λ _. (miss, miss_seen job room t o id k v me from to known roomy place, refl, refl))),
      ))

  same : (w : View) → w.own.worker ≡ v.own.worker → w.to ≡ v.to → w.own.told ≡ None → w.own.left ≡ v.own.left → w.own.hold ≡ v.own.hold → w.enrolled ≡ v.enrolled → w.saw_done ≡ v.saw_done → w.own.greatest ≡ v.own.greatest → w.own.before ≡ v.own.before → w.own.after ≡ v.own.after → w.own.book_seen ≡ v.own.book_seen → SameBut v w
  same w a b t l c d e f g h i = record { from = a; to = b; told = t; left = l; hold = c; enrolled = d; saw_done = e; greatest = f; before = g; after = h; book_seen = i }

  outside : (t : TableState) (o : Shows job room t) → get_elem? t.views id ≡ some v → v.own.call ≢ Out → o.state.call k ≢ Out
  outside t o me inside e = inside (sym (mine_of job room t o id k v me from to).1.call ∙ e)

  -- a draw of the tick, and what it tells the seat of the task that it leaves
  draws : (event : Event) (y : ℕ → Task) → v.own.call ≢ Out
      → ((tick : ℕ) → tick < most_ticks → drawn (step slots (tick_at P) 1 0 none) (v, xs) tick (with_step (with_task event (y tick)) v, xs))
      → ((t : TableState) (o : Shows job room t) → get_elem? t.views id ≡ some v → Happens job o.state k event (record o.state { tick = o.state.tick + 1; task = put o.state.task k (y o.state.tick) }))
      → StepRefines job room slots id (v, xs) (tick_at P) (λ n. (n + 1) % 2 ^ 64) (drawn (step slots (tick_at P) 1 0 none) (v, xs)) (MakesEvent job k event)
  draws event y inside told happens t o wide me fits =
      let s = o.state in
      let word = get_or t.words (tick_at P) 0 in
      let most = laws.ticks s o.parts in
      let room' : word < most_ticks = omega (arith, most, laws.few, o.words.ticks) in
      let next : (word + 1) % 2 ^ 64 ≡ s.tick + 1 = omega (arith, o.words.ticks, room') in
      let w : View = with_step (with_task event (y word)) v in
      let m = mine_of job room t o id k v me from to in (
        w,
        keeps,
        tt,
        job_step job room laws t o id k v w (set t.words (tick_at P) ((word + 1) % 2 ^ 64)) event s.node s.mark s.value (s.tick + 1) s.call (y s.tick)
            (happens t o me) me from to enrolled (outside t o me inside) (outside t o me inside) (same w refl refl refl refl refl refl refl refl refl refl refl)
            record { events = refl; stops = refl; found = refl; misses = refl; stopped = refl } (get_or-set_other t.words (tick_at P) (stop_at P) ((word + 1) % 2 ^ 64) 0 (λ e. omega arith))
            (ap y o.words.ticks) m.1.call (λ x ne. refl) (λ done. done)
            (subst (λ (z : ℕ). WordsShow P N (set t.words (tick_at P) z) s.node s.mark s.value s.status s.hold (s.tick + 1) (length s.book)) (sym next)
            (set_tick P N t.words s.node s.mark s.value s.status s.hold s.tick (length s.book) o.words (s.tick + 1))),
        told word room',
      )

  -- the next act of the view is the one that is due
  is_due : (one two : Next) → next_act job v.own.task v.own.call ≡ Some two → IsNext v one → one ≡ two
  is_due one two due is = act_is job v one two known due is

  pub starts : (n leaf : ℕ) → TaskHere job.plan v.own.task → next_act job v.own.task v.own.call ≡ Some (acts.Start n leaf) → v.own.call ≢ Out
      → StepRefines job room slots id (v, xs) (tick_at P) (λ y. (y + 1) % 2 ^ 64) (drawn (step slots (tick_at P) 1 0 none) (v, xs)) (MakesEvent job k (Start n))
  starts n leaf here due inside =
      let stands = next_stands job laws v.own.call v.own.task (acts.Start n leaf) here due in
      draws (Start n) (λ tick. Started n tick) inside
      (λ tick low. (
        low,
        (λ m u next. let both = is_due (acts.Start m u) (acts.Start n leaf) due next in let at : n ≡ m = cc in ap (λ (x : ℕ). (with_step (with_task (Start x) (Started x tick)) v, xs)) at),
        (λ m start next. let both = is_due (acts.End m start) (acts.Start n leaf) due next in absurd (cc)),
      ))
      (λ t o me. let m = mine_of job room t o id k v me from to in record { worker_in = m.0; needs = (is_free job o.state k o.parts (outside t o me inside), m.1.task ∙ stands.0, stands.1); does = refl })

  pub ends : (n start : ℕ) → TaskHere job.plan v.own.task → next_act job v.own.task v.own.call ≡ Some (acts.End n start) → v.own.call ≢ Out
      → StepRefines job room slots id (v, xs) (tick_at P) (λ y. (y + 1) % 2 ^ 64) (drawn (step slots (tick_at P) 1 0 none) (v, xs)) (MakesEvent job k (End n start))
  ends n start here due inside =
      let stands = next_stands job laws v.own.call v.own.task (acts.End n start) here due in
      draws (End n start) (λ tick. Ended n start tick) inside
      (λ tick low. (
        low,
        (λ m u next. let both = is_due (acts.Start m u) (acts.End n start) due next in absurd (cc)),
        (λ m s next. let both = is_due (acts.End m s) (acts.End n start) due next in let at : n ≡ m = cc in let since : start ≡ s = cc in
            λ i. (with_step (with_task (End (at i) (since i)) (Ended (at i) (since i) tick)) v, xs)),
      ))
      (λ t o me. let m = mine_of job room t o id k v me from to in record { worker_in = m.0; needs = (is_free job o.state k o.parts (outside t o me inside), m.1.task ∙ stands); does = refl })

  draws_by : (o : Maybe Next) → TaskHere job.plan v.own.task → next_act job v.own.task v.own.call ≡ o → IsTickDue o → v.own.call ≢ Out
      → StepRefines job room slots id (v, xs) (tick_at P) (λ y. (y + 1) % 2 ^ 64) (drawn (step slots (tick_at P) 1 0 none) (v, xs)) (λ before found after. (event : Event) × MakesEvent job k event before found after)
  draws_by (Some (acts.Start n leaf)) here due is inside t o wide me fits = let x = starts n leaf here due inside t o wide me fits in (x.0, x.1, x.2, (x.3.0, (Start n, x.3.1)), x.4)
  draws_by (Some (acts.End n start)) here due is inside t o wide me fits = let x = ends n start here due inside t o wide me fits in (x.0, x.1, x.2, (x.3.0, (End n start, x.3.1)), x.4)
  draws_by _ here due is inside t o wide me fits = absurd is

  -- a tick that is due, at its start or its end
  pub draws_due : TaskHere job.plan v.own.task → IsTickDue (next_act job v.own.task v.own.call) → v.own.call ≢ Out
      → StepRefines job room slots id (v, xs) (tick_at P) (λ y. (y + 1) % 2 ^ 64) (drawn (step slots (tick_at P) 1 0 none) (v, xs)) (λ before found after. (event : Event) × MakesEvent job k event before found after)
  draws_due here due inside = draws_by (next_act job v.own.task v.own.call) here refl due inside

  -- a node that is not the root gets this progress
  stores : (event : Event) (n : ℕ) (x : Progress) (y : Task) (w : View) → n < N → w.own.task ≡ y → w.own.call ≡ v.own.call → SameBut v w → AddsEvent v w event [] → v.own.call ≢ Out
      → (t : TableState) (o : Shows job room t) → get_elem? t.views id ≡ some v
      → Happens job o.state k event (record o.state { node = put o.state.node n x; task = put o.state.task k y })
      → (is_done (o.state.node 0) ≡ true → is_done (put o.state.node n x 0) ≡ true)
      → ShowsOne job room (Happens job o.state k event) record { words = set t.words (node_at P n) (progress_code x); homes = t.homes; views = set t.views id w }
  stores event n x y w below task_is call_is same_w made inside t o me happens done =
      let s = o.state in
      let m = mine_of job room t o id k v me from to in
      job_step job room laws t o id k v w (set t.words (node_at P n) (progress_code x)) event (put s.node n x) s.mark s.value s.tick s.call y
      happens me from to enrolled (outside t o me inside) (outside t o me inside) same_w made (get_or-set_other t.words (node_at P n) (stop_at P) (progress_code x) 0 (λ e. omega arith)) task_is (m.1.call ∙ sym call_is) (λ z ne. refl) done
      (set_node P N t.words s.node s.mark s.value s.status s.hold s.tick (length s.book) o.words n x below)

  side_in : (p n : ℕ) → IsSide job.plan p n → (n < N) × (n ≢ 0)
  side_in p n side = let deep = laws.plan.deeper p n side in (laws.plan.within n (laws.plan.inside p n side), (λ e. omega (arith, deep, e)))

  far : (node : ℕ → Progress) (n : ℕ) (x : Progress) → n ≢ 0 → is_done (node 0) ≡ true → is_done (put node n x 0) ≡ true
  far node n x ne done = rw (put_other node n 0 x (λ e. ne (sym e))) done

  -- a side of a block opens
  pub opens : (n : ℕ) (y : Task) (event : Event) → TaskHere job.plan v.own.task → next_act job v.own.task v.own.call ≡ Some (acts.Open n y event) → v.own.call ≢ Out
      → StepRefines job room slots id (v, xs) (node_at P n) (λ y. 1) (λ y. opened (step slots (node_at P n) 1 0 none) (v, xs) 1) (MakesEvent job k event)
  opens n y event here due inside t o wide me fits =
      let m = mine_of job room t o id k v me from to in
      let stands = next_stands job laws v.own.call v.own.task (acts.Open n y event) here due in
      let side = side_in stands.parent n stands.side in
      let w : View = with_step (opening n event y) v in (
        w,
        keeps,
        tt,
        stores event n Ready y w side.0 refl refl (same w refl refl refl refl refl refl refl refl refl refl refl) record { events = refl; stops = refl; found = refl; misses = refl; stopped = refl } inside t o me
            (stands.happens o.state k m.0 (is_free job o.state k o.parts (outside t o me inside)) m.1.task) (far o.state.node n Ready side.1),
        (λ a b e next. let both = is_due (acts.Open a b e) (acts.Open n y event) due next in let at : n ≡ a = cc in let left : y ≡ b = cc in let by : event ≡ e = cc in
            λ i. (with_step (opening (at i) (by i) (left i)) v, xs)),
      )

  -- a value is kept
  pub keeps_value : (i x : ℕ) (may : MayKeep job v.own.told v.own.task v.own.call x) → i ≡ value_at P N may.0 → may.0 < N → v.own.call ≢ Out
      → StepRefines job room slots id (v, xs) i (λ y. x) (λ y. kept (step slots i x 0 none) (v, xs) x) (MakesEvent job k (Keep may.0 may.1 x))
  keeps_value i x may at below inside t o wide me fits =
      let n = may.0 in
      let start = may.1 in
      let task = may.2 in
      let s = o.state in
      let m = mine_of job room t o id k v me from to in
      let w : View = with_step (keeping n start x) v in
      let inside' : put s.call k NotCalled k ≢ Out = rw (put_at s.call k k NotCalled refl) (λ e. cc) in (
        w,
        keeps,
        tt,
        job_step job room laws t o id k v w (set t.words i x) (Keep n start x) s.node s.mark (put s.value n (Some x)) s.tick (put s.call k NotCalled) (Kept n start)
            record { worker_in = m.0; needs = (is_free job s k o.parts (outside t o me inside), m.1.task ∙ task, ap (value_in (job.act (leaf_of (job.plan.kind n))) (value_under job s.book (leaf_of (job.plan.kind n)))) m.1.call ∙ told_keep job s v.own.told v.own.task v.own.call x laws.sources m.1.told may); does = refl }
            me from to enrolled (outside t o me inside) inside' (same w refl refl refl refl refl refl refl refl refl refl refl) record { events = refl; stops = refl; found = refl; misses = refl; stopped = refl }
            (get_or-set_other t.words i (stop_at P) x 0 (λ e. omega arith)) refl (put_at s.call k k NotCalled refl) (λ z ne. put_other s.call k z NotCalled ne) (λ done. done)
            (subst (λ (j : ℕ). WordsShow P N (set t.words j x) s.node s.mark (put s.value n (Some x)) s.status s.hold s.tick (length s.book)) (sym at)
            (set_value P N t.words s.node s.mark s.value s.status s.hold s.tick (length s.book) o.words n x below)),
        (n, start, task, refl),
      )

  -- a leaf or a block is done
  pub finishes : (n : ℕ) (event : Event) → TaskHere job.plan v.own.task → next_act job v.own.task v.own.call ≡ Some (acts.Finish n event) → v.own.call ≢ Out
      → StepRefines job room slots id (v, xs) (node_at P n) (λ y. progress_code (progress_after k v.own.task))
      (λ y. finished (step slots (node_at P n) (progress_code (progress_after k v.own.task)) 0 none) (v, xs) (progress_code (progress_after k v.own.task))) (MakesEvent job k event)
  finishes n event here due inside t o wide me fits =
      let m = mine_of job room t o id k v me from to in
      let stands = next_stands job laws v.own.call v.own.task (acts.Finish n event) here due in
      let x = progress_after k v.own.task in
      let w : View = with_step (with_task event (task_after n)) v in (
        w,
        keeps,
        tt,
        stores event n x (task_after n) w stands.below refl refl (same w refl refl refl refl refl refl refl refl refl refl refl) record { events = refl; stops = refl; found = refl; misses = refl; stopped = refl } inside t o me
            (stands.happens o.state k m.0 (is_free job o.state k o.parts (outside t o me inside)) m.1.task) (root_done o.state.node n x (stands.done k)),
        (λ a e next. let both = is_due (acts.Finish a e) (acts.Finish n event) due next in let at : n ≡ a = cc in let by : event ≡ e = cc in
            λ i. (with_step (with_task (by i) (task_after (at i))) v, xs)),
      )

  abbrev arrived_word : ℕ → ℕ
  arrived_word y = (y + 1) % 2 ^ 64

  -- a side arrives at a parallel block
  pub arrives : (i p l r n : ℕ) → i ≡ mark_at P N p → TaskHere job.plan v.own.task → next_act job v.own.task v.own.call ≡ Some (acts.Arrive p l r n) → v.own.call ≢ Out
      → StepRefines job room slots id (v, xs) i (λ y. (y + 1) % 2 ^ 64) (arrived (step slots i 1 0 none) (v, xs)) (ArrivalMakes (MakesEvent job k (ArriveFirst p l r n)) (MakesEvent job k (ArriveSecond p l r n)))
  arrives i p l r n is here due inside t o wide me fits =
      let (task, kind, side) = next_stands job laws v.own.call v.own.task (acts.Arrive p l r n) here due in
      let below = block_in job.plan p (ParNode l r) laws.plan kind in
      let s = o.state in
      let word = get_or t.words i 0 in
      let m = mine_of job room t o id k v me from to in
      let free = is_free job s k o.parts (outside t o me inside) in
      let few = laws.mark s k p l r n o.parts (m.1.task ∙ task) kind side in
      let at : word ≡ s.mark p = ap (λ (j : ℕ). get_or t.words j 0) is ∙ o.words.marks p below in
      let far_stop : get_or (set t.words i (arrived_word word)) (stop_at P) 0 ≡ get_or t.words (stop_at P) 0 = get_or-set_other t.words i (stop_at P) (arrived_word word) 0 (λ e. omega arith) in
      let first : View = with_step (with_task (ArriveFirst p l r n) Idle) v in
      let second : View = with_step (with_task (ArriveSecond p l r n) (Handed p)) v in
      elim (cases_eq word 0) [
        | inl zero ↦ (
          first,
          keeps,
          tt,
          found_none word (MakesEvent job k (ArriveFirst p l r n)) (MakesEvent job k (ArriveSecond p l r n)) zero (job_step job room laws t o id k v first (set t.words i (arrived_word word)) (ArriveFirst p l r n) s.node (put s.mark p 1) s.value s.tick s.call Idle
              record { worker_in = m.0; needs = (free, m.1.task ∙ task, kind, side, sym at ∙ zero); does = refl }
              me from to enrolled (outside t o me inside) (outside t o me inside) (same first refl refl refl refl refl refl refl refl refl refl refl) record { events = refl; stops = refl; found = refl; misses = refl; stopped = refl } far_stop refl m.1.call (λ z ne. refl) (λ done. done)
              (subst (λ (j : ℕ). WordsShow P N (set t.words j (arrived_word word)) s.node (put s.mark p 1) s.value s.status s.hold s.tick (length s.book)) (sym is) (subst (λ (z : ℕ). WordsShow P N (set t.words (mark_at P N p) z) s.node (put s.mark p 1) s.value s.status s.hold s.tick (length s.book)) (let one : arrived_word word ≡ 1 = omega (arith, zero) in sym one)
              (set_mark P N t.words s.node s.mark s.value s.status s.hold s.tick (length s.book) o.words p 1 below)))),
          (λ a b c d next. let both = is_due (acts.Arrive a b c d) (acts.Arrive p l r n) due next in
              let e1 : p ≡ a = cc in let e2 : l ≡ b = cc in let e3 : r ≡ c = cc in let e4 : n ≡ d = cc in
              ((λ _ i. (with_step (with_task (ArriveFirst (e1 i) (e2 i) (e3 i) (e4 i)) Idle) v, xs)), (λ ne. absurd (ne zero)))),
        )
        | inr ne ↦ (
          second,
          keeps,
          tt,
          found_one word (MakesEvent job k (ArriveFirst p l r n)) (MakesEvent job k (ArriveSecond p l r n)) ne (job_step job room laws t o id k v second (set t.words i (arrived_word word)) (ArriveSecond p l r n) s.node (put s.mark p 2) s.value s.tick s.call (Handed p)
              record { worker_in = m.0; needs = (free, m.1.task ∙ task, kind, side, omega (arith, at, few, ne)); does = refl }
              me from to enrolled (outside t o me inside) (outside t o me inside) (same second refl refl refl refl refl refl refl refl refl refl refl) record { events = refl; stops = refl; found = refl; misses = refl; stopped = refl } far_stop refl m.1.call (λ z ne'. refl) (λ done. done)
              (subst (λ (j : ℕ). WordsShow P N (set t.words j (arrived_word word)) s.node (put s.mark p 2) s.value s.status s.hold s.tick (length s.book)) (sym is) (subst (λ (z : ℕ). WordsShow P N (set t.words (mark_at P N p) z) s.node (put s.mark p 2) s.value s.status s.hold s.tick (length s.book)) (let two : arrived_word word ≡ 2 = omega (arith, at, few, ne) in sym two)
              (set_mark P N t.words s.node s.mark s.value s.status s.hold s.tick (length s.book) o.words p 2 below)))),
          (λ a b c d next. let both = is_due (acts.Arrive a b c d) (acts.Arrive p l r n) due next in
              let e1 : p ≡ a = cc in let e2 : l ≡ b = cc in let e3 : r ≡ c = cc in let e4 : n ≡ d = cc in
              ((λ zero. absurd (ne zero)), (λ _ i. (with_step (with_task (ArriveSecond (e1 i) (e2 i) (e3 i) (e4 i)) (Handed (e1 i))) v, xs)))),
        )
      ]
