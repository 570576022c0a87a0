-- The looks at the root, the value of a source, the batch count and the stop word, the set of the stop word, and claims
-- past the last node.
use Rattle.std.proofs.Common.{ℕ, ◌≡◌, ◌<◌, ◌≤◌, ◌+◌, ◌%◌, ◌⊎◌, min, true, Option as Maybe, None, Some, List, [], ◌∷◌, length, get_or, set, eqb, arith, refl, sym, ap, ◌∙◌, subst, inl, inr, ⊎_elim, get_or-set_same}
use Rattle.std.proofs.lemmas.Bool.{cases_eq}
use mathlib.Core.Option.{none}
use lib.ListN.{get_elem?}
use prog.Atomic.{either}
use Rattle.atomic_table.specs.Table.{step, Act, keeps, Valid, carried_after, stepped}
use Rattle.atomic_table.proofs.Lists.{exchanged}
use Rattle.core_model.specs.declared.progress.Progress.{Progress}
use Rattle.core_model.specs.declared.progress.Progress.TheVariants.{Done, Ran}
use Rattle.core_model.specs.declared.status.Status.{Status}
use Rattle.core_model.specs.declared.status.Status.TheVariants.{Free}
use Rattle.sp_order.specs.declared.node.Kind.TheVariants.{LeafNode}
use Rattle.core_model.specs.declared.task.Task.TheVariants.{Started}
use Rattle.core_model.specs.State.{CoreJob, State}
use Rattle.core_model.specs.Invariant.{Parts}
use Rattle.core_model.specs.Tasks.{is_done}
use Rattle.core_model.specs.Waits.{WaitsSince}
use Rattle.table_rule.specs.declared.view.View.{View}
use Rattle.table_rule.specs.declared.slot.Slot.{Slot}
use Rattle.table_rule.specs.Words.{node_at, value_at, count_at, stop_at, progress_code, status_code, HasValue}
use Rattle.table_rule.specs.Laws.{Laws}
use Rattle.table_rule.specs.Steps.{ShowsOne, StepRefines, Stutters}
use Rattle.table_rule.specs.Shows.{TableState, Shows, SinceKnown}
use Rattle.table_rule.specs.Plays.{looked_at_root, looked_at_value, heard, strayed, stopped_all, looked_at_stop}
use Rattle.table_rule.specs.Passes.{finding_stop, finding_none, refusing, least_told, telling}
use Rattle.table_rule.specs.Views.{with_step, with_miss, with_since, with_stop, seeing_done, seeing_undone}
use Rattle.table_rule.specs.Tasks.{job_seen_with}
use Rattle.table_rule.proofs.TableLemmas.Misses.{miss_of, noted_at, noted_at_stop, miss_seen, moment_seen, all_before}
use Rattle.table_rule.proofs.TableLemmas.Facts.{is_trapped}
use Rattle.table_rule.proofs.TableLemmas.Moved.{mine_of, at_below, looked, renewed}
use Rattle.table_rule.proofs.TableLemmas.Traces.{misses_kept, stop_set}
use Rattle.table_rule.proofs.TableLemmas.Through.{again}
use Rattle.table_rule.proofs.TableLemmas.Words.{set_stop}

done_word : (p : Progress) → progress_code p % 4 ≡ 3 → is_done p ≡ true
done_word Done e = refl
done_word (Ran w s d) e = refl
done_word _ e = absurd (omega (arith, e))

few_status : (st : Status) → status_code st ≤ 3
few_status Free = omega arith
few_status _ = omega arith

-- the least number told is the first, if later ones are no smaller
told_least : (after : Maybe ℕ) (n : ℕ) (b : ℕ) → ((c : ℕ) → after ≡ Some c → c ≤ n) → least_told after n ≡ Some b → (after ≡ Some b) ⊎ ((after ≡ None) × (b ≡ n))
told_least None n b low e = inr (refl, (cc))
told_least (Some c) n b low e = let h = low c refl in let same : min c n ≡ c = omega arith in inl (rw same at e)

-- a node that has run is one of the plan
ran_below : (job : CoreJob) (laws : Laws job) (s : State) (n worker start end : ℕ) → Parts job s → s.node n ≡ Ran worker start end → n < job.plan.count
ran_below job laws s n worker start end parts ran = laws.plan.within n (λ none_there. let waits = parts.nodes.outside n none_there in absurd (cc))

module _ (job : CoreJob) (room : ℕ) (laws : Laws job) (slots id : ℕ) (v : View) (xs : List (ℕ × Slot)) (k : ℕ) (from : v.own.worker ≡ k) (to : v.to ≡ k + 1) where
  abbrev P : ℕ
  P = job.workers

  pub looks_at_root : (i : ℕ) → v.workers ≡ P → i ≡ node_at P 0 → 0 < job.plan.count → job_seen_with job.work v ≡ job → v.room ≡ room → StepRefines job room slots id (v, xs) i (λ y. y) (looked_at_root job.work (step slots i 0 0 none) (v, xs)) (Stutters)
  looks_at_root i sized is any known roomy t o wide me fits =
      let word = get_or t.words i 0 in
      let miss = miss_of job room t o v i in
      let at = ap (λ (j : ℕ). get_or t.words j 0) is ∙ o.words.progress 0 any in elim (cases_eq (word % 4) 3) [
        | inl e ↦ (
          seeing_done v,
          keeps,
          tt,
          looked job room t o id k i v (seeing_done v) me from to from to refl refl (λ h. inl h) [] refl refl tt
              (λ m. record {
                sits = m.sits;
                task = m.task;
                call = m.call;
                posted = m.posted;
                told = m.told;
                entries = m.entries;
                hold = m.hold;
                new = m.new;
                done = λ _. done_word (o.state.node 0) (ap (λ (y : ℕ). y % 4) (sym at) ∙ e);
                seen = m.seen;
                since = record { most = m.since.most; early = m.since.early; late = m.since.late; placed = m.since.placed; waits = m.since.waits };
              }),
          ((λ _. refl), (λ ne. absurd (ne e)), omega (arith, is, sized)),
        )
        | inr ne ↦ (
          seeing_undone miss v,
          keeps,
          tt,
          looked job room t o id k i v (seeing_undone miss v) me from to from to refl refl (λ h. inl h) (miss ∷ []) refl refl (noted_at job room t o id k v me from to i (λ e. omega (arith, is, e)))
              (λ m. again job o.state (get_elem? t.homes k) (o.seat k) id v _ k record { task = refl; call = refl; told = refl; posted = refl; left = refl; enrolled = refl; saw_done = refl; greatest = refl; before = refl; after = refl; book_seen = refl } refl m),
          ((λ e. absurd (ne e)), (λ _. (miss, miss_seen job room t o id k v me from to known roomy i, refl, refl)), omega (arith, is, sized)),
        )
      ]

  hears_since : (t : TableState) (o : Shows job room t) (n : ℕ) → n ≡ length o.state.book → SinceKnown job o.state v k → SinceKnown job o.state (with_since n v) k
  hears_since t o n is m = record {
    most = let a = m.most in omega arith;
    early = let a = m.early in omega arith;
    late = λ since told. elim (told_least v.own.after n since (λ c e. let a = m.late c e in let b = m.most in omega arith) told) [ inl e ↦ let a = m.late since e in omega arith | inr e ↦ let a = e.1 in omega arith ];
    placed = m.placed;
    waits = λ since told out. elim (told_least v.own.after n since (λ c e. let a = m.late c e in let b = m.most in omega arith) told) [
      | inl e ↦ m.waits since e out
      | inr e ↦ subst (λ (y : ℕ). WaitsSince job o.state k y) (sym (e.1 ∙ is)) (laws.now o.state k o.parts (is_trapped job o.state k o.parts out))
    ];
  }

  pub hears : v.workers ≡ P → StepRefines job room slots id (v, xs) (count_at P) (λ y. y) (heard (step slots (count_at P) 0 0 none) (v, xs)) (Stutters)
  hears sized t o wide me fits =
      let word = get_or t.words (count_at P) 0 in (
        with_since word v,
        keeps,
        tt,
        looked job room t o id k (count_at P) v (with_since word v) me from to from to refl refl (λ h. inl h) [] refl refl tt
            (λ m. record { sits = m.sits; task = m.task; call = m.call; posted = m.posted; told = m.told; entries = m.entries; hold = m.hold; new = m.new; done = m.done; seen = m.seen; since = hears_since t o word o.words.batches m.since }),
        (refl, ap count_at (sym sized)),
      )

  -- a claim past the last node: a status is at most 3, so the exchange, which wants at least 4, is refused
  pub strays : (n : ℕ) → v.nodes ≤ n → 0 < P → job_seen_with job.work v ≡ job → v.room ≡ room → StepRefines job room slots id (v, xs) 0 (λ y. either (eqb y (4 + n)) 0 y) (strayed job.work (step slots 0 (4 + n) 0 none) (v, xs)) (Stutters)
  strays n far any known roomy t o wide me fits =
      let word = get_or t.words 0 0 in
      let miss = miss_of job room t o v 0 in
      let few = few_status (o.state.status 0) in
      let at = o.words.statuses 0 any in
      exchanged word (4 + n) 0 (λ y. (w : View) × (a : Act Slot) × Valid t.homes xs a × ShowsOne job room (Stutters o.state word) (stepped t 0 y id xs w a) × strayed job.work (step slots 0 (4 + n) 0 none) (v, xs) word (w, carried_after xs a))
      (λ e. absurd (omega (arith, few, at, e)))
      (λ ne. (
        with_miss miss (refusing n) v,
        keeps,
        tt,
        looked job room t o id k 0 v (with_miss miss (refusing n) v) me from to from to refl refl (λ h. inl h) (miss ∷ []) refl refl (noted_at job room t o id k v me from to 0 (λ e. omega arith))
            (λ m. again job o.state (get_elem? t.homes k) (o.seat k) id v _ k record { task = refl; call = refl; told = refl; posted = refl; left = refl; enrolled = refl; saw_done = refl; greatest = refl; before = refl; after = refl; book_seen = refl } refl m),
        (n, refl, (miss, miss_seen job room t o id k v me from to known roomy 0, refl, refl), far),
      ))

  -- the value of the source of the leaf that has started is looked at
  pub looks_at_value : (i n start leaf source : ℕ) → v.workers ≡ P → v.nodes ≡ job.plan.count → v.own.task ≡ Started n start → job.plan.kind n ≡ Some (LeafNode leaf) → job.source leaf ≡ Some source → i ≡ value_at P job.plan.count (job.plan.node_of source)
      → StepRefines job room slots id (v, xs) i (λ y. y) (looked_at_value (step slots i 0 0 none) (v, xs)) (Stutters)
  looks_at_value i n start leaf source sized long task kind has is t o wide me fits =
      let s = o.state in
      let word = get_or t.words i 0 in
      let m = mine_of job room t o id k v me from to in
      let valued = laws.source s k n leaf source o.parts (kind, start, m.1.task ∙ task) has in
      let below = ran_below job laws s (job.plan.node_of source) valued.worker valued.start valued.end o.parts valued.ran in
      let shown : HasValue (s.value (job.plan.node_of source)) (get_or t.words (value_at P job.plan.count (job.plan.node_of source)) 0) = o.words.values (job.plan.node_of source) below in
      let value : word ≡ valued.value = ap (λ (j : ℕ). get_or t.words j 0) is ∙ rw valued.kept at shown in (
        with_step (telling word) v,
        keeps,
        tt,
        looked job room t o id k i v (with_step (telling word) v) me from to from to refl refl (λ h. inl h) [] refl refl tt
            (λ own. record {
              sits = own.sits;
              task = own.task;
              call = own.call;
              posted = own.posted;
              told = λ x told. let x_is : word ≡ x = cc in (n, start, leaf, source, task, kind, has, valued, sym x_is ∙ value);
              entries = own.entries;
              hold = own.hold;
              new = own.new;
              done = own.done;
              seen = own.seen;
              since = record { most = own.since.most; early = own.since.early; late = own.since.late; placed = own.since.placed; waits = own.since.waits };
            }),
        (job.plan.node_of source, is ∙ (λ j. value_at (sym sized j) (sym long j) (job.plan.node_of source)), refl),
      )

  -- the stop word is set
  pub stops : v.workers ≡ P → job_seen_with job.work v ≡ job → v.room ≡ room → StepRefines job room slots id (v, xs) (stop_at P) (λ y. 1) (λ y. stopped_all job.work (step slots (stop_at P) 1 0 none) (v, xs) 1) (Stutters)
  stops sized known roomy t o wide me fits =
      let s = o.state in
      let moment = length o.trace in
      let w : View = with_stop moment v in
      let word = get_or t.words (stop_at P) 0 in (
        w,
        keeps,
        tt,
        renewed job room t o id k v w (set t.words (stop_at P) 1) me from to from to refl
            (misses_kept job t.views id k v w o.trace o.trace [] word me from to from to refl tt (λ x m h. h) o.misses)
            (stop_set (stop_at P) t.views id v w word (get_or (set t.words (stop_at P) 1) (stop_at P) 0) moment me (at_below t.views id v me) (omega arith) (omega arith)
            (get_or-set_same t.words (stop_at P) 1 0 (omega (arith, o.words.wide))) (omega arith) refl refl (λ i x e some_worker. all_before job room t o i x.own.worker x e (omega arith) (omega arith)) o.stop)
            (set_stop P job.plan.count t.words s.node s.mark s.value s.status s.hold s.tick (length s.book) o.words 1)
            (λ m. again job o.state (get_elem? t.homes k) (o.seat k) id v _ k record { task = refl; call = refl; told = refl; posted = refl; left = refl; enrolled = refl; saw_done = refl; greatest = refl; before = refl; after = refl; book_seen = refl } refl m),
        ((moment, moment_seen job room t o id k v me from to known roomy, refl), ap stop_at (sym sized), refl),
      )

  -- and looked at
  pub looks_at_stop : v.workers ≡ P → job_seen_with job.work v ≡ job → v.room ≡ room → StepRefines job room slots id (v, xs) (stop_at P) (λ y. y) (looked_at_stop job.work (step slots (stop_at P) 0 0 none) (v, xs)) (Stutters)
  looks_at_stop sized known roomy t o wide me fits =
      let word = get_or t.words (stop_at P) 0 in
      let miss = miss_of job room t o v (stop_at P) in elim (cases_eq word 1) [
        | inl e ↦ (
          with_step finding_stop v,
          keeps,
          tt,
          looked job room t o id k (stop_at P) v (with_step finding_stop v) me from to from to refl refl (λ _. inr e) [] refl refl tt
              (λ m. again job o.state (get_elem? t.homes k) (o.seat k) id v _ k record { task = refl; call = refl; told = refl; posted = refl; left = refl; enrolled = refl; saw_done = refl; greatest = refl; before = refl; after = refl; book_seen = refl } refl m),
          ((λ _. refl), (λ ne. absurd (ne e)), ap stop_at (sym sized)),
        )
        | inr ne ↦
            let zero : word ≡ 0 = ⊎_elim (λ z. z) (λ one. absurd (ne one)) o.stop.known in (
              with_miss miss finding_none v,
              keeps,
              tt,
              looked job room t o id k (stop_at P) v (with_miss miss finding_none v) me from to from to refl refl (λ h. inl h) (miss ∷ []) refl refl (noted_at_stop job room t o id k v me from to zero)
                  (λ m. again job o.state (get_elem? t.homes k) (o.seat k) id v _ k record { task = refl; call = refl; told = refl; posted = refl; left = refl; enrolled = refl; saw_done = refl; greatest = refl; before = refl; after = refl; book_seen = refl } refl m),
              ((λ e. absurd (ne e)), (λ _. (zero, (miss, miss_seen job room t o id k v me from to known roomy (stop_at P), refl, refl))), ap stop_at (sym sized)),
            )
      ]
