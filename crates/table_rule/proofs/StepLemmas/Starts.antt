-- The opening table, splitting the first seat into passes, and enrolling a pass.
use Rattle.std.proofs.Common.{ℕ, zero, suc, ◌≡◌, ◌≢◌, ◌<◌, ◌≤◌, ◌+◌, ◌⊎◌, false, Option as Maybe, None, List, [], ◌∷◌, ◌++◌, map, length, replicate, get_or, set, arith, refl, sym, ap, ◌∙◌, subst, inl, inr, ⊎_elim, length-set, length-append, get_or-set_other}
use Rattle.std.proofs.lemmas.List.{length-map, length-replicate}
use Rattle.std.proofs.lemmas.Bool.{cases_eq}
use mathlib.Core.Option.{none, some, some-injective, some-ne-none}
use lib.ListN.{get_elem?}
use lib.Seq.{set-get_or}
use Rattle.atomic_table.specs.Table.{step, takes, Allows, Splits, opening}
use Rattle.atomic_table.proofs.Lists.{at_set, set_here, set_else, at_longer, at_last}
use Rattle.core_model.specs.declared.progress.Progress.TheVariants.{Waiting, Ready}
use Rattle.core_model.specs.declared.status.Status.{Status}
use Rattle.core_model.specs.declared.status.Status.TheVariants.{Free}
use Rattle.core_model.specs.State.{put, CoreJob, Hold, State, opening_state}
use Rattle.table_rule.specs.declared.view.View.{View}
use Rattle.table_rule.specs.declared.slot.Slot.{Slot}
use Rattle.table_rule.specs.declared.slot.Slot.TheVariants as Slots
use Rattle.table_rule.specs.Words.{flag_at, count_at, tick_at, node_at, mark_at, word_count, WordsShow}
use Rattle.table_rule.specs.Laws.{Laws}
use Rattle.batch_history.specs.declared.batch.Entry.{Entry}
use Rattle.batch_history.specs.Reserved.{ReservedView}
use Rattle.sp_order.specs.Jobs.{JobValue}
use Rattle.core_model.specs.State.{opening_core}
use Rattle.core_model.specs.Runs.{Step}
use Rattle.table_rule.specs.Words.{stop_at}
use Rattle.std.specs.List.{AllByRecursion}
use Rattle.table_rule.proofs.TableLemmas.Traces.{agree_still, misses_kept, stop_still, SameNotes, stop_cut}
use Rattle.table_rule.specs.Shows.{reserved, SlotHome, RecordAt, AgreesWithView, HasSeat, EventsAgree, IsTrueIn, AreInOrder, MissesAgree, IsBeforeSet, StopShows, Shows}
use Rattle.table_rule.specs.Views.{newcomer}
use Rattle.table_rule.specs.Plays.{enrolled}
use Rattle.table_rule.specs.Steps.{ShowsOne, StepRefines, SplitStutters, Stutters}
use Rattle.table_rule.specs.Views.{enrolling, pass_of, rest_of}
use Rattle.table_rule.proofs.TableLemmas.Words.{set_node}
use Rattle.table_rule.proofs.TableLemmas.Facts.{is_free}
use Rattle.table_rule.proofs.TableLemmas.Moved.{mine_of, at_below, seat_stays}
use Rattle.table_rule.proofs.TableLemmas.Through.{SameTold, told_again, reseat}
use Rattle.core_model.proofs.InvariantLemmas.Puts.{put_at, put_other}

at_snoc_at : {A : Type 0} (l : List A) (a b : A) (j : ℕ) → get_elem? (l ++ a ∷ []) j ≡ some b → (get_elem? l j ≡ some b) ⊎ ((a ≡ b) × (j ≡ length l))
at_snoc_at [] a b zero e = inr (some-injective a b e, refl)
at_snoc_at [] a b (suc j) e = absurd (some-ne-none b (sym e))
at_snoc_at (x ∷ xs) a b zero e = inl e
at_snoc_at (x ∷ xs) a b (suc j) e = ⊎_elim (λ t. inl t) (λ t. inr (t.0, (let h = t.1 in omega arith))) (at_snoc_at xs a b j e)

told_cut : (v : View) (a b : ℕ) → SameTold v (record v { own = record v.own { worker = a }; to = b })
told_cut v a b = record { task = refl; call = refl; told = refl; posted = refl; left = refl; enrolled = refl; saw_done = refl; greatest = refl; before = refl; after = refl; book_seen = refl }

-- after a split every worker is in the range of a seat: the pass's worker in the new one's, the others in the old
seat_cut : (views : List View) (id x : ℕ) (seat : ℕ → ℕ) (v : View) → get_elem? views id ≡ some v → HasSeat views (seat x) x
    → HasSeat (set views id (rest_of v) ++ pass_of v ∷ []) (put seat v.own.worker (length views) x) x
seat_cut views id x seat v me h =
    let cut = set views id (rest_of v) in
    let rest = pass_of v ∷ [] in elim (cases_eq x v.own.worker) [
      | inl e ↦ (
        pass_of v,
        ap (λ (j : ℕ). get_elem? (cut ++ rest) j) (put_at seat v.own.worker x (length views) e) ∙ at_last cut (pass_of v) (length views) (length-set views id (rest_of v)),
        omega arith,
        omega arith,
      )
      | inr ne ↦ elim (cases_eq (seat x) id) [
        | inl e ↦
            let same : h.0 ≡ v = some-injective _ _ (sym h.1 ∙ (ap (λ (j : ℕ). get_elem? views j) e ∙ me)) in
            let low : v.own.worker ≤ x = subst (λ (y : View). y.own.worker ≤ x) same h.2 in
            let high : x < v.to = subst (λ (y : View). x < y.to) same h.3 in (
              rest_of v,
              ap (λ (j : ℕ). get_elem? (cut ++ rest) j) (put_other seat v.own.worker x (length views) ne ∙ e) ∙ at_longer cut rest id (rest_of v) (set_here views id (rest_of v) (at_below views id v me)),
              omega arith,
              high,
            )
        | inr other ↦ (
          h.0,
          ap (λ (j : ℕ). get_elem? (cut ++ rest) j) (put_other seat v.own.worker x (length views) ne) ∙ at_longer cut rest (seat x) h.0 (set_else views id (seat x) (rest_of v) other ∙ h.1),
          h.2,
          h.3,
        )
      ]
    ]

-- the events are those of each half
agree_cut : (views : List View) (id : ℕ) (v : View) (steps : List Step) → get_elem? views id ≡ some v → v.own.worker < v.to → EventsAgree views steps → EventsAgree (set views id (rest_of v) ++ pass_of v ∷ []) steps
agree_cut views id v steps me some_left old i u x e lo hi = ⊎_elim
    (λ q. ⊎_elim
    (λ r.
    let lo' : v.own.worker + 1 ≤ x = subst (λ (y : View). y.own.worker ≤ x) (sym r.1) lo in
    let hi' : x < v.to = subst (λ (y : View). x < y.to) (sym r.1) hi in
    old id v x me (omega arith) hi' ∙ ap (λ (y : View). y.own.events) r.1)
    (λ r. old i u x r.1 lo hi)
    (at_set views id i (rest_of v) u q))
    (λ q.
    let lo' : v.own.worker ≤ x = subst (λ (y : View). y.own.worker ≤ x) (sym q.0) lo in
    let hi' : x < v.own.worker + 1 = subst (λ (y : View). x < y.to) (sym q.0) hi in
    old id v x me lo' (omega arith) ∙ ap (λ (y : View). y.own.events) q.0)
    (at_snoc_at (set views id (rest_of v)) (pass_of v) u i e)

-- and so are the misses
misses_cut : (job : CoreJob) (views : List View) (id : ℕ) (v : View) (steps : List Step) → get_elem? views id ≡ some v → v.own.worker < v.to → MissesAgree job views steps → MissesAgree job (set views id (rest_of v) ++ pass_of v ∷ []) steps
misses_cut job views id v steps me some_left old i u x e lo hi = ⊎_elim
    (λ q. ⊎_elim
    (λ r.
    let lo' : v.own.worker + 1 ≤ x = subst (λ (y : View). y.own.worker ≤ x) (sym r.1) lo in
    let hi' : x < v.to = subst (λ (y : View). x < y.to) (sym r.1) hi in
    subst (λ (y : View). AllByRecursion (IsTrueIn job x steps) y.misses × AreInOrder y.misses) r.1 (old id v x me (omega arith) hi'))
    (λ r. old i u x r.1 lo hi)
    (at_set views id i (rest_of v) u q))
    (λ q.
    let lo' : v.own.worker ≤ x = subst (λ (y : View). y.own.worker ≤ x) (sym q.0) lo in
    let hi' : x < v.own.worker + 1 = subst (λ (y : View). x < y.to) (sym q.0) hi in
    subst (λ (y : View). AllByRecursion (IsTrueIn job x steps) y.misses × AreInOrder y.misses) q.0 (old id v x me lo' (omega arith)))
    (at_snoc_at (set views id (rest_of v)) (pass_of v) u i e)

-- and the notes of the stop word
rest_notes : (v : View) → SameNotes (rest_of v) v
rest_notes v = record { stops = refl; found = refl; misses = refl; stopped = refl; some_worker = λ low. omega (arith, low) }

pass_notes : (v : View) → v.own.worker < v.to → SameNotes (pass_of v) v
pass_notes v some_left = record { stops = refl; found = refl; misses = refl; stopped = refl; some_worker = λ _. some_left }

same_notes : (v : View) → SameNotes v v
same_notes v = record { stops = refl; found = refl; misses = refl; stopped = refl; some_worker = λ low. low }

stop_both : (stop : ℕ) (views : List View) (id : ℕ) (v : View) (word : ℕ) → get_elem? views id ≡ some v → v.own.worker < v.to → StopShows stop word views → StopShows stop word (set views id (rest_of v) ++ pass_of v ∷ [])
stop_both stop views id v word me some_left =
    let cut = set views id (rest_of v) in
    stop_cut stop views id v (rest_of v) (pass_of v) word
    (λ i u e. ⊎_elim
    (λ q. ⊎_elim
    (λ r. (id, v, me, subst (λ (y : View). SameNotes y v) r.1 (rest_notes v)))
    (λ r. (i, u, r.1, same_notes u))
    (at_set views id i (rest_of v) u q))
    (λ q. (id, v, me, subst (λ (y : View). SameNotes y v) q.0 (pass_notes v some_left)))
    (at_snoc_at cut (pass_of v) u i e))
    (λ i u e some_u. elim (cases_eq i id) [
      | inl is ↦
          let same : u ≡ v = some-injective _ _ (sym e ∙ (ap (λ (j : ℕ). get_elem? views j) is ∙ me)) in
          (length cut, pass_of v, at_last cut (pass_of v) (length cut) refl, ap (λ (y : View). y.own.stops) (sym same), omega arith)
      | inr ne ↦ (i, u, at_longer cut (pass_of v ∷ []) i u (set_else views id i (rest_of v) ne ∙ e), refl, some_u)
    ])

-- a pass is split off
pub splits : (job : CoreJob) (room id : ℕ) (v : View) → v.own.worker < v.to → SplitStutters job room id v
splits job room id v some_left t o me =
    let z = length t.views in
    let seat : ℕ → ℕ = put o.seat v.own.worker z in
    let here = o.views id v v.own.worker me (omega arith) some_left in (
      record {
        state = o.state;
        seat = seat;
        parts = o.parts;
        words = o.words;
        slots = o.slots;
        views = λ i u x e lo hi. ⊎_elim
            (λ q. ⊎_elim
            (λ r.
            let lo' : v.own.worker + 1 ≤ x = subst (λ (y : View). y.own.worker ≤ x) (sym r.1) lo in
            let hi' : x < v.to = subst (λ (y : View). x < y.to) (sym r.1) hi in
            let was = o.views id v x me (omega arith) hi' in (
              was.0,
              subst (λ (y : View). AgreesWithView job o.state (get_elem? t.homes x) (seat x) i y x) r.1
                  (reseat job o.state (get_elem? t.homes x) (o.seat x) (seat x) id i v (rest_of v) x (put_other o.seat v.own.worker x z (λ h. omega arith) ∙ (was.1.sits ∙ sym r.0)) (told_cut v (v.own.worker + 1) v.to) refl was.1),
            ))
            (λ r.
            let was = o.views i u x r.1 lo hi in
            (was.0, reseat job o.state (get_elem? t.homes x) (o.seat x) (seat x) i i u u x (put_other o.seat v.own.worker x z (λ h. r.0 (sym was.1.sits ∙ (ap o.seat h ∙ here.1.sits))) ∙ was.1.sits) (told_again u) refl was.1))
            (at_set t.views id i (rest_of v) u q))
            (λ q.
            let lo' : v.own.worker ≤ x = subst (λ (y : View). y.own.worker ≤ x) (sym q.0) lo in
            let hi' : x < v.own.worker + 1 = subst (λ (y : View). x < y.to) (sym q.0) hi in
            let is : x ≡ v.own.worker = omega arith in (
              subst (λ (y : ℕ). y < job.workers) (sym is) here.0,
              subst (λ (y : View). AgreesWithView job o.state (get_elem? t.homes x) (seat x) i y x) q.0
                  (subst (λ (y : ℕ). AgreesWithView job o.state (get_elem? t.homes y) (seat y) i (pass_of v) y) (sym is)
                  (reseat job o.state (get_elem? t.homes v.own.worker) (o.seat v.own.worker) (seat v.own.worker) id i v (pass_of v) v.own.worker
                  (put_at o.seat v.own.worker v.own.worker z refl ∙ (sym (length-set t.views id (rest_of v)) ∙ sym q.1)) (told_cut v v.own.worker (v.own.worker + 1)) refl here.1)),
            ))
            (at_snoc_at (set t.views id (rest_of v)) (pass_of v) u i e);
        seats = λ x low. seat_cut t.views id x o.seat v me (o.seats x low);
        trace = o.trace;
        ready = o.ready;
        reached = o.reached;
        events = agree_cut t.views id v o.trace me some_left o.events;
        misses = misses_cut job t.views id v o.trace me some_left o.misses;
        stop = stop_both (stop_at job.workers) t.views id v (get_or t.words (stop_at job.workers) 0) me some_left o.stop;
      },
      refl,
    )

-- a pass takes its own record slot
pub enrols : (job : CoreJob) (room : ℕ) (slots id j : ℕ) (v : View) (xs : List (ℕ × Slot)) (k : ℕ) → v.own.worker ≡ k → v.to ≡ k + 1 → v.enrolled ≡ false
    → StepRefines job room slots id (v, xs) j (λ y. y) (enrolled (step slots j 0 0 none) (v, xs)) Stutters
enrols job room slots id j v xs k from to fresh t o wide me fits =
    let s = o.state in
    let m = mine_of job room t o id k v me from to in
    let new = m.1.new fresh in
    let free : s.status k ≡ Free = is_free job s k o.parts (rw (m.1.call, new.2) (λ e. cc)) in
    let w : View = enrolling v in
    let homes = set t.homes k none in (
      w,
      takes k Slots.Vacant,
      new.0,
      subst (λ (ws : List ℕ). ShowsOne job room (λ (after : State). after ≡ s) record { words = ws; homes = homes; views = set t.views id w }) (sym (set-get_or t.words j 0)) (
        record {
          state = s;
          seat = o.seat;
          parts = o.parts;
          words = o.words;
          slots = record {
            wide = length-set t.homes k none ∙ o.slots.wide;
            records = λ u low. elim (cases_eq u k) [
              | inl e ↦ subst (λ (y : ℕ). RecordAt job s.book (s.task y) (s.status y) (get_elem? homes y)) (sym e) (subst (λ (st : Status). RecordAt job s.book (s.task k) st (get_elem? homes k)) (sym free) tt)
              | inr ne ↦ rw (set_else t.homes k u none ne) (o.slots.records u low)
            ];
            shop = rw (set_else t.homes k job.workers none (λ e. let a = m.0 in omega arith)) o.slots.shop;
            batches = rw (set_else t.homes k (job.workers + 1) none (λ e. let a = m.0 in omega arith)) o.slots.batches;
          };
          views = λ i u x e lo hi. ⊎_elim
              (λ q.
              let lo' : w.own.worker ≤ x = subst (λ (y : View). y.own.worker ≤ x) (sym q.1) lo in
              let hi' : x < w.to = subst (λ (y : View). x < y.to) (sym q.1) hi in
              let is : x ≡ k = omega arith in (
                subst (λ (y : ℕ). y < job.workers) (sym is) m.0,
                subst (λ (y : ℕ). AgreesWithView job s (get_elem? homes y) (o.seat y) i u y) (sym is)
                    (subst (λ (j : ℕ). AgreesWithView job s (get_elem? homes k) (o.seat k) j u k) (sym q.0) (subst (λ (y : View). AgreesWithView job s (get_elem? homes k) (o.seat k) id y k) q.1
                    record {
                      sits = m.1.sits;
                      task = m.1.task;
                      call = m.1.call;
                      posted = m.1.posted;
                      told = m.1.told;
                      hold = m.1.hold;
                      entries = m.1.entries;
                      new = λ e. absurd (cc);
                      done = m.1.done;
                      seen = m.1.seen;
                      since = record { most = m.1.since.most; early = m.1.since.early; late = m.1.since.late; placed = m.1.since.placed; waits = m.1.since.waits };
                    })),
              ))
              (λ q.
              let was = o.views i u x q.1 lo hi in
              let ne : x ≢ k = λ is. q.0 (sym was.1.sits ∙ (ap o.seat is ∙ m.1.sits)) in
              (was.0, subst (λ (h : SlotHome). AgreesWithView job s h (o.seat x) i u x) (sym (set_else t.homes k x none ne)) was.1))
              (at_set t.views id i w u e);
          seats = λ x low. seat_stays t.views id k v w me from to from to (o.seat x) x (o.seats x low);
          trace = o.trace;
          ready = o.ready;
          reached = o.reached;
          events = agree_still t.views id k v w o.trace me from to from to refl o.events;
          misses = misses_kept job t.views id k v w o.trace o.trace [] (get_or t.words (stop_at job.workers) 0) me from to from to refl tt (λ x m h. h) o.misses;
          stop = let word = get_or t.words (stop_at job.workers) 0 in
              stop_still (stop_at job.workers) t.views id v w word word [] me (at_below t.views id v me) (omega arith) (omega arith) refl refl (λ h. inl h) refl refl tt o.stop;
        },
        refl,
      ),
      ap (λ (y : ℕ). (enrolling v, (y, Slots.Vacant) ∷ xs)) (sym from),
    )

zeros : (n k : ℕ) → let z : ℕ = 0 in get_or (replicate n z) k z ≡ z
zeros zero k = refl
zeros (suc n) zero = refl
zeros (suc n) (suc k) = zeros n k

fill : (n k : ℕ) (shop : List (List Entry)) (book : ReservedView) → k < n → get_elem? (map some (replicate n Slots.Vacant ++ Slots.Shop shop ∷ Slots.Book book ∷ [])) k ≡ some (some Slots.Vacant)
fill zero k shop book h = absurd (omega arith)
fill (suc n) zero shop book h = refl
fill (suc n) (suc k) shop book h = fill n k shop book (omega arith)

fill_shop : (n : ℕ) (shop : List (List Entry)) (book : ReservedView) → get_elem? (map some (replicate n Slots.Vacant ++ Slots.Shop shop ∷ Slots.Book book ∷ [])) n ≡ some (some (Slots.Shop shop))
fill_shop zero shop book = refl
fill_shop (suc n) shop book = fill_shop n shop book

fill_book : (n : ℕ) (shop : List (List Entry)) (book : ReservedView) → get_elem? (map some (replicate n Slots.Vacant ++ Slots.Shop shop ∷ Slots.Book book ∷ [])) (suc n) ≡ some (some (Slots.Book book))
fill_book zero shop book = refl
fill_book (suc n) shop book = fill_book n shop book

only : (u v : View) (i : ℕ) → get_elem? (v ∷ []) i ≡ some u → (0 ≡ i) × (v ≡ u)
only u v zero e = (refl, some-injective _ _ e)
only u v (suc i) e = absurd (some-ne-none u (sym e))

blank : (P N : ℕ) → let none_held : Maybe Hold = None in WordsShow P N (replicate (word_count P N) 0) (λ n. Waiting) (λ n. 0) (λ n. None) (λ w. Free) none_held 0 0
blank P N =
    let total = word_count P N in record {
      wide = length-replicate total 0;
      statuses = λ w low. zeros total w;
      flag = zeros total (flag_at P);
      batches = zeros total (count_at P);
      ticks = zeros total (tick_at P);
      progress = λ n low. zeros total (node_at P n);
      marks = λ n low. zeros total (mark_at P N n);
      values = λ n low. tt;
    }

pub starts : (job : CoreJob) (room : ℕ) (given : JobValue) (laws : Laws job) (words : List ℕ) → words ≡ set (replicate (word_count job.workers job.plan.count) 0) (node_at job.workers 0) 1
    → Shows job room (opening words (replicate job.workers Slots.Vacant ++ Slots.Shop [] ∷ Slots.Book (reserved [] room) ∷ []) (newcomer given job.workers job.plan.count room))
unfolding opening_state opening_core
starts job room given laws words are =
    let shop : List (List Entry) = [] in
    let book = reserved [] room in
    let P = job.workers in
    let N = job.plan.count in
    let slots = replicate P Slots.Vacant ++ Slots.Shop shop ∷ Slots.Book book ∷ [] in record {
      state = opening_state;
      seat = λ w. 0;
      parts = laws.opening;
      words = let none_held : Maybe Hold = None in subst (λ (ws : List ℕ). WordsShow P N ws (put (λ n. Waiting) 0 Ready) (λ n. 0) (λ n. None) (λ w. Free) none_held 0 0) (sym are)
          (set_node P N (replicate (word_count P N) 0) (λ n. Waiting) (λ n. 0) (λ n. None) (λ w. Free) none_held 0 0 (blank P N) 0 Ready laws.root);
      slots = record {
        wide = length-map slots some ∙ (length-append (replicate P Slots.Vacant) (Slots.Shop shop ∷ Slots.Book book ∷ []) ∙ ap (λ (m : ℕ). m + 2) (length-replicate P Slots.Vacant));
        records = λ w low. tt;
        shop = fill_shop P shop book;
        batches = ap (λ (m : ℕ). get_elem? (map some slots) m) (omega arith) ∙ fill_book P shop book;
      };
      views = λ i u w e lo hi. let t = only u (newcomer given P N room) i e in
          let hi' : w < P = subst (λ (y : View). w < y.to) (sym t.1) hi in (
            hi',
            subst (λ (y : View). AgreesWithView job opening_state (get_elem? (map some slots) w) 0 i y w) t.1 record {
              sits = t.0;
              task = refl;
              call = refl;
              posted = λ f. absurd (cc);
              told = λ value f. absurd (cc);
              hold = λ h f. absurd (cc);
              entries = refl;
              new = λ f. (fill P w shop book hi', refl, refl, refl);
              done = λ f. absurd (cc);
              seen = ([], refl);
              since = record { most = omega arith; early = omega arith; late = λ n f. absurd (cc); placed = λ p f. absurd (cc); waits = λ n f. absurd (cc) };
            },
          );
      seats = λ w low. (newcomer given P N room, refl, omega arith, low);
      trace = [];
      ready = opening_core.ready;
      reached = refl;
      events = λ i u w e lo hi. ap (λ (y : View). y.own.events) (only u (newcomer given P N room) i e).1;
      misses = λ i u w e lo hi. subst (λ (y : View). AllByRecursion (IsTrueIn job w []) y.misses × AreInOrder y.misses) (only u (newcomer given P N room) i e).1 (tt, tt);
      stop = let unset : get_or words (stop_at P) 0 ≡ 0 = ap (λ (ws : List ℕ). get_or ws (stop_at P) 0) are
          ∙ (get_or-set_other (replicate (word_count P N) 0) (node_at P 0) (stop_at P) 1 0 (λ e. omega arith) ∙ zeros (word_count P N) (stop_at P)) in record {
            known = inl unset;
            set = λ i u e some_stops. let same = ap (λ (y : View). y.own.stops) (only u (newcomer given P N room) i e).1 in absurd (omega (arith, same, some_stops));
            by = λ one. absurd (omega (arith, one, unset));
            found = λ i u e some_found. let same = ap (λ (y : View). y.own.stops_found) (only u (newcomer given P N room) i e).1 in absurd (omega (arith, same, some_found));
            since = λ i u moment e is. let same = ap (λ (y : View). y.stopped_at) (only u (newcomer given P N room) i e).1 ∙ is in absurd (cc);
            unset = λ i j u x e some_worker f. subst (λ (y : View). AllByRecursion (IsBeforeSet (stop_at P) x.stopped_at) y.misses) (only u (newcomer given P N room) i e).1 tt;
          };
    }

pub enrols_at : (job : CoreJob) (room : ℕ) (slots id j : ℕ) (m : View × List (ℕ × Slot)) (v : View) (xs : List (ℕ × Slot)) (k : ℕ) → m ≡ (v, xs) → v.own.worker ≡ k → v.to ≡ k + 1 → v.enrolled ≡ false
    → Allows (Shows job room) slots id m j (λ y. y) (enrolled (step slots j 0 0 none) m)
enrols_at job room slots id j m v xs k e from to fresh = subst (λ (m : View × List (ℕ × Slot)). Allows (Shows job room) slots id m j (λ y. y) (enrolled (step slots j 0 0 none) m)) (sym e)
    (λ t o wide me fits. let x = enrols job room slots id j v xs k from to fresh t o wide me fits in (x.0, x.1, x.2, x.3.0, x.4))

pub cuts_at : (job : CoreJob) (room id : ℕ) (w v : View) → w ≡ v → v.own.worker < v.to → Splits (Shows job room) id w (rest_of w) (pass_of w)
cuts_at job room id w v e some_left = subst (λ (w : View). Splits (Shows job room) id w (rest_of w) (pass_of w)) (sym e)
    (λ t o me. (splits job room id v some_left t o me).0)
