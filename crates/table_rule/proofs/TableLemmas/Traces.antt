-- The trace that leads to the state shown, and its agreement with the views.
use Rattle.std.proofs.Common.{ℕ, ◌≡◌, ◌≢◌, ◌<◌, ◌≤◌, ◌+◌, ◌⊎◌, Option as Maybe, None, Some, List, [], ◌∷◌, ◌++◌, length, set, arith, refl, sym, ap, ◌∙◌, subst, inl, inr, ⊎_elim, append_assoc, length-append}
use Rattle.std.proofs.lemmas.List.{append-nil}
use Rattle.std.specs.List.{AllByRecursion}
use Rattle.std.proofs.lemmas.Bool.Decides.{nat_tests}
use Rattle.std.proofs.lemmas.Bool.{cases_eq}
use mathlib.Core.Option.{some, some-injective}
use lib.ListN.{get_elem?}
use Rattle.atomic_table.proofs.Lists.{at_set, set_here, set_else}
use Rattle.seq_objects.proofs.Elements.{each_append, each_so}
use Rattle.core_model.specs.declared.event.Event.{Event}
use Rattle.core_model.specs.Events.{Happens}
use Rattle.core_model.specs.Lists.{ready_after}
use Rattle.core_model.specs.Runs.{IsStep, Step, ReachesFrom, Reaches}
use Rattle.core_model.specs.State.{CoreJob, CoreState, State, opening_core}
use Rattle.table_rule.specs.declared.view.Miss.{Miss}
use Rattle.table_rule.specs.declared.view.View.{View}
use Rattle.table_rule.specs.Words.{stop_at}
use Rattle.table_rule.specs.Shows.{event_if, events_by, EventsAgree, HasWord, IsTrueIn, AreInOrder, MissesAgree, IsNotAfter, IsBeforeSet, StopShows}
use Rattle.table_rule.specs.Views.{first_set}

-- the trace with one more step
pub reached_more : (job : CoreJob) (first : CoreState) (steps : List Step) (mid : CoreState) (step : Step) (last : CoreState)
    → ReachesFrom job first steps mid → IsStep job mid step.worker step.event last → ReachesFrom job first (steps ++ step ∷ []) last
reached_more job first [] mid step last e is = (last, subst (λ (c : CoreState). IsStep job c step.worker step.event last) e is, refl)
reached_more job first (s ∷ steps) mid step last h is = (h.0, h.1, reached_more job h.0 steps mid step last h.2 is)

pub reached_next : (job : CoreJob) (steps : List Step) (ready : ℕ → List ℕ) (old new : State) (worker : ℕ) (event : Event)
    → Reaches job steps (record { state = old; ready = ready }) → Happens job old worker event new
    → Reaches job (steps ++ record { worker = worker; event = event } ∷ []) (record { state = new; ready = ready_after worker event ready })
reached_next job steps ready old new worker event h happens =
    reached_more job opening_core steps (record { state = old; ready = ready }) (record { worker = worker; event = event }) (record { state = new; ready = ready_after worker event ready }) h
    record { happens = happens; lists = refl }

pub events_more : (w : ℕ) (steps : List Step) (step : Step) → events_by w (steps ++ step ∷ []) ≡ events_by w steps ++ event_if w step
events_more w [] step = append-nil (event_if w step)
events_more w (s ∷ steps) step = ap (λ (l : List Event). event_if w s ++ l) (events_more w steps step) ∙ sym (append_assoc (event_if w s) (events_by w steps) (event_if w step))

own_event : (k : ℕ) (event : Event) → event_if k (record { worker = k; event = event }) ≡ event ∷ []
own_event k event = grind (arith, nat_tests)

other_event : (k x : ℕ) (event : Event) → x ≢ k → event_if x (record { worker = k; event = event }) ≡ []
other_event k x event ne = grind (arith, nat_tests)

-- the views before and after a step that is this event, and that has noted the misses `more`
pub record AddsEvent (v w : View) (event : Event) (more : List Miss) : Type 0 where
  pub events : w.own.events ≡ v.own.events ++ event ∷ []
  pub stops : w.own.stops ≡ v.own.stops
  pub found : w.own.stops_found ≡ v.own.stops_found
  pub misses : w.misses ≡ more ++ v.misses
  pub stopped : w.stopped_at ≡ v.stopped_at

pub agree_next : (views : List View) (id k : ℕ) (v w : View) (steps : List Step) (event : Event) → get_elem? views id ≡ some v → v.own.worker ≡ k → v.to ≡ k + 1 → w.own.worker ≡ k → w.to ≡ k + 1
    → w.own.events ≡ v.own.events ++ event ∷ [] → ((i x : ℕ) (u : View) → get_elem? views i ≡ some u → u.own.worker ≤ x → x < u.to → i ≢ id → x ≢ k) → EventsAgree views steps
    → EventsAgree (set views id w) (steps ++ record { worker = k; event = event } ∷ [])
agree_next views id k v w steps event me from to from' to' events apart old i u x e lo hi =
    let step : Step = record { worker = k; event = event } in ⊎_elim
    (λ q.
    let lo' : w.own.worker ≤ x = subst (λ (y : View). y.own.worker ≤ x) (sym q.1) lo in
    let hi' : x < w.to = subst (λ (y : View). x < y.to) (sym q.1) hi in
    let is : x ≡ k = omega arith in
    let was : events_by k steps ≡ v.own.events = old id v k me (omega arith) (omega arith) in
    ap (λ (y : ℕ). events_by y (steps ++ step ∷ [])) is
    ∙ (events_more k steps step ∙ (ap (λ (l : List Event). events_by k steps ++ l) (own_event k event) ∙ (ap (λ (l : List Event). l ++ event ∷ []) was ∙ (sym events ∙ ap (λ (y : View). y.own.events) q.1)))))
    (λ q. events_more x steps step ∙ (ap (λ (l : List Event). events_by x steps ++ l) (other_event k x event (apart i x u q.1 lo hi q.0)) ∙ (append-nil (events_by x steps) ∙ old i u x q.1 lo hi)))
    (at_set views id i w u e)

-- a step that is no event
pub agree_still : (views : List View) (id k : ℕ) (v w : View) (steps : List Step) → get_elem? views id ≡ some v → v.own.worker ≡ k → v.to ≡ k + 1 → w.own.worker ≡ k → w.to ≡ k + 1
    → w.own.events ≡ v.own.events → EventsAgree views steps → EventsAgree (set views id w) steps
agree_still views id k v w steps me from to from' to' events old i u x e lo hi = ⊎_elim
    (λ q.
    let lo' : w.own.worker ≤ x = subst (λ (y : View). y.own.worker ≤ x) (sym q.1) lo in
    let hi' : x < w.to = subst (λ (y : View). x < y.to) (sym q.1) hi in
    old id v x me (omega arith) (omega arith) ∙ (sym events ∙ ap (λ (y : View). y.own.events) q.1))
    (λ q. old i u x q.1 lo hi)
    (at_set views id i w u e)

-- a miss that was true at a moment of a trace was so too when the trace has gone on
pub true_longer : (job : CoreJob) (w : ℕ) (trace : List Step) (step : Step) (m : Miss) → IsTrueIn job w trace m → IsTrueIn job w (trace ++ step ∷ []) m
true_longer job w trace step m h = (h.0, h.1 ++ step ∷ [], ap (λ (l : List Step). l ++ step ∷ []) h.2 ∙ append_assoc h.0 h.1 (step ∷ []), h.3)

-- and its moment is not past the trace's end
pub within_trace : (job : CoreJob) (w : ℕ) (trace : List Step) (m : Miss) → IsTrueIn job w trace m → m.moment ≤ length trace
within_trace job w trace m h =
    let long : length trace ≡ length h.0 + length h.1 = ap (λ (l : List Step). length l) h.2 ∙ length-append h.0 h.1 in
    let at = h.3.moment in omega (arith, long, at)

-- a miss at the end of the trace
pub true_now : (job : CoreJob) (w : ℕ) (trace : List Step) (core : CoreState) (m : Miss) → Reaches job trace core → length trace ≡ m.moment → length (events_by w trace) ≡ m.events → HasWord job core.state m.word m.found → IsTrueIn job w trace m
true_now job w trace core m reached moment events word = (trace, [], sym (append-nil trace), record { core = core; reached = reached; moment = moment; events = events; word = word })

-- a miss that worker k's pass notes at the end of the trace, where the stop word is `word`
pub record IsNoted (job : CoreJob) (k : ℕ) (trace : List Step) (word : ℕ) (m : Miss) : Type 0 where
  pub holds : IsTrueIn job k trace m
  pub last : m.moment ≡ length trace
  pub stop : m.word ≡ stop_at job.workers → (m.found ≡ 0) × (word ≡ 0)

in_order : (job : CoreJob) (k : ℕ) (trace : List Step) (word : ℕ) (more l : List Miss) → AllByRecursion (IsNoted job k trace word) more → AllByRecursion (IsTrueIn job k trace) l → AreInOrder l → AreInOrder (more ++ l)
in_order job k trace word [] l noted trues order = order
in_order job k trace word (m ∷ more) l noted trues order =
    let last = noted.0.last in (
      each_so (IsTrueIn job k trace) (λ (e : Miss). e.moment ≤ m.moment) (λ e h. let low = within_trace job k trace e h in omega (arith, low, last)) (more ++ l)
          (each_append (IsTrueIn job k trace) more l (each_so (IsNoted job k trace word) (IsTrueIn job k trace) (λ m h. h.holds) more noted.1) trues),
      in_order job k trace word more l noted.1 trues order,
    )

-- the misses after a step of worker k that has noted `more`
pub misses_kept : (job : CoreJob) (views : List View) (id k : ℕ) (v w : View) (trace new : List Step) (more : List Miss) (word : ℕ) → get_elem? views id ≡ some v → v.own.worker ≡ k → v.to ≡ k + 1 → w.own.worker ≡ k → w.to ≡ k + 1
    → w.misses ≡ more ++ v.misses → AllByRecursion (IsNoted job k trace word) more → ((x : ℕ) (m : Miss) → IsTrueIn job x trace m → IsTrueIn job x new m)
    → MissesAgree job views trace → MissesAgree job (set views id w) new
misses_kept job views id k v w trace new more word me from to from' to' are noted longer old i u x e lo hi =
    let trues = each_so (IsNoted job k trace word) (IsTrueIn job k trace) (λ m h. h.holds) more noted in
    let was : AllByRecursion (IsTrueIn job x trace) u.misses × AreInOrder u.misses = ⊎_elim
    (λ q.
    let lo' : w.own.worker ≤ x = subst (λ (y : View). y.own.worker ≤ x) (sym q.1) lo in
    let hi' : x < w.to = subst (λ (y : View). x < y.to) (sym q.1) hi in
    let at : x ≡ k = omega arith in
    let o = old id v k me (omega arith) (omega arith) in
    subst (λ (y : View). AllByRecursion (IsTrueIn job x trace) y.misses × AreInOrder y.misses) q.1 (subst (λ (y : ℕ). AllByRecursion (IsTrueIn job y trace) w.misses × AreInOrder w.misses) (sym at)
    (subst (λ (l : List Miss). AllByRecursion (IsTrueIn job k trace) l × AreInOrder l) (sym are) (each_append (IsTrueIn job k trace) more v.misses trues o.0, in_order job k trace word more v.misses noted o.0 o.1))))
    (λ q. old i u x q.1 lo hi)
    (at_set views id i w u e) in
    (each_so (IsTrueIn job x trace) (IsTrueIn job x new) (longer x) u.misses was.0, was.1)

unset_now : (moment : ℕ) (set : Maybe ℕ) → ((s : ℕ) → set ≡ Some s → ⊥) → IsNotAfter moment set
unset_now moment None f = tt
unset_now moment (Some s) f = absurd (f s refl)

-- `StopShows` is kept when the stop word and a view's sets of it stay
pub stop_still : (stop : ℕ) (views : List View) (id : ℕ) (v w : View) (word word' : ℕ) (more : List Miss) → get_elem? views id ≡ some v → id < length views → v.own.worker < v.to → w.own.worker < w.to → word' ≡ word → w.own.stops ≡ v.own.stops
    → (0 < w.own.stops_found → (0 < v.own.stops_found) ⊎ (word ≡ 1)) → w.misses ≡ more ++ v.misses → w.stopped_at ≡ v.stopped_at → AllByRecursion (λ (m : Miss). m.word ≡ stop → (m.found ≡ 0) × (word ≡ 0)) more
    → StopShows stop word views → StopShows stop word' (set views id w)
stop_still stop views id v w word word' more me low some_v some_w same stops found are stopped noted h = record {
  known = subst (λ (y : ℕ). (y ≡ 0) ⊎ (y ≡ 1)) (sym same) h.known;
  set = λ i u e some_stops. ⊎_elim
      (λ q. same ∙ h.set id v me (let a : w.own.stops ≡ u.own.stops = ap (λ (y : View). y.own.stops) q.1 in omega arith))
      (λ q. same ∙ h.set i u q.1 some_stops)
      (at_set views id i w u e);
  by = λ one.
      let b = h.by (sym same ∙ one) in elim (cases_eq b.0 id) [
        | inl e ↦
            let is : b.1 ≡ v = some-injective _ _ (sym b.2 ∙ (ap (λ (j : ℕ). get_elem? views j) e ∙ me)) in
            let some_stops : 0 < v.own.stops = subst (λ (y : View). 0 < y.own.stops) is b.3 in
            (id, w, set_here views id w low, omega arith, some_w)
        | inr ne ↦ (b.0, b.1, set_else views id b.0 w ne ∙ b.2, b.3, b.4)
      ];
  found = λ i u e some_found. ⊎_elim
      (λ q. ⊎_elim (λ f. same ∙ h.found id v me f) (λ one. same ∙ one) (found (subst (λ (y : View). 0 < y.own.stops_found) (sym q.1) some_found)))
      (λ q. same ∙ h.found i u q.1 some_found)
      (at_set views id i w u e);
  since = λ i u moment e is. ⊎_elim
      (λ q. same ∙ h.since id v moment me (sym stopped ∙ (ap (λ (y : View). y.stopped_at) q.1 ∙ is)))
      (λ q. same ∙ h.since i u moment q.1 is)
      (at_set views id i w u e);
  unset = λ i j u y e some_u f.
      let was : (b : ℕ) × (z : View) × (get_elem? views b ≡ some z) × (z.stopped_at ≡ y.stopped_at) = ⊎_elim
      (λ q. (id, v, me, sym stopped ∙ ap (λ (z : View). z.stopped_at) q.1))
      (λ q. (j, y, q.1, refl))
      (at_set views id j w y f) in
      let P : Miss → Type 0 = IsBeforeSet stop y.stopped_at in
      let old : (i : ℕ) (x : View) → get_elem? views i ≡ some x → x.own.worker < x.to → AllByRecursion P x.misses = λ i x at some_x. subst (λ (set : Maybe ℕ). AllByRecursion (IsBeforeSet stop set) x.misses) was.3 (h.unset i was.0 x was.1 at some_x was.2) in
      ⊎_elim
      (λ q. subst (λ (x : View). AllByRecursion P x.misses) q.1 (subst (AllByRecursion P) (sym are) (each_append P more v.misses
      (each_so (λ (m : Miss). m.word ≡ stop → (m.found ≡ 0) × (word ≡ 0)) P (λ m z at. ((z at).0, unset_now m.moment y.stopped_at (λ s is. let one = h.since was.0 was.1 s was.2 (was.3 ∙ is) in let zero = (z at).1 in absurd (omega (arith, one, zero))))) more noted)
      (old id v me some_v))))
      (λ q. old i u q.1 some_u)
      (at_set views id i w u e);
}

first_bounds : (stop moment : ℕ) (set : Maybe ℕ) (l : List Miss) → AllByRecursion (IsBeforeSet stop set) l → AllByRecursion (λ (m : Miss). m.moment ≤ moment) l → AllByRecursion (IsBeforeSet stop (first_set set moment)) l
first_bounds stop moment None [] a b = tt
first_bounds stop moment None (m ∷ l) a b = ((λ at. ((a.0 at).0, b.0)), first_bounds stop moment None l a.1 b.1)
first_bounds stop moment (Some s) l a b = a

-- the word is set
pub stop_set : (stop : ℕ) (views : List View) (id : ℕ) (v w : View) (word word' moment : ℕ) → get_elem? views id ≡ some v → id < length views → v.own.worker < v.to → w.own.worker < w.to → word' ≡ 1 → 0 < w.own.stops
    → w.misses ≡ v.misses → w.stopped_at ≡ first_set v.stopped_at moment → ((i : ℕ) (x : View) → get_elem? views i ≡ some x → x.own.worker < x.to → AllByRecursion (λ (m : Miss). m.moment ≤ moment) x.misses)
    → StopShows stop word views → StopShows stop word' (set views id w)
stop_set stop views id v w word word' moment me low some_v some_w one stops are stopped before h = record {
  known = inr one;
  set = λ i u e some_stops. one;
  by = λ _. (id, w, set_here views id w low, stops, some_w);
  found = λ i u e some_found. one;
  since = λ i u moment e is. one;
  unset = λ i j u y e some_u f.
      let was : (b : ℕ) × (x : View) × (get_elem? views b ≡ some x) × (x.own.worker < x.to) × (x.misses ≡ u.misses) = ⊎_elim
      (λ q. (id, v, me, some_v, sym are ∙ ap (λ (x : View). x.misses) q.1))
      (λ q. (i, u, q.1, some_u, refl))
      (at_set views id i w u e) in
      subst (AllByRecursion (IsBeforeSet stop y.stopped_at)) was.4 (⊎_elim
      (λ q. subst (λ (z : View). AllByRecursion (IsBeforeSet stop z.stopped_at) was.1.misses) q.1 (subst (λ (set : Maybe ℕ). AllByRecursion (IsBeforeSet stop set) was.1.misses) (sym stopped)
      (first_bounds stop moment v.stopped_at was.1.misses (h.unset was.0 id was.1 v was.2 was.3 me) (before was.0 was.1 was.2 was.3))))
      (λ q. h.unset was.0 j was.1 y was.2 was.3 q.1)
      (at_set views id j w y f));
}

-- a seat after a split, and one before that has the same notes
pub record SameNotes (u x : View) : Type 0 where
  pub stops : u.own.stops ≡ x.own.stops
  pub found : u.own.stops_found ≡ x.own.stops_found
  pub misses : u.misses ≡ x.misses
  pub stopped : u.stopped_at ≡ x.stopped_at
  pub some_worker : u.own.worker < u.to → x.own.worker < x.to

-- `StopShows` is kept when a seat's view is split in two
pub stop_cut : (stop : ℕ) (views : List View) (id : ℕ) (v w y : View) (word : ℕ) → ((i : ℕ) (u : View) → get_elem? (set views id w ++ y ∷ []) i ≡ some u → (j : ℕ) × (x : View) × (get_elem? views j ≡ some x) × SameNotes u x)
    → ((i : ℕ) (u : View) → get_elem? views i ≡ some u → u.own.worker < u.to → (j : ℕ) × (x : View) × (get_elem? (set views id w ++ y ∷ []) j ≡ some x) × (x.own.stops ≡ u.own.stops) × (x.own.worker < x.to))
    → StopShows stop word views → StopShows stop word (set views id w ++ y ∷ [])
stop_cut stop views id v w y word back forth h = record {
  known = h.known;
  set = λ i u e some_stops. let b = back i u e in h.set b.0 b.1 b.2 (let a = b.3.stops in omega arith);
  by = λ one. let b = h.by one in let f = forth b.0 b.1 b.2 b.4 in (f.0, f.1, f.2, (let a = f.3 in let c = b.3 in omega arith), f.4);
  found = λ i u e some_found. let b = back i u e in h.found b.0 b.1 b.2 (let a = b.3.found in omega arith);
  since = λ i u moment e is. let b = back i u e in h.since b.0 b.1 moment b.2 (sym b.3.stopped ∙ is);
  unset = λ i j u z e some_u f.
      let b = back i u e in let c = back j z f in
      subst (λ (set : Maybe ℕ). AllByRecursion (IsBeforeSet stop set) u.misses) (sym c.3.stopped)
      (subst (AllByRecursion (IsBeforeSet stop c.1.stopped_at)) (sym b.3.misses) (h.unset b.0 c.0 b.1 c.1 b.2 (b.3.some_worker some_u) c.2));
}
