-- The release of a launch, and what it leaves.
use Rattle.std.proofs.Common.{◌≡◌, ◌≢◌, ℕ, None, Some, List, [], ◌∷◌, ◌++◌, length, inl, inr, sym, refl, ap, ◌∙◌, subst, arith, append-nil, append_assoc}
use Rattle.seq_objects.specs.declared.call.Call.{Call}
use Rattle.core_model.specs.Words.{Entry}
use Rattle.core_model.specs.declared.event.Event.TheVariants.{Release}
use Rattle.launch_batch.specs.Calls.{MayServe}
use Rattle.worker_crew.specs.Words.{Event}
use Rattle.table_rule.specs.declared.view.HoldView.{HoldView}
use Rattle.table_rule.specs.Passes.{new_hold, in_hold, releasing}
use Rattle.table_rule.specs.Batches.{IsReleaseDue}
use Rattle.worker_turns.specs.Holds.{AreFit}
use Rattle.table_rule.specs.declared.view.PassView.{PassView}
use Rattle.worker_crew.specs.Workers.{WorkerView}
use Rattle.worker_turns.specs.Launches.{Launches, look_events, serve_events, launch_events}
use Rattle.worker_turns.specs.Code.Serving.{Holds, after_looks, looked, taken_hold, after_service, HasLooked, HasTaken, ServesBatch}
use Rattle.worker_turns.proofs.HoldLemmas.Serving.{release_due}

-- the hold after the looks
hold_looked : (p q : PassView) (workers : ℕ) (found : List ℕ) (calls : List Call) (book : List (List Entry)) → p.hold ≡ Some (new_hold book) → q ≡ looked workers found calls p
    → q.hold ≡ Some (taken_hold workers found calls book)
hold_looked p q workers found calls book won is = ap (λ (r : PassView). r.hold) is ∙ ap (in_hold (after_looks workers found calls)) won

pub has_taken : (p q : PassView) (workers : ℕ) (calls : List Call) (book : List (List Entry)) → p.hold ≡ Some (new_hold book) → HasLooked workers calls p q → HasTaken workers calls book q.hold
has_taken p q workers calls book won (found, are, is) = (found, hold_looked p q workers found calls book won is)

-- the pass after a release of this hold
released_from : (p q : PassView) (workers looks : ℕ) (h : HoldView) (served : List Event)
    → q ≡ record p { hold = Some h; stop_looks = looks; events = (p.events ++ look_events workers) ++ served }
    → releasing q ≡ record p { hold = None; last = Some h; book_seen = h.book; stop_looks = looks; events = p.events ++ launch_events workers served }
released_from p q workers looks h served is =
    ap releasing is
    ∙ (λ i. record p {
      hold = None;
      last = Some h;
      book_seen = h.book;
      stop_looks = looks;
      events = (append_assoc (p.events ++ look_events workers) served (Release ∷ []) ∙ append_assoc p.events (look_events workers) (served ++ Release ∷ [])) i;
    })

-- nothing was taken
pub none_release : (p q : PassView) (workers : ℕ) (calls : List Call) (book : List (List Entry)) → p.hold ≡ Some (new_hold book)
    → HasLooked workers calls p q → calls ≡ [] → (h : HoldView) × (q.hold ≡ Some h) × IsReleaseDue workers h × (book ≡ h.book)
none_release p q workers calls book won (found, are, is) none =
    let h = taken_hold workers found calls book in
    (h, hold_looked p q workers found calls book won is, release_due workers h refl (inl (record { none = none; early = refl })), refl)

-- the pass of a release, by its own number of looks
by_looks : (old : PassView) (new : PassView) (h : HoldView) (book : List (List Entry)) (events : List Event) (looks : ℕ)
    → new ≡ record old { hold = None; last = Some h; book_seen = book; stop_looks = looks; events = events }
    → new ≡ record old { hold = None; last = Some h; book_seen = book; stop_looks = new.stop_looks; events = events }
by_looks old new h book events looks is =
    is ∙ (λ i. record old { hold = None; last = Some h; book_seen = book; stop_looks = sym (ap (λ (p : PassView). p.stop_looks) is) i; events = events })

pub none_launched : (old new : WorkerView) (q : PassView) (workers : ℕ) (calls : List Call) (book : List (List Entry)) → old.pass.hold ≡ Some (new_hold book)
    → HasLooked workers calls old.pass q → calls ≡ [] → new ≡ record old { pass = releasing q } → old.desk.posted ≡ [] → Launches workers book old new
none_launched old new q workers calls book won (found, are, is) none now free =
    let h = taken_hold workers found calls book in
    let held : q ≡ record old.pass { hold = Some h; stop_looks = old.pass.stop_looks; events = (old.pass.events ++ look_events workers) ++ [] } =
    is ∙ (λ i. record old.pass { hold = in_hold (after_looks workers found calls) (won i); events = sym (append-nil (old.pass.events ++ look_events workers)) i }) in
    let pass = ap (λ (m : WorkerView). m.pass) now ∙ released_from old.pass q workers old.pass.stop_looks h [] held in record {
      done = h;
      posted = [];
      served = [];
      gathers = record { looked = refl; found = are; batch = inl (record { none = none; early = refl }, refl, refl, refl) };
      released = by_looks old.pass new.pass h h.book _ old.pass.stop_looks pass;
      looks = (let l = ap (λ (p : PassView). p.stop_looks) pass in omega (arith, l));
      waits = (let l = ap (λ (p : PassView). p.stop_looks) pass in let e = ap (λ (m : WorkerView). m.desk.empty_collects) now in omega (arith, l, e));
      handed = inl (refl, ap (λ (m : WorkerView). m.batch) now);
      desk = record {
        posts = ap (λ (m : WorkerView). m.desk.posts) now ∙ sym (append-nil _);
        collects = (let c = ap (λ (m : WorkerView). m.desk.collects) now in omega (arith, c));
        free = ap (λ (m : WorkerView). m.desk.posted) now ∙ free;
        given = [];
        gave = ap (λ (m : WorkerView). m.desk.given) now ∙ sym (append-nil _);
        finishes = (let f = ap (λ (m : WorkerView). m.desk.finishes) now in omega (arith, f));
        row = ap (λ (m : WorkerView). m.desk.row) now;
      };
      core = ap (λ (m : WorkerView). m.core) now;
    }

-- the calls that were taken were served
pub served_release : (old new : WorkerView) (workers : ℕ) (calls : List Call) (book after : List (List Entry)) → HasTaken workers calls book old.pass.hold
    → MayServe book calls → ServesBatch book calls after old new → (h : HoldView) × (new.pass.hold ≡ Some h) × IsReleaseDue workers h × (after ≡ h.book)
served_release old new workers calls book after (found, hold) may s =
    let h = after_service s.batch (taken_hold workers found calls book) in (
      h,
      ap (λ (p : PassView). p.hold) s.pass ∙ ap (in_hold (after_service s.batch)) hold,
      release_due workers h refl (inr (book, s.batch, record { published = record { published = refl; book = refl; may = may; service = s.service }; answered = refl })),
      s.grown,
    )

pub served_launched : (old new : WorkerView) (q r : PassView) (workers : ℕ) (calls : List Call) (book after : List (List Entry)) → old.pass.hold ≡ Some (new_hold book) → MayServe book calls
    → HasLooked workers calls old.pass q → ServesBatch book calls after (record old { pass = q }) (record new { pass = r }) → new.pass ≡ releasing r
    → Launches workers book old new
served_launched old new q r workers calls book after won may (found, are, is) s now =
    let taken = taken_hold workers found calls book in
    let done : HoldView = after_service s.batch taken in
    let hold = hold_looked old.pass q workers found calls book won is in
    let served = serve_events (length book) s.batch in
    let held : r ≡ record old.pass { hold = Some done; stop_looks = r.stop_looks; events = (old.pass.events ++ look_events workers) ++ served } =
    s.pass
    ∙ (λ i. record q { hold = in_hold (after_service s.batch) (hold i); stop_looks = r.stop_looks; events = q.events ++ served })
    ∙ ap (λ (p : PassView). record p { hold = Some done; stop_looks = r.stop_looks; events = p.events ++ served }) is in
    let pass = now ∙ released_from old.pass r workers r.stop_looks done served held in record {
      done = done;
      posted = s.posted;
      served = served;
      gathers = record {
        looked = refl;
        found = are;
        batch = inr (s.batch, record { published = record { published = refl; book = refl; may = may; service = s.service }; answered = refl }, s.places, refl);
      };
      released = by_looks old.pass new.pass done done.book _ r.stop_looks pass;
      looks = (let l = ap (λ (p : PassView). p.stop_looks) pass in let before = ap (λ (p : PassView). p.stop_looks) is in let more = s.looks in omega (arith, l, before, more));
      waits = (let l = ap (λ (p : PassView). p.stop_looks) pass in let before = ap (λ (p : PassView). p.stop_looks) is in let more = s.waits in omega (arith, l, before, more));
      desk = s.desk;
      handed = inr s.handed;
      core = s.core;
    }

-- no call was taken
pub no_call : (calls : List Call) → length calls ≡ 0 → calls ≡ []
no_call [] is = refl
no_call (call ∷ calls) is = absurd (cc)

-- some call was taken, so all that were can be served
pub taken_serve : (p q : PassView) (workers : ℕ) (calls : List Call) (book : List (List Entry)) → p.hold ≡ Some (new_hold book) → HasLooked workers calls p q
    → Holds AreFit q.hold → calls ≢ [] → MayServe book calls
taken_serve p q workers calls book won (found, are, is) fit some = (subst (Holds AreFit) (hold_looked p q workers found calls book won is) fit).serve some
