-- The batch of a launch: how many entries and batches there are, and what is known of it.
use Rattle.std.proofs.Common.{◌≡◌, ℕ, ◌≤◌, Option, None, Some, List, [], ◌∷◌, ◌++◌, length, get_or, sym, refl, ap, ◌∙◌, subst, arith, append_assoc}
use Rattle.limits.specs.declared.TheConstants.{MOST_LEAVES}
use Rattle.std.proofs.lemmas.List.{length-map}
use Rattle.batch_history.specs.Book.{IsHistory}
use Rattle.batch_history.specs.Serving.{calls_in, call_in}
use Rattle.launch_batch.specs.Calls.{MayServe, IsServiceOf}
use Rattle.seq_objects.specs.declared.call.Call.{Call}
use Rattle.core_model.specs.Words.{Entry}
use Rattle.table_rule.specs.declared.view.HoldView.{HoldView}
use Rattle.table_rule.specs.Passes.{after_publish, in_hold, publishing}
use Rattle.table_rule.specs.Batches.{IsPublishDue}
use Rattle.worker_turns.specs.Holds.{workers_in}
use Rattle.table_rule.specs.declared.view.PassView.{PassView}
use Rattle.core_model.specs.declared.event.Event.TheVariants.{Publish}
use Rattle.worker_turns.specs.Stops.{HasOnlyLooked}
use Rattle.worker_turns.specs.Launches.{answer_events, serve_events}
use Rattle.worker_turns.specs.Code.Serving.{Holds, IsAnswerable, HasTaken, taken_hold, after_service, after_answers, answered_all}
use Rattle.worker_turns.proofs.HoldLemmas.Serving.{publish_due}
use Rattle.launch_batch.proofs.ListLemmas.Same.{length_same}
use Rattle.core_model.proofs.BookLemmas.Room.{few_batches}

few_in : (number : ℕ) (batch : List Entry) (h : Option HoldView) → Holds (IsAnswerable number batch) h → length batch ≤ MOST_LEAVES
few_in number batch None due = absurd due
few_in number batch (Some h) due =
    let same = length_same h.taken (calls_in batch) due.published.service.same in
    let m = length-map batch call_in in
    let most = due.published.may.most in
    omega (arith, same, m, most)

pub few_answers : (p : PassView) (number : ℕ) (batch : List Entry) → Holds (IsAnswerable number batch) p.hold → length batch ≤ MOST_LEAVES
few_answers p number batch held = few_in number batch p.hold held

-- the batch that serves the taken calls can be published
pub publishable : (p q : PassView) (workers : ℕ) (calls : List Call) (book : List (List Entry)) (batch : List Entry)
    → HasTaken workers calls book p.hold → MayServe book calls → IsServiceOf book calls batch → HasOnlyLooked p q
    → (h : HoldView) × (q.hold ≡ Some h) × IsPublishDue workers h batch
publishable p q workers calls book batch (found, hold) may service looks =
    let h = taken_hold workers found calls book in
    (h, ap (λ (s : PassView). s.hold) looks.same ∙ hold, publish_due workers h batch refl refl may service)

-- the batch that was published can be answered
pub answerable : (p q r : PassView) (workers number : ℕ) (calls : List Call) (book : List (List Entry)) (batch entries : List Entry)
    → HasTaken workers calls book p.hold → MayServe book calls → IsServiceOf book calls batch → HasOnlyLooked p q → r ≡ publishing batch q
    → number ≡ length book → entries ≡ batch → Holds (IsAnswerable number entries) r.hold
answerable p q r workers number calls book batch entries (found, hold) may service looks now is all =
    subst (λ (es : List Entry). Holds (IsAnswerable number es) r.hold) (sym all)
    (subst (Holds (IsAnswerable number batch)) (sym (ap (λ (s : PassView). s.hold) now ∙ ap (λ (s : PassView). (publishing batch s).hold) looks.same ∙ ap (in_hold _) hold))
    (record { before = book; published = record { published = refl; book = refl; may = may; service = service }; numbered = is; none = refl }))

pub few_before : (book : List (List Entry)) (calls : List Call) → IsHistory book → MayServe book calls → length book ≤ MOST_LEAVES
few_before book calls history may =
    let few = few_batches book history.batches in
    let most = may.most in
    omega (arith, few, most)

pub last_at : {X : Type 0} (xs : List X) (x d : X) → get_or (xs ++ x ∷ []) (length xs) d ≡ x
last_at [] x d = refl
last_at (y ∷ xs) x d = last_at xs x d

-- the hold once the batch is answered
served : (batch : List Entry) (h : Option HoldView) → in_hold (after_answers (workers_in batch)) (in_hold (after_publish batch) h) ≡ in_hold (after_service batch) h
served batch None = refl
served batch (Some h) = refl

module _ (p q r s : PassView) (number : ℕ) (book : List (List Entry)) (batch entries : List Entry) where
  pass_after : HasOnlyLooked p q → r ≡ publishing batch q → s ≡ answered_all number entries r → number ≡ length book → entries ≡ batch
      → s ≡ record p { hold = in_hold (after_service batch) p.hold; stop_looks = q.stop_looks; events = p.events ++ serve_events (length book) batch }
  pass_after looks now answered is all =
      answered ∙ (λ i. answered_all (is i) (all i) r) ∙ ap (answered_all (length book) batch) (now ∙ ap (publishing batch) looks.same)
      ∙ (λ i. record p {
        hold = served batch p.hold i;
        stop_looks = q.stop_looks;
        events = append_assoc p.events (Publish ∷ []) (answer_events (length book) 0 batch) i;
      })

  pub pass_looks : HasOnlyLooked p q → r ≡ publishing batch q → s ≡ answered_all number entries r → s.stop_looks ≡ q.stop_looks
  pass_looks looks now answered = ap (λ (z : PassView). z.stop_looks) answered ∙ ap (λ (z : PassView). z.stop_looks) now

  pub pass_served : HasOnlyLooked p q → r ≡ publishing batch q → s ≡ answered_all number entries r → number ≡ length book → entries ≡ batch
      → s ≡ record p { hold = in_hold (after_service batch) p.hold; stop_looks = s.stop_looks; events = p.events ++ serve_events (length book) batch }
  pass_served looks now answered is all =
      pass_after looks now answered is all
      ∙ (λ i. record p {
        hold = in_hold (after_service batch) p.hold;
        stop_looks = sym (pass_looks looks now answered) i;
        events = p.events ++ serve_events (length book) batch;
      })

  pub served_looks : HasOnlyLooked p q → r ≡ publishing batch q → s ≡ answered_all number entries r → p.stop_looks ≤ s.stop_looks
  served_looks looks now answered = let same = pass_looks looks now answered in let more = looks.looks in omega (arith, same, more)
