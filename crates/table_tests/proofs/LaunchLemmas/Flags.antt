-- What a pass that has the flag has in hand after each of its calls.
use Rattle.std.proofs.Common.{ℕ, zero, suc, ◌≡◌, ◌≢◌, ◌<◌, ◌≤◌, ◌+◌, true, false, Some, List, [], ◌∷◌, ◌++◌, length, get_or, take, arith, refl, sym, ap, ◌∙◌, subst, inr}
use Rattle.std.proofs.lemmas.List.{take_all, length-map}
use Rattle.std.proofs.lemmas.Option.{slice_get-get_or, same_Some}
use Rattle.sp_order.specs.Jobs.{tree_or_leaf}
use Rattle.sp_order.specs.Precedence.{Tree}
use Rattle.sp_order.specs.Preorder.{nodes_of}
use Rattle.seq_objects.specs.declared.call.Call.{Call}
use Rattle.batch_history.specs.declared.batch.Entry.{Entry}
use Rattle.core_model.specs.Measure.{call_count}
use Rattle.core_model.specs.Operations.{place_of, IsReceipt}
use Rattle.core_model.specs.declared.status.Receipt.{Receipt}
use Rattle.launch_batch.specs.Calls.{MayServe, IsServiceOf}
use Rattle.batch_history.specs.Serving.{call_in, calls_in}
use Rattle.launch_batch.proofs.ListLemmas.Same.{length_same}
use Rattle.table_rule.specs.declared.slot.OpRecord.{OpRecord}
use Rattle.table_rule.specs.declared.view.HoldView.{HoldView}
use Rattle.table_rule.specs.declared.view.Miss.{Miss}
use Rattle.table_rule.specs.declared.view.View.{View}
use Rattle.table_rule.specs.Batches.{IsPublishDue, IsReleaseDue}
use Rattle.table_rule.specs.Passes.{call_by, in_hold, after_take, after_pass, after_publish, after_answer, taking, skipping, publishing, answering}
use Rattle.table_rule.specs.Plays.{IsNewCall}
use Rattle.table_rule.specs.Shows.{record_in, among}
use Rattle.table_rule.specs.Views.{with_step, with_miss}
use Rattle.table_rule.proofs.ListLemmas.CallCounts.{room_few}
use Rattle.core_table.specs.declared.table.CoreTable.{CoreTable}
use Rattle.core_table.specs.declared.table.Pass.{Pass}
use Rattle.core_table.specs.Passes.{IsPassOf, job_in, view, pass_view}
use Rattle.worker_turns.specs.Holds.{workers_in}
use Rattle.worker_turns.proofs.HoldLemmas.Fits.{fit_taken, fit_passed}
use Rattle.worker_turns.proofs.HoldLemmas.Serving as serving
use Rattle.table_tests.specs.Launches.{HasFlag, Answers}
use Rattle.table_tests.specs.Tables.{IsForTwo}

few_calls : {B : Type 0} (t : CoreTable B) → IsForTwo t → call_count (job_in t) ≤ 20000
unfolding nodes_of
few_calls t two =
    let some = room_few (job_in t) in
    let three : (job_in t).plan.count ≡ 3 = ap (λ (tree : Tree). (nodes_of tree).count) (ap tree_or_leaf two.1) in
    omega (arith, some, three)

not_none : (calls : List Call) → 0 < length calls → calls ≢ []
not_none [] some e = absurd (omega (arith, some))
not_none (c ∷ calls) some e = absurd (cc)

module _ {B : Type 0} (t : CoreTable B) (n : ℕ) (before : List (List Entry)) (calls : List Call) (p : Pass) (f : HasFlag t before n calls p) where
  -- the calls that were taken can be served
  pub flag_serves : 0 < length calls → MayServe before calls
  flag_serves some =
      let may = f.taken.fit.serve (λ e. not_none calls some (sym f.taken.taken ∙ e)) in
      subst (λ b. MayServe b calls) f.book (subst (MayServe f.h.book) f.taken.taken may)

  serves : (batch : List Entry) → IsServiceOf before calls batch → IsServiceOf f.h.book f.h.taken batch
  serves batch s = subst (λ l. IsServiceOf f.h.book l batch) (sym f.taken.taken) (subst (λ b. IsServiceOf b calls batch) (sym f.book) s)

  pub flag_due : (batch : List Entry) → 0 < length calls → IsServiceOf before calls batch → n ≡ (job_in t).workers
      → (h : HoldView) × ((pass_view p).hold ≡ Some h) × IsPublishDue (job_in t).workers h batch
  flag_due batch some s size = (
    f.h,
    f.hold,
    serving.publish_due (job_in t).workers f.h batch (f.taken.looks ∙ size) f.taken.early
        (f.taken.fit.serve (λ e. not_none calls some (sym f.taken.taken ∙ e))) (serves batch s),
  )

  module _ (q : Pass) (own : IsPassOf t q) where
    -- a look that takes a call
    pub flag_took : (call : OpRecord) (items : List Call) → IsForTwo t → n < 2
        → (h : HoldView) → (pass_view p).hold ≡ Some h → IsNewCall (call_count (job_in t)) h call → view q ≡ with_step (taking (call_by n call)) (view p)
        → items ≡ calls ++ call_by n call ∷ [] → HasFlag t before (n + 1) items q
    flag_took call items two low h held new now put =
        let g = after_take (call_by n call) in
        let same : h ≡ f.h = same_Some h f.h (sym held ∙ f.hold) in
        record {
          own = own;
          h = g f.h;
          hold = ap (λ (v : View). v.own.hold) now ∙ ap (in_hold g) f.hold;
          book = f.book;
          taken = record {
            looks = ap (λ k. k + 1) f.taken.looks;
            taken = ap (λ l. l ++ call_by n call ∷ []) f.taken.taken ∙ sym put;
            fit = fit_taken f.h n (call_count (job_in t)) call (subst (λ (x : HoldView). IsNewCall (call_count (job_in t)) x call) same new) (few_calls t two) (sym f.taken.looks) (omega (arith, low)) f.taken.fit;
            early = f.taken.early;
            none = f.taken.none;
          };
        }

    -- a look that takes none
    pub flag_passed : (miss : Miss) (seen : ℕ) → view q ≡ with_miss miss (skipping n seen) (view p) → HasFlag t before (n + 1) calls q
    flag_passed miss seen now = record {
      own = own;
      h = after_pass seen f.h;
      hold = ap (λ (v : View). v.own.hold) now ∙ ap (in_hold (after_pass seen)) f.hold;
      book = f.book;
      taken = record {
        looks = ap (λ k. k + 1) f.taken.looks;
        taken = f.taken.taken;
        fit = fit_passed f.h seen f.taken.fit;
        early = f.taken.early;
        none = f.taken.none;
      };
    }

    -- a publish
    pub flag_published : (batch : List Entry) → 0 < length calls → IsServiceOf before calls batch → n ≡ (job_in t).workers
        → view q ≡ with_step (publishing batch) (view p) → Answers t before batch 0 q
    flag_published batch some s size now = record {
      own = own;
      h = after_publish batch f.h;
      hold = ap (λ (v : View). v.own.hold) now ∙ ap (in_hold (after_publish batch)) f.hold;
      answered = record {
        looks = f.taken.looks ∙ size;
        published = record {
          published = refl;
          book = ap (λ b. b ++ batch ∷ []) f.book;
          may = subst (MayServe before) (sym f.taken.taken) (flag_serves some);
          service = subst (λ l. IsServiceOf before l batch) (sym f.taken.taken) s;
        };
        answered = f.taken.none;
      };
    }

-- the workers of one more entry
workers_more : (batch : List Entry) (i : ℕ) (d : Entry) → i < length batch → take i (workers_in batch) ++ (get_or batch i d).worker ∷ [] ≡ take (i + 1) (workers_in batch)
workers_more [] i d low = absurd (omega (arith, low))
workers_more (e ∷ batch) zero d low = refl
workers_more (e ∷ batch) (suc i) d low =
    let next : suc (i + 1) ≡ suc i + 1 = omega arith in
    ap (λ l. e.worker ∷ l) (workers_more batch i d (omega (arith, low))) ∙ ap (λ k. take k (workers_in (e ∷ batch))) next

-- a batch has not many entries
pub answers_few : {B : Type 0} (t : CoreTable B) (before : List (List Entry)) (batch : List Entry) (i : ℕ) (p : Pass) → Answers t before batch i p → length batch ≤ 20000
answers_few t before batch i p a =
    let s = a.answered.published in
    let many = sym (length-map batch call_in) ∙ length_same a.h.taken (calls_in batch) s.service.same in
    let most = s.may.most in
    omega (arith, many, most)

module _ {B : Type 0} (t : CoreTable B) (before : List (List Entry)) (batch : List Entry) (i : ℕ) (d : Entry) (p : Pass) (a : Answers t before batch i p) where
  -- what an answer needs of the hold
  abbrev Due : ℕ → Type 0
  Due number = (call : OpRecord) × (a.h.published ≡ true) × (record_in a.h.taken (get_or batch i d).worker ≡ Some call)
      × (among a.h.answered (get_or batch i d).worker ≡ false) × IsReceipt (place_of a.h.book call.leaf) (record { batch = number; place = i; reply = (get_or batch i d).reply })

  due_now : (number : ℕ) → i < length batch → length before ≡ number → Due number
  due_now number low is =
      serving.answer_due a.h before batch number i (get_or batch i d) a.answered.published (sym is) a.answered.answered (slice_get-get_or batch i d low)

  -- an answer
  pub answer_due : (number : ℕ) → i < length batch → length before ≡ number
      → (h : HoldView) × (call : OpRecord) × ((pass_view p).hold ≡ Some h) × (h.published ≡ true) × (record_in h.taken (get_or batch i d).worker ≡ Some call)
      × (among h.answered (get_or batch i d).worker ≡ false) × IsReceipt (place_of h.book call.leaf) (record { batch = number; place = i; reply = (get_or batch i d).reply })
  answer_due number low is = let r = due_now number low is in (a.h, r.0, a.hold, r.1, r.2, r.3, r.4)

  pub one_answered : (receipt : Receipt) (q : Pass) → IsPassOf t q → i < length batch → view q ≡ with_step (answering (get_or batch i d).worker receipt) (view p)
      → Answers t before batch (i + 1) q
  one_answered receipt q own low now =
      let w = (get_or batch i d).worker in
      record {
        own = own;
        h = after_answer w a.h;
        hold = ap (λ (v : View). v.own.hold) now ∙ ap (in_hold (after_answer w)) a.hold;
        answered = record {
          looks = a.answered.looks;
          published = record {
            published = a.answered.published.published;
            book = a.answered.published.book;
            may = a.answered.published.may;
            service = a.answered.published.service;
          };
          answered = ap (λ l. l ++ w ∷ []) a.answered.answered ∙ workers_more batch i d low;
        };
      }

pub all_answered : {B : Type 0} (t : CoreTable B) (before : List (List Entry)) (batch : List Entry) (p : Pass) → Answers t before batch (length batch) p
    → (h : HoldView) × ((pass_view p).hold ≡ Some h) × IsReleaseDue (job_in t).workers h × (before ++ batch ∷ [] ≡ h.book)
all_answered t before batch p a =
    let long = length-map batch (λ (e : Entry). e.worker) in
    let all = a.answered.answered ∙ take_all (length batch) (workers_in batch) (omega (arith, long)) in (
      a.h,
      a.hold,
      serving.release_due (job_in t).workers a.h a.answered.looks (inr (before, batch, record { published = a.answered.published; answered = all })),
      sym a.answered.published.book,
    )
