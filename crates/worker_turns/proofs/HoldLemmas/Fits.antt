-- A call that is taken can be served with those that were taken before.
use Rattle.std.proofs.Common.{ℕ, ◌≡◌, ◌≢◌, ◌<◌, ◌≤◌, ◌+◌, List, [], ◌∷◌, ◌++◌, length, map, arith, sym, subst, length-append}
use Rattle.limits.specs.declared.TheConstants.{MOST_WORKERS, MOST_LEAVES}
use Rattle.std.specs.List.{AllByRecursion}
use Rattle.seq_objects.specs.Pairs.{AreDistinct}
use Rattle.seq_objects.proofs.Elements.{each_append, each_so}
use Rattle.launch_batch.specs.Calls.{MayServe}
use Rattle.launch_batch.proofs.ListLemmas.Elements.{each_mapped, map_append}
use Rattle.batch_history.specs.Book.{flat}
use Rattle.table_rule.specs.declared.slot.OpRecord.{OpRecord}
use Rattle.table_rule.specs.declared.view.HoldView.{HoldView}
use Rattle.table_rule.specs.Plays.{IsNewCall}
use Rattle.table_rule.specs.Passes.{call_by, record_of, after_take, after_pass}
use Rattle.table_rule.proofs.ListLemmas.Last.{distinct_last}
use Rattle.seq_objects.specs.declared.call.Call.{Call}
use Rattle.core_model.specs.Words.{Entry}
use Rattle.worker_turns.specs.Holds.{AreFit}
use Rattle.launch_batch.proofs.ListLemmas.Among.{Among, all_among}
use Rattle.worker_turns.proofs.HoldLemmas.Taken.{worker_of, record_taken}
use Rattle.worker_turns.proofs.HoldLemmas.Books.{new_leaf}

-- what calls that may be served are, and none at all too
record AreServable (book : List (List Entry)) (calls : List Call) : Type 0 where
  workers : AreDistinct (map (λ (c : Call). c.worker) calls)
  below : AllByRecursion (λ (c : Call). c.worker < MOST_WORKERS) calls
  leaves : AreDistinct (map (λ (c : Call). c.leaf) calls)
  new : AllByRecursion (λ leaf. AllByRecursion (λ other. leaf ≢ other) (map (λ (entry : Entry). entry.leaf) (flat book))) (map (λ (c : Call). c.leaf) calls)

servable : (book : List (List Entry)) (calls : List Call) → (calls ≢ [] → MayServe book calls) → AreServable book calls
servable book [] serve = record { workers = tt; below = tt; leaves = tt; new = tt }
servable book (call ∷ calls) serve =
    let may = serve (λ e. absurd (cc)) in
    record { workers = may.workers; below = may.below; leaves = may.leaves; new = may.new }

one_more : (book : List (List Entry)) (calls : List Call) (call : Call) (looks : ℕ) → AreServable book calls → AllByRecursion (λ (c : Call). c.worker < looks) calls
    → call.worker ≡ looks → looks < MOST_WORKERS → AllByRecursion (λ (c : Call). c.leaf ≢ call.leaf) calls
    → AllByRecursion (λ other. call.leaf ≢ other) (map (λ (entry : Entry). entry.leaf) (flat book))
    → length (flat book) + length calls + 1 ≤ MOST_LEAVES → MayServe book (calls ++ call ∷ [])
one_more book calls call looks fit low is few apart new most =
    let long = length-append calls (call ∷ []) in
    let worker = λ (c : Call). c.worker in
    let leaf = λ (c : Call). c.leaf in
    record {
      some = omega (arith, long);
      workers = subst AreDistinct (sym (map_append worker calls (call ∷ [])))
          (distinct_last (map worker calls) call.worker fit.workers
          (each_mapped worker (λ (c : Call). c.worker < looks) (λ n. n ≢ call.worker) (λ c low' e. omega (arith, low', e, is)) calls low));
      below = each_append (λ (c : Call). c.worker < MOST_WORKERS) calls (call ∷ []) fit.below (omega (arith, is, few), tt);
      leaves = subst AreDistinct (sym (map_append leaf calls (call ∷ [])))
          (distinct_last (map leaf calls) call.leaf fit.leaves (each_mapped leaf (λ (c : Call). c.leaf ≢ call.leaf) (λ n. n ≢ call.leaf) (λ c ne. ne) calls apart));
      new = subst (AllByRecursion (λ n. AllByRecursion (λ other. n ≢ other) (map (λ (entry : Entry). entry.leaf) (flat book)))) (sym (map_append leaf calls (call ∷ [])))
          (each_append (λ n. AllByRecursion (λ other. n ≢ other) (map (λ (entry : Entry). entry.leaf) (flat book))) (map leaf calls) (call.leaf ∷ []) fit.new (new, tt));
      most = omega (arith, long, most);
    }

module _ (h : HoldView) (u room : ℕ) (call : OpRecord) where
  -- none of the calls that were taken before is of this leaf
  apart_from : IsNewCall room h call → AreDistinct (map worker_of h.taken) → AllByRecursion (λ (c : Call). c.leaf ≢ call.leaf) h.taken
  apart_from new distinct =
      each_so (λ (c : Call). Among c h.taken) (λ (c : Call). c.leaf ≢ call.leaf)
      (λ c there. new.apart c.worker (record_of c) (record_taken h.taken c distinct there)) h.taken (all_among h.taken)

  pub fit_taken : IsNewCall room h call → room ≤ MOST_LEAVES → u ≡ h.looks → u < MOST_WORKERS → AreFit h → AreFit (after_take (call_by u call) h)
  fit_taken new few is low fit =
      let old = servable h.book h.taken fit.serve in
      let mine = call_by u call in
      let fits = new.fits in
      record {
        below = each_append (λ (c : Call). c.worker < h.looks + 1) h.taken (mine ∷ [])
            (each_so (λ (c : Call). c.worker < h.looks) (λ (c : Call). c.worker < h.looks + 1) (λ c below. omega (arith, below)) h.taken fit.below)
            (omega (arith, is), tt);
        serve = λ some. one_more h.book h.taken mine h.looks old fit.below is (omega (arith, is, low))
            (apart_from new old.workers) (new_leaf h.book call.leaf new.unbooked) (omega (arith, fits, few));
      }

pub fit_passed : (h : HoldView) (status : ℕ) → AreFit h → AreFit (after_pass status h)
fit_passed h status fit = record {
  below = each_so (λ (c : Call). c.worker < h.looks) (λ (c : Call). c.worker < h.looks + 1) (λ c below. omega (arith, below)) h.taken fit.below;
  serve = fit.serve;
}
