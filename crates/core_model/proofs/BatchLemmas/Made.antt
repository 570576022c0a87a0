-- The entries of the calls that were taken, once served, make the batch that is to be published.
use Rattle.std.proofs.Common.{ℕ, ◌≡◌, ◌≢◌, ◌<◌, Bool, true, false, Some, List, [], ◌∷◌, map, arith, refl, ◌∙◌, ap}
use Rattle.std.specs.Prelude.{Contains}
use Rattle.std.specs.List.{AllByRecursion}
use Rattle.std.proofs.lemmas.Simd.{map-map}
use Rattle.seq_objects.specs.BatchOrder.{ComesFirst}
use Rattle.seq_objects.specs.Batches.{AreInBatchOrder}
use Rattle.seq_objects.specs.declared.call.Call.{Call}
use Rattle.core_model.proofs.Words.{Entry, Task, Status, Executing, CallState, CoreJob, Hold, State}
use Rattle.batch_history.specs.Book.{IsLegalFrom}
use Rattle.core_model.specs.Events.{has_taken, IsTakenCall, IsBatchOf}
use Rattle.core_model.specs.Invariant.Statuses.{IsAtCall, is_taken_by}
use Rattle.core_model.specs.Invariant.Hold.{HoldInvariant}
use Rattle.core_model.proofs.Inductive.Book.{StatusFits}
use Rattle.core_model.proofs.Inductive.Parts.{InductiveParts}
use Rattle.batch_history.specs.Serving.{call_in, calls_in}
use Rattle.core_model.specs.Batches.{IsCallOf, AreTakenCalls}
use Rattle.seq_objects.proofs.Elements.{each_so, each_unmapped, pairs_unmapped}
use Rattle.core_model.proofs.InvariantLemmas.BatchFacts.{executing}

-- a list that contains something is not empty
some_in : {A B : Type 0} (f : A → B) (xs : List A) (b : B) → Contains (map f xs) b → xs ≢ []
some_in f [] b c e = absurd (omega (arith, c.1))
some_in f (x ∷ xs) b c e = cc

-- a worker with status executing is at a call
executing_at_call : (job : CoreJob) (book : List (List Entry)) (task : Task) (status : Status) (call : CallState) (taken : Bool)
    → StatusFits job book task status call taken → status ≡ Executing → IsAtCall job task
executing_at_call job book task status call taken fits is = grind arith

module _ (job : CoreJob) (s : State) (hd : Hold) (h : InductiveParts job s) (there : s.hold ≡ Some hd) where
  hold_stands : HoldInvariant job.workers s.status s.call (Some hd)
  hold_stands = rw there at h.hold

  -- the workers that are taken are among those that there are
  pub taken_below : (w : ℕ) → hd.taken w ≡ true → w < job.workers
  taken_below w took = let looked = hold_stands.2 w took in omega (arith, looked, hold_stands.1)

  -- a worker that is taken is at a call, until the batch is published
  pub taken_at_call : hd.published ≡ false → (w : ℕ) → hd.taken w ≡ true → IsAtCall job (s.task w)
  taken_at_call unpublished w took =
      let fits : StatusFits job s.book (s.task w) (s.status w) (s.call w) (is_taken_by (Some hd) w) = rw there at (h.statuses w) in
      executing_at_call job s.book (s.task w) (s.status w) (s.call w) (is_taken_by (Some hd) w) fits (executing job s hd w there unpublished hold_stands fits took)

  -- until then no worker is answered
  pub owed_before : hd.published ≡ false → (w : ℕ) → hd.taken w ≡ true → is_taken_by s.hold w ≡ true
  owed_before unpublished w took =
      let answered : hd.answered w ≡ false = grind (arith, hold_stands.6 w) in
      let owed : is_taken_by (Some hd) w ≡ true = rw (took, answered) refl in rw there owed

  module _ (entries : List Entry) (taken : AreTakenCalls job s.book s.task hd.taken (calls_in entries)) where
    workers_same : map (λ (call : Call). call.worker) (calls_in entries) ≡ map (λ (e : Entry). e.worker) entries
    workers_same = map-map (λ (call : Call). call.worker) call_in entries

    each_taken : (w : ℕ) → hd.taken w ≡ true → Contains (map (λ (e : Entry). e.worker) entries) w
    each_taken w took = rw workers_same at (taken.each w (taken_below w took) took)

    taken_call : (e : Entry) → (hd.taken e.worker ≡ true) × IsCallOf job s.book (s.task e.worker) (call_in e) → IsTakenCall job s e
    taken_call e is = record {
      taken = ap (λ o. has_taken o e.worker) there ∙ is.0;
      node = is.1.0;
      started = (is.1.2, is.1.1, is.1.3);
      operation = is.1.4;
    }

    pub only_taken : AllByRecursion (IsTakenCall job s) entries
    only_taken = each_so (λ (e : Entry). (hd.taken e.worker ≡ true) × IsCallOf job s.book (s.task e.worker) (call_in e)) (IsTakenCall job s) taken_call entries
        (each_unmapped call_in (λ (call : Call). (hd.taken call.worker ≡ true) × IsCallOf job s.book (s.task call.worker) call) entries taken.only)

    made : (u : ℕ) × (hd.taken u ≡ true) → AreInBatchOrder (calls_in entries) → IsLegalFrom s.objects entries → IsBatchOf job s entries
    made some order legal = record {
      is_batch = record {
        some = some_in (λ (e : Entry). e.worker) entries some.0 (each_taken some.0 some.1);
        order = pairs_unmapped call_in (λ (a b : Call). ComesFirst a.op a.worker b.op b.worker) entries order;
        workers = rw workers_same at taken.distinct;
      };
      only = only_taken;
      each = λ w took. each_taken w (rw there at took);
      replies = legal;
    }

  -- the entries of the calls that were taken make a batch, where they are in batch order
  pub batch_made : (entries : List Entry) → (u : ℕ) × (hd.taken u ≡ true) → AreTakenCalls job s.book s.task hd.taken (calls_in entries)
      → AreInBatchOrder (calls_in entries) → IsLegalFrom s.objects entries → IsBatchOf job s entries
  batch_made entries some taken order legal = made entries taken some order legal
