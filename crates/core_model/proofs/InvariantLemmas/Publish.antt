-- Publishing keeps the inductive invariant.
use Rattle.std.proofs.Common.{ℕ, ◌≡◌, ◌≢◌, ◌<◌, true, false, Option, Some, None, List, [], ◌∷◌, ◌++◌, length, map, arith, refl, inl, inr, subst, sym, ◌∙◌, ap}
use Rattle.std.proofs.lemmas.List.{map-append}
use Rattle.std.specs.List.{AllByRecursion}
use Rattle.core_model.proofs.Words.{LeafNode, IsPlan, Entry, Progress, Taken, Task, Started, Status, Executing, CallState, Out, Publish, CoreJob, Hold, State, names}
use Rattle.seq_objects.specs.Stores.{opening_store}
use Rattle.seq_objects.specs.Pairs.{AreDistinct}
use Rattle.batch_history.specs.Book.{flat, IsBatch}
use Rattle.core_model.specs.Operations.{leaf_of, op_of, Place, place_in, place_of}
use Rattle.core_model.specs.Serving.{served}
use Rattle.core_model.specs.Invariant.Tasks.{TaskFits}
use Rattle.core_model.specs.Events.{has_taken, Needs, published, IsTakenCall, IsBatchOf}
use Rattle.core_model.specs.Invariant.Statuses.{is_taken_by}
use Rattle.core_model.specs.Invariant.Hold.{is_published, HoldInvariant}
use Rattle.core_model.proofs.Inductive.Nodes.{HoldersFit}
use Rattle.core_model.proofs.Inductive.Book.{StatusFits, booked_by, worker_at}
use Rattle.core_model.proofs.Inductive.Parts.{InductiveParts}
use Rattle.batch_history.proofs.BookLemmas.EntryLists.{apart_by, distinct_leaves}
use Rattle.batch_history.proofs.BookLemmas.Books.{which_place, place_append, place_in_batch, found_entry, each_found, each_in_book, flat_append, served_append, legal_append}
use Rattle.core_model.proofs.BookLemmas.Operations.{op_kept, value_kept, is_call}
use Rattle.core_model.proofs.InvariantLemmas.BatchFacts.{started_at, BatchFits, status_kept, taken_same, hold_kept, earlier_append, booked_published, entry_kept, executing, took_it, new_entry, source_kept, has_place, ended_booked, batch_node, batch_each}
use Rattle.seq_objects.proofs.Elements.{each_append, each_so, each_both, each_mapped, each_at, distinct_append}

-- two taken calls of one leaf have one worker
pub one_worker : (job : CoreJob) (s : State) (holder : ℕ → Option ℕ) → IsPlan job.plan → HoldersFit s.task holder
    → (a b : Entry) → IsTakenCall job s a → IsTakenCall job s b → a.leaf ≡ b.leaf → a.worker ≡ b.worker
one_worker job s holder laws holders a b p q same =
    let at_a : p.node ≡ job.plan.node_of a.leaf = laws.one_node p.node a.leaf p.started.0 in
    let at_b : q.node ≡ job.plan.node_of b.leaf = laws.one_node q.node b.leaf q.started.0 in
    let held_a : holder p.node ≡ Some a.worker = holders.named a.worker p.node (ap names p.started.2) in
    let held_b : holder q.node ≡ Some b.worker = holders.named b.worker q.node (ap names q.started.2) in
    cc

-- the worker is that of a taken call, whose leaf is found in the batch
abbrev IsFound : CoreJob → State → List Entry → ℕ → Type 0
IsFound job s b w = (e : Entry) × (e.worker ≡ w) × IsTakenCall job s e × (place_in (length s.book) 0 b e.leaf ≢ None)

-- a worker whose call is taken is so
is_found : (job : CoreJob) (s : State) (b : List Entry) (w : ℕ) → IsBatchOf job s b → has_taken s.hold w ≡ true → IsFound job s b w
is_found job s b w batch took =
    each_at (IsFound job s b) (map (λ (e : Entry). e.worker) b) w
    (each_mapped (λ (e : Entry). e.worker) (λ (e : Entry). IsTakenCall job s e × (place_in (length s.book) 0 b e.leaf ≢ None)) (IsFound job s b)
    (λ e h. (e, refl, h.0, h.1)) b
    (each_both (IsTakenCall job s) (λ (e : Entry). place_in (length s.book) 0 b e.leaf ≢ None) b batch.only (each_found (length s.book) 0 b)))
    (batch.each w took)

-- a worker whose call is taken has its entry in the batch
has_entry : (job : CoreJob) (s : State) (holder : ℕ → Option ℕ) (b : List Entry) (w n : ℕ) → IsPlan job.plan → HoldersFit s.task holder → IsBatchOf job s b
    → has_taken s.hold w ≡ true → started_at (s.task w) ≡ Some n → worker_at (place_in (length s.book) 0 b (leaf_of (job.plan.kind n))) ≡ Some w
has_entry job s holder b w n laws holders batch took at =
    let found : IsFound job s b w = is_found job s b w batch took in
    let call : IsTakenCall job s found.0 = found.2 in
    let there : started_at (s.task w) ≡ Some call.node = ap (λ v. started_at (s.task v)) (sym found.1) ∙ ap started_at call.started.2 in
    let node : call.node ≡ n = cc in
    let kind : job.plan.kind n ≡ Some (LeafNode found.0.leaf) = ap job.plan.kind (sym node) ∙ call.started.0 in
    rw kind
    (elim (place_in (length s.book) 0 b found.0.leaf) as (λ o. place_in (length s.book) 0 b found.0.leaf ≡ o → worker_at (place_in (length s.book) 0 b found.0.leaf) ≡ Some w) [
      | None ↦ λ e. absurd (found.3 e)
      | Some p ↦ λ e.
          let other = found_entry (IsTakenCall job s) (length s.book) 0 b found.0.leaf p batch.only e in
          ap worker_at e ∙ ap Some (one_worker job s holder laws holders p.entry found.0 other.0 call other.1 ∙ found.1)
    ] refl)

-- the batch fits the tasks
batch_fits : (job : CoreJob) (s : State) (hd : Hold) (holder : ℕ → Option ℕ) (b : List Entry) → IsPlan job.plan → HoldersFit s.task holder → s.hold ≡ Some hd → IsBatchOf job s b → BatchFits job s hd.taken b
batch_fits job s hd holder b laws holders there batch = record {
  taken = λ u p e. rw there at ((found_entry (IsTakenCall job s) (length s.book) 0 b u p batch.only e).0.taken);
  started = λ u p e.
      let found = found_entry (IsTakenCall job s) (length s.book) 0 b u p batch.only e in
      ap started_at found.0.started.2 ∙ ap Some (laws.one_node found.0.node p.entry.leaf found.0.started.0 ∙ ap job.plan.node_of found.1);
  operation = λ u p e.
      let found = found_entry (IsTakenCall job s) (length s.book) 0 b u p batch.only e in
      subst (λ l. op_of job s.book l ≡ Some p.entry.op) found.1 found.0.operation;
  each = λ w n took at. has_entry job s holder b w n laws holders batch (rw there took) at;
}

-- a lookup without a worker found no entry
pub no_entry : (p : Option Place) → worker_at p ≡ None → p ≡ None
no_entry None e = refl
no_entry (Some p) e = cc

-- a worker that is executing is not booked before its call is published
pub not_booked : (x : Progress) (o : Option ℕ) (task : ℕ → Task) (status : ℕ → Status) (call : ℕ → CallState) (w n t : ℕ)
    → x ≡ Taken → o ≡ Some w → task w ≡ Started n t → status w ≡ Executing → call w ≡ Out → booked_by x o task status call false ≡ None
not_booked x o task status call w n t taken held started executing out = grind arith

-- a taken call is not in the book before it is published
pub not_in_book : (job : CoreJob) (s : State) (hd : Hold) (e : Entry) (h : InductiveParts job s) → s.hold ≡ Some hd → hd.published ≡ false → IsTakenCall job s e → place_of s.book e.leaf ≡ None
not_in_book job s hd e h there unpublished call =
    let rows : StatusFits job s.book (s.task e.worker) (s.status e.worker) (s.call e.worker) (is_taken_by (Some hd) e.worker) = rw there at (h.statuses e.worker) in
    let ex : s.status e.worker ≡ Executing = executing job s hd e.worker there unpublished (rw there at h.hold) rows (rw there at call.taken) in
    let fits : TaskFits job.plan s.node s.mark (Started call.node call.started.1) = rw call.started.2 at (h.tasks.fits e.worker) in
    let held : h.holder call.node ≡ Some e.worker = h.tasks.holders.named e.worker call.node (ap names call.started.2) in
    no_entry (place_of s.book e.leaf)
    (rw unpublished at (rw there at (h.booked call.node e.leaf call.started.0 (is_call job s.book e.leaf e.op call.operation)))
    ∙ not_booked (s.node call.node) (h.holder call.node) s.task s.status s.call e.worker call.node call.started.1 fits.1 held call.started.2 ex (took_it job s hd e.worker rows ex).1)

-- the leaves of the book stay distinct
pub leaves_apart : (job : CoreJob) (s : State) (hd : Hold) (b : List Entry) (h : InductiveParts job s) → IsPlan job.plan → s.hold ≡ Some hd → hd.published ≡ false
    → AllByRecursion (IsTakenCall job s) b → AreDistinct (map (λ (e : Entry). e.worker) b) → AreDistinct (map (λ (e : Entry). e.leaf) (flat (s.book ++ b ∷ [])))
leaves_apart job s hd b h laws there unpublished only workers =
    rw (flat_append s.book b, map-append)
    (distinct_append (map (λ (e : Entry). e.leaf) (flat s.book)) (map (λ (e : Entry). e.leaf) b) h.book.leaves
    (distinct_leaves (IsTakenCall job s) (one_worker job s h.holder laws h.tasks.holders) b only workers)
    (apart_by (λ l. place_of s.book l ≢ None) (map (λ (e : Entry). e.leaf) (flat s.book)) (map (λ (e : Entry). e.leaf) b)
    (each_mapped (λ (e : Entry). e.leaf) (λ (e : Entry). place_of s.book e.leaf ≢ None) (λ l. place_of s.book l ≢ None) (λ e p. p) (flat s.book) (each_in_book s.book))
    (each_mapped (λ (e : Entry). e.leaf) (IsTakenCall job s) (λ l. (place_of s.book l ≢ None) → ⊥) (λ e p there'. there' (not_in_book job s hd e h there unpublished p)) b only)))

-- the inductive invariant, after a batch is published
pub publish_keeps : (job : CoreJob) (s : State) (w : ℕ) (b : List Entry) → IsPlan job.plan → InductiveParts job s → Needs job s w Publish → IsBatchOf job s b
    → InductiveParts job (record s { book = s.book ++ b ∷ []; objects = served s.objects b; hold = published s.hold })
publish_keeps job s w b laws h needs batch =
    let hd : Hold = needs.0 in
    let there : s.hold ≡ Some hd = needs.1.0 in
    let unpublished : hd.published ≡ false = needs.4 in
    let hold : HoldInvariant job.workers s.status s.call (Some hd) = rw there at h.hold in
    let rows : (v : ℕ) → StatusFits job s.book (s.task v) (s.status v) (s.call v) (is_taken_by (Some hd) v) = λ v. rw there at (h.statuses v) in
    let fits : BatchFits job s hd.taken b = batch_fits job s hd h.holder b laws h.tasks.holders there batch in
    record {
      holder = h.holder;
      nodes = h.nodes;
      tasks = h.tasks;
      beyond = h.beyond;
      ticks = h.ticks;
      statuses = λ v. rw (taken_same s.hold v) (status_kept job s.book b (s.task v) (s.status v) (s.call v) (is_taken_by s.hold v) (h.statuses v));
      hold = rw there (hold_kept job s hd hold needs.2 needs.3);
      book = record {
        legal = rw (flat_append s.book b) (legal_append opening_store (flat s.book) b h.book.legal (rw h.book.objects_after at batch.replies));
        objects_after = rw (flat_append s.book b) (ap (λ o. served o b) h.book.objects_after ∙ sym (served_append opening_store (flat s.book) b));
        batches = each_append IsBatch s.book (b ∷ []) h.book.batches (batch.is_batch, tt);
        leaves = leaves_apart job s hd b h laws there unpublished batch.only batch.is_batch.workers;
        among = rw (flat_append s.book b) (each_append (λ (e : Entry). e.worker < job.workers) (flat s.book) b h.book.among
            (each_so (IsTakenCall job s) (λ (e : Entry). e.worker < job.workers) (λ e c. omega (arith, hold.2 e.worker (rw there at c.taken), needs.2)) b batch.only));
        operations = rw (flat_append s.book b) (each_append (λ (e : Entry). op_of job (s.book ++ b ∷ []) e.leaf ≡ Some e.op) (flat s.book) b
            (each_so (λ (e : Entry). op_of job s.book e.leaf ≡ Some e.op) (λ (e : Entry). op_of job (s.book ++ b ∷ []) e.leaf ≡ Some e.op) (λ e o. op_kept job s.book b e.leaf e.op o) (flat s.book) h.book.operations)
            (each_so (IsTakenCall job s) (λ (e : Entry). op_of job (s.book ++ b ∷ []) e.leaf ≡ Some e.op) (λ e c. op_kept job s.book b e.leaf e.op c.operation) b batch.only));
        entries = λ u p e. elim (which_place (place_of s.book u) (place_in (length s.book) 0 b u) p (sym (place_append s.book b u) ∙ e)) [
          | inl e ↦ entry_kept job s b u p (h.book.entries u p e)
          | inr e ↦ new_entry job s hd b u p hold needs.2 fits e
        ];
        sources = source_kept job s hd b fits h.book.sources;
        in_order = λ n m u v v' x s' t d e ln lm call i j l. rw (place_append s.book b u, place_append s.book b v)
            (earlier_append (length s.book) (place_of s.book u) (place_of s.book v) (place_in (length s.book) 0 b u) (place_in (length s.book) 0 b v)
            (h.book.in_order n m u v v' x s' t d e ln lm call i j l)
            (has_place (place_of s.book u) v' (h.booked n u ln call ∙ ended_booked s.node s.task h.holder s.status s.call (is_published s.hold) n v' s' d i))
            (λ p k. (h.book.entries u p k).2)
            (λ p k. place_in_batch (length s.book) 0 b v p k));
      };
      booked = λ n u leaf call. rw (place_append s.book b u, there) (booked_published (s.node n) (h.holder n) (place_of s.book u) (place_in (length s.book) 0 b u) s.task s.status s.call hd.taken
          (rw unpublished at (rw there at (h.booked n u leaf call)))
          (λ v e. (took_it job s hd v (rows v) e).0)
          (λ v e. executing job s hd v there unpublished hold (rows v) e)
          (λ v e. (took_it job s hd v (rows v) e).1)
          (λ y e. batch_node job s hd b h.holder n u y h.tasks fits (laws.one_node n u leaf) e)
          (λ v e took started. batch_each job s hd b h.holder n u v h.tasks fits leaf e took started));
      values = λ n u leaf k. let is = h.values n u leaf k in (is.0, is.1, value_kept job s.book b u is.0 is.2);
    }
