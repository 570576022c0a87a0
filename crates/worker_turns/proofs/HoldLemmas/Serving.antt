-- What the calls of a hold need on the running table, by what the turns know of the hold.
use Rattle.std.proofs.Common.{ℕ, zero, suc, ◌≡◌, ◌≢◌, ◌<◌, ◌⊎◌, true, false, Some, List, [], ◌∷◌, length, map, take, arith, refl, sym, ap, subst, inl, inr}
use Rattle.std.specs.Prelude.{Contains, slice_get}
use Rattle.std.specs.List.{AllByRecursion}
use Rattle.seq_objects.specs.BatchOrder.{ComesFirst}
use Rattle.seq_objects.specs.Pairs.{AllPairsByRecursion, AreDistinct}
use Rattle.seq_objects.proofs.Elements.{each_so, each_unmapped}
use Rattle.launch_batch.specs.Calls.{MayServe, IsServiceOf}
use Rattle.launch_batch.proofs.ListLemmas.Same.{distinct_same, length_same}
use Rattle.batch_history.specs.Book.{flat}
use Rattle.batch_history.specs.Serving.{call_in, calls_in}
use Rattle.core_model.specs.Operations.{place_of, IsReceipt}
use Rattle.table_rule.specs.declared.slot.OpRecord.{OpRecord}
use Rattle.table_rule.specs.declared.view.HoldView.{HoldView}
use Rattle.table_rule.specs.Shows.{took_in, record_in, among}
use Rattle.table_rule.specs.Batches.{call_of, IsPublishDue, IsReleaseDue}
use Rattle.seq_objects.specs.declared.call.Call.{Call}
use Rattle.core_model.specs.Words.{Entry}
use Rattle.worker_crew.specs.Words.{Receipt}
use Rattle.worker_turns.specs.Holds.{workers_in, IsPublished, TookNone, ServedAll}
use Rattle.launch_batch.proofs.ListLemmas.Among.{Among, all_among, each_among, among_same, same_among}
use Rattle.worker_turns.proofs.HoldLemmas.Taken.{worker_of, record_taken, took_taken, taken_took, among_there, not_among}
use Rattle.worker_turns.proofs.HoldLemmas.Books.{receipt_due}
use Rattle.core_model.proofs.ReportLemmas.RowLists.{each_got}

-- the workers and the leaves of entries are those of their calls
workers_same : (batch : List Entry) → map worker_of (calls_in batch) ≡ workers_in batch
workers_same [] = refl
workers_same (e ∷ batch) = ap (λ l. e.worker ∷ l) (workers_same batch)

leaves_same : (batch : List Entry) → map (λ (c : Call). c.leaf) (calls_in batch) ≡ map (λ (e : Entry). e.leaf) batch
leaves_same [] = refl
leaves_same (e ∷ batch) = ap (λ l. e.leaf ∷ l) (leaves_same batch)

-- the batch order of entries is that of their calls
order_same : (batch : List Entry) → AllPairsByRecursion (λ (a b : Call). ComesFirst a.op a.worker b.op b.worker) (calls_in batch)
    → AllPairsByRecursion (λ (a b : Entry). ComesFirst a.op a.worker b.op b.worker) batch
order_same [] h = tt
order_same (e ∷ batch) h = (each_unmapped call_in (λ (c : Call). ComesFirst e.op e.worker c.op c.worker) batch h.0, order_same batch h.1)

-- a call among those of a batch is that of one of its entries
among_workers : (batch : List Entry) (call : Call) → Among call (calls_in batch) → Among call.worker (workers_in batch)
among_workers [] call there = absurd there
among_workers (e ∷ batch) call there = elim there [
  | inl is ↦ inl (ap (λ (c : Call). c.worker) is)
  | inr later ↦ inr (among_workers batch call later)
]

some_number : (ns : List ℕ) (n : ℕ) → Among n ns → Contains ns n
some_number [] n there = absurd there
some_number (m ∷ ns) n there = elim there [
  | inl is ↦ (zero, omega arith, sym is)
  | inr later ↦ let more = some_number ns n later in (suc more.0, omega (arith, more.1), more.2)
]

-- each entry's call is among those of the batch
entry_among : (batch : List Entry) → AllByRecursion (λ (e : Entry). Among (call_in e) (calls_in batch)) batch
entry_among batch = each_unmapped call_in (λ (c : Call). Among c (calls_in batch)) batch (all_among (calls_in batch))

some_first : (calls : List Call) → 0 < length calls → (call : Call) × Among call calls
some_first [] some = absurd (omega (arith, some))
some_first (call ∷ calls) some = (call, inl refl)

not_empty : (batch : List Entry) → 0 < length (calls_in batch) → batch ≢ []
not_empty [] some e = absurd (omega (arith, some))
not_empty (x ∷ batch) some e = absurd (cc)

module _ (h : HoldView) (book : List (List Entry)) (batch : List Entry) (may : MayServe book h.taken) (service : IsServiceOf book h.taken batch) where
  batch_workers : AreDistinct (workers_in batch)
  batch_workers = subst AreDistinct (workers_same batch) (distinct_same worker_of h.taken (calls_in batch) service.same may.workers)

  batch_leaves : AreDistinct (map (λ (e : Entry). e.leaf) batch)
  batch_leaves = subst AreDistinct (leaves_same batch) (distinct_same (λ (c : Call). c.leaf) h.taken (calls_in batch) service.same may.leaves)

  -- each entry is for the call that was taken of its worker
  entry_taken : AllByRecursion (λ (e : Entry). record_in h.taken e.worker ≡ Some (call_of e)) batch
  entry_taken = each_so (λ (e : Entry). Among (call_in e) (calls_in batch)) (λ (e : Entry). record_in h.taken e.worker ≡ Some (call_of e))
      (λ e there. record_taken h.taken (call_in e) may.workers (same_among h.taken (calls_in batch) service.same (call_in e) there)) batch (entry_among batch)

  -- each worker of which a call was taken has an entry
  worker_there : (u : ℕ) → took_in h.taken u ≡ true → Among u (workers_in batch)
  worker_there u took =
      let found = took_taken h.taken u took in
      subst (λ n. Among n (workers_in batch)) found.2 (among_workers batch found.0 (among_same h.taken (calls_in batch) service.same found.0 found.1))

-- once all workers were looked at, the batch that serves the calls taken may be published
pub publish_due : (workers : ℕ) (h : HoldView) (batch : List Entry) → h.looks ≡ workers → h.published ≡ false → MayServe h.book h.taken → IsServiceOf h.book h.taken batch
    → IsPublishDue workers h batch
publish_due workers h batch looked early may service =
    let first = some_first h.taken may.some in
    let long = length_same h.taken (calls_in batch) service.same in
    let some = may.some in
    record {
      looked = looked;
      some = (first.0.worker, taken_took h.taken first.0 first.1);
      early = early;
      serves = record {
        is_batch = record {
          some = not_empty batch (omega (arith, long, some));
          order = order_same batch service.order;
          workers = batch_workers h h.book batch may service;
        };
        only = entry_taken h h.book batch may service;
        each = λ u took. some_number (workers_in batch) u (worker_there h h.book batch may service u took);
        replies = service.replies;
      };
    }

-- the number at a place is none of those before it
apart_before : (ns : List ℕ) (place n : ℕ) → AreDistinct ns → slice_get ns place ≡ Some n → AllByRecursion (λ m. m ≢ n) (take place ns)
apart_before [] place n distinct at = absurd (cc)
apart_before (m ∷ ns) zero n distinct at = tt
apart_before (m ∷ ns) (suc place) n distinct at = (each_got (λ x. m ≢ x) ns place n distinct.0 at, apart_before ns place n distinct.1 at)

get_mapped : {A B : Type 0} (f : A → B) (xs : List A) (place : ℕ) (x : A) → slice_get xs place ≡ Some x → slice_get (map f xs) place ≡ Some (f x)
get_mapped f [] place x at = absurd (cc)
get_mapped f (y ∷ xs) zero x at = let same : y ≡ x = cc in ap (λ a. Some (f a)) same
get_mapped f (y ∷ xs) (suc place) x at = get_mapped f xs place x at

-- The entry at this place of the published batch may be answered, once the workers of those before it are.
pub answer_due : (h : HoldView) (before : List (List Entry)) (batch : List Entry) (number place : ℕ) (entry : Entry) → IsPublished before batch h
    → number ≡ length before → h.answered ≡ take place (workers_in batch) → slice_get batch place ≡ Some entry
    → (call : OpRecord) × (h.published ≡ true) × (record_in h.taken entry.worker ≡ Some call) × (among h.answered entry.worker ≡ false)
    × IsReceipt (place_of h.book call.leaf) (record { batch = number; place = place; reply = entry.reply })
answer_due h before batch number place entry published numbered answered at =
    let receipt : Receipt = record { batch = number; place = place; reply = entry.reply } in
    let may = published.may in
    let service = published.service in
    let apart = apart_before (workers_in batch) place entry.worker (batch_workers h before batch may service)
    (get_mapped (λ (e : Entry). e.worker) batch place entry at) in
    let others = subst (AllByRecursion (λ m. m ≢ entry.worker)) (sym answered) apart in
    let there = same_among h.taken (calls_in batch) service.same (call_in entry)
    (each_got (λ (e : Entry). Among (call_in e) (calls_in batch)) batch place entry (entry_among batch) at) in
    let IsNew = λ (leaf : ℕ). AllByRecursion (λ other. leaf ≢ other) (map (λ (e : Entry). e.leaf) (flat before)) in
    let new = each_among (λ (c : Call). IsNew c.leaf) h.taken (call_in entry) (each_unmapped (λ (c : Call). c.leaf) IsNew h.taken may.new) there in (
      call_of entry,
      published.published,
      each_got (λ (e : Entry). record_in h.taken e.worker ≡ Some (call_of e)) batch place entry (entry_taken h before batch may service) at,
      not_among h.answered entry.worker others,
      subst (λ book. IsReceipt (place_of book entry.leaf) receipt) (sym published.book)
          (receipt_due before batch receipt entry new (batch_leaves h before batch may service) numbered at refl),
    )

-- once all workers were looked at, and all calls taken are answered, the flag may be released
pub release_due : (workers : ℕ) (h : HoldView) → h.looks ≡ workers → TookNone h ⊎ ((before : List (List Entry)) × (batch : List Entry) × ServedAll before batch h)
    → IsReleaseDue workers h
release_due workers h looked done = record {
  looked = looked;
  answered = λ u took. elim done [
    | inl none ↦ let found = took_taken h.taken u took in absurd (subst (Among found.0) none.none found.1)
    | inr served ↦
        let all = served.2 in
        among_there h.answered u (subst (Among u) (sym all.answered)
        (worker_there h served.0 served.1 all.published.may all.published.service u took))
  ];
}
