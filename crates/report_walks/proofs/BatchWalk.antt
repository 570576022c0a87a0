-- Batches by neighbours: the batch order is transitive, and the workers of a batch are distinct where the leaves of one
-- worker do not overlap and the ticks are kept.
use Rattle.std.proofs.Common.{◌≡◌, ◌≢◌, ℕ, zero, suc, ◌+◌, ◌<◌, ◌≤◌, inl, inr, true, false, ◌==◌, List, [], ◌∷◌, length, get_or, map, drop, Some, sym, ap, ◌∙◌, arith}
use Rattle.std.specs.Prelude.{slice_get, Contains}
use Rattle.std.specs.Option.{ForSome}
use Rattle.std.specs.List.{AllByRecursion}
use Rattle.std.proofs.lemmas.List.{length-drop, map-append, get_or_default}
use Rattle.std.proofs.lemmas.List.Elements.{All-from_recursion, recursion_from_All}
use Rattle.std.proofs.lemmas.Option.{slice_get-get_or}
use Rattle.seq_objects.specs.BatchOrder.{ComesFirst}
use Rattle.seq_objects.specs.Pairs.{AllPairsByRecursion, AreDistinct}
use Rattle.seq_objects.proofs.CallOrder.{first_through}
use Rattle.seq_objects.proofs.Elements.{each_so, each_at, distinct_front, distinct_back}
use Rattle.sp_order.specs.Jobs.{JobValue, IsJob}
use Rattle.sp_order.specs.Sources.{IsCallLeaf}
use Rattle.batch_history.specs.Book.{flat, IsBatch}
use Rattle.batch_history.specs.Lawful.{HasRows, KeepsOrder, HasCalls, KeepsTicks, IsInBatch}
use Rattle.batch_history.specs.declared.batch.Entry.{Entry}
use Rattle.batch_history.specs.declared.report.Report.{Report}
use Rattle.batch_history.specs.declared.row.Row.{Row}
use Rattle.report_walks.specs.Code.Neighbours.{ComesBeforeFirst, AreNeighbours, AreInOrder}
use Rattle.report_walks.proofs.CallWalk.{call_within, each_of_mapped}
use Rattle.report_walks.proofs.RowWalk.{rows_long}
use Rattle.report_walks.proofs.Walks.{no_row}
use Rattle.batch_history.proofs.BookLemmas.Books.{each_in_batch}

-- a list of one entry at most is in order
short : (entries : List Entry) → length entries ≤ 1 → AreNeighbours entries
short [] few = tt
short (entry ∷ []) few = (tt, tt)
short (entry ∷ next ∷ entries) few = absurd (omega (arith, few))

pub last_neighbours : (entries : List Entry) (place : ℕ) → length entries ≤ place + 1 → AreNeighbours (drop place entries)
last_neighbours entries place far = short (drop place entries) (omega (arith, far, length-drop place entries))

pub some_entries : (entries : List Entry) → (length entries == 0) ≡ false → entries ≢ []
some_entries entries some empty = let none : (length entries == 0) ≡ true = ap (λ (es : List Entry). length es == 0) empty in let wrong : true ≡ false = sym none ∙ some in cc (wrong)

-- what comes before the first of a list in order comes before all of it
abbrev IsFirst : Entry → Entry → Type 0
IsFirst first second = ComesFirst first.op first.worker second.op second.worker

before_next : (entry next : Entry) (entries : List Entry) → IsFirst entry next → ComesBeforeFirst next entries → ComesBeforeFirst entry entries
before_next entry next [] first more = tt
before_next entry next (later ∷ entries) first more = first_through entry.op next.op later.op entry.worker next.worker later.worker first more

before_all : (entry : Entry) (entries : List Entry) → ComesBeforeFirst entry entries → AreNeighbours entries → AllByRecursion (IsFirst entry) entries
before_all entry [] first more = tt
before_all entry (next ∷ entries) first more = (first, before_all entry entries (before_next entry next entries first more.0) more.1)

pairs_of_neighbours : (entries : List Entry) → AreNeighbours entries → AllPairsByRecursion IsFirst entries
pairs_of_neighbours [] more = tt
pairs_of_neighbours (entry ∷ entries) more = (before_all entry entries more.0 more.1, pairs_of_neighbours entries more.1)

first_of_all : (entry : Entry) (entries : List Entry) → AllByRecursion (IsFirst entry) entries → ComesBeforeFirst entry entries
first_of_all entry [] all = tt
first_of_all entry (next ∷ entries) all = all.0

neighbours_of_pairs : (entries : List Entry) → AllPairsByRecursion IsFirst entries → AreNeighbours entries
neighbours_of_pairs [] pairs = tt
neighbours_of_pairs (entry ∷ entries) pairs = (first_of_all entry entries pairs.0, neighbours_of_pairs entries pairs.1)

contained_each : (entries : List Entry) → AllByRecursion (Contains entries) entries
contained_each entries = recursion_from_All (Contains entries) entries (λ k d low. (k, low, get_or_default entries k (get_or entries k d) d low))

-- the leaves of one batch are distinct where those of the book are
batch_distinct : (book : List (List Entry)) (k : ℕ) (d : List Entry) → k < length book → AreDistinct (map (λ (e : Entry). e.leaf) (flat book)) → AreDistinct (map (λ (e : Entry). e.leaf) (get_or book k d))
batch_distinct [] k d low distinct = absurd (omega (arith, low))
batch_distinct (batch ∷ book) zero d low distinct = distinct_front (map (λ (e : Entry). e.leaf) batch) (map (λ (e : Entry). e.leaf) (flat book)) (rw map-append at distinct)
batch_distinct (batch ∷ book) (suc k) d low distinct =
    batch_distinct book k d (omega (arith, low)) (distinct_back (map (λ (e : Entry). e.leaf) batch) (map (λ (e : Entry). e.leaf) (flat book)) (rw map-append at distinct))

module _ (job : JobValue) (report : Report) (is_job : IsJob job) (rows : HasRows job report.workers report) (order : KeepsOrder job report) (calls : HasCalls job report) (ticks : KeepsTicks report) where
  long : length report.rows ≡ length job.acts
  long = rows_long job report.workers report rows ∙ is_job.leaves

  -- the batch with this number
  module _ (number : ℕ) (d : List Entry) (low : number < length report.history) where
    abbrev batch : List Entry
    batch = get_or report.history number d

    stands : (entry : Entry) → Contains batch entry → IsInBatch report number entry
    stands entry has = rw (slice_get-get_or report.history number d low) has

    within : (entry : Entry) → Contains batch entry → entry.leaf < length report.rows
    within entry has =
        let calling : IsCallLeaf job.acts entry.leaf = each_at (λ (e : Entry). IsCallLeaf job.acts e.leaf) batch entry (each_in_batch (λ (e : Entry). IsCallLeaf job.acts e.leaf) report.history number d low (each_of_mapped (IsCallLeaf job.acts) (flat report.history) calls.leaves.only)) has in
        omega (arith, long, call_within job.acts entry.leaf calling)

    worker_of : (entry : Entry) (row : Row) → Contains batch entry → slice_get report.rows entry.leaf ≡ Some row → row.worker ≡ entry.worker
    worker_of entry row has is = each_at (λ (e : Entry). ForSome (slice_get report.rows e.leaf) (λ row. row.worker ≡ e.worker)) batch entry (each_in_batch (λ (e : Entry). ForSome (slice_get report.rows e.leaf) (λ row. row.worker ≡ e.worker)) report.history number d low calls.workers) has row is

    -- two calls of one worker in one batch have one leaf
    apart : (a b : Entry) → Contains batch a → Contains batch b → a.leaf ≢ b.leaf → a.worker ≢ b.worker
    apart a b has_a has_b different same =
        let row_a : slice_get report.rows a.leaf ≡ Some (get_or report.rows a.leaf no_row) = slice_get-get_or report.rows a.leaf no_row (within a has_a) in
        let row_b : slice_get report.rows b.leaf ≡ Some (get_or report.rows b.leaf no_row) = slice_get-get_or report.rows b.leaf no_row (within b has_b) in
        let one : (get_or report.rows a.leaf no_row).worker ≡ (get_or report.rows b.leaf no_row).worker = worker_of a (get_or report.rows a.leaf no_row) has_a row_a ∙ same ∙ sym (worker_of b (get_or report.rows b.leaf no_row) has_b row_b) in
        elim (order.alone a.leaf b.leaf different (get_or report.rows a.leaf no_row) row_a (get_or report.rows b.leaf no_row) row_b one) [
          | inl first ↦ (let wrong : number < number = ticks number number a b (stands a has_a) (stands b has_b) (get_or report.rows a.leaf no_row) row_a (get_or report.rows b.leaf no_row) row_b first in omega (arith, wrong))
          | inr first ↦ (let wrong : number < number = ticks number number b a (stands b has_b) (stands a has_a) (get_or report.rows b.leaf no_row) row_b (get_or report.rows a.leaf no_row) row_a first in omega (arith, wrong))
        ]

    other_workers : (a : Entry) → Contains batch a → (entries : List Entry) → AllByRecursion (Contains batch) entries → AllByRecursion (λ l. a.leaf ≢ l) (map (λ (e : Entry). e.leaf) entries)
        → AllByRecursion (λ w. a.worker ≢ w) (map (λ (e : Entry). e.worker) entries)
    other_workers a has [] all leaves = tt
    other_workers a has (entry ∷ entries) all leaves = (apart a entry has all.0 leaves.0, other_workers a has entries all.1 leaves.1)

    distinct_workers : (entries : List Entry) → AllByRecursion (Contains batch) entries → AreDistinct (map (λ (e : Entry). e.leaf) entries) → AreDistinct (map (λ (e : Entry). e.worker) entries)
    distinct_workers [] all leaves = tt
    distinct_workers (entry ∷ entries) all leaves = (other_workers entry all.0 entries all.1 leaves.0, distinct_workers entries all.1 leaves.1)

    batch_of_order : AreInOrder batch → IsBatch batch
    batch_of_order is = record {
      some = is.some;
      order = pairs_of_neighbours batch is.neighbours;
      workers = distinct_workers batch (contained_each batch) (batch_distinct report.history number d low calls.leaves.distinct);
    }

  pub batches_of_order : AllByRecursion AreInOrder report.history → AllByRecursion IsBatch report.history
  batches_of_order all = recursion_from_All IsBatch report.history (λ number d low. batch_of_order number d low (All-from_recursion AreInOrder report.history all number d low))

pub order_of_batches : (book : List (List Entry)) → AllByRecursion IsBatch book → AllByRecursion AreInOrder book
order_of_batches book all = each_so IsBatch AreInOrder (λ batch is. record { some = is.some; neighbours = neighbours_of_pairs batch is.order }) book all
