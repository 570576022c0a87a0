-- When a report is lawful for a job and a number of workers. The seven parts are rows, order, calls, replies, ticks,
-- batches and values. Only the calls and the values depend on what the leaves of work compute: `meaning` takes the
-- number of such a leaf to its value, and is `spin_of` where nothing else is said.
use Rattle.std.specs.Prelude.{◌≡◌, ◌≢◌, ℕ, ◌*◌, ◌<◌, ◌⊎◌, List, [], ◌∷◌, map, slice_get, Some, IsSomeAnd, Contains}
use Rattle.std.specs.Option.{ForSome}
use Rattle.std.specs.List.{AllByRecursion, range_with_len}
use Rattle.seq_objects.specs.Objects.{value_of}
use Rattle.seq_objects.specs.Spin.{spin_of}
use Rattle.seq_objects.specs.declared.act.Act.TheVariants.{Work}
use Rattle.sp_order.specs.Precedence.{IsBefore, leaf_count}
use Rattle.sp_order.specs.Jobs.{JobValue}
use Rattle.sp_order.specs.Sources.{IsCallLeaf}
use Rattle.seq_objects.specs.Pairs.{IsEnumerationOf}
use Rattle.batch_history.specs.Book.{flat, IsLegal, IsBatch}
use Rattle.batch_history.specs.Operations.{op_of, source_of, value_from}
use Rattle.batch_history.specs.declared.batch.Entry.{Entry}
use Rattle.batch_history.specs.declared.row.Row.{Row}
use Rattle.batch_history.specs.declared.report.Report.{Report}

-- the starts and ends of the rows, alternating
abbrev pub ticks_of : List Row → List ℕ
ticks_of [] = []
ticks_of (row ∷ rows) = row.start ∷ row.end ∷ ticks_of rows

-- The report states the number of workers and has one row for each leaf, in leaf order. The rows' workers are below
-- that number. Each row starts before it ends; the starts and ends are the numbers below twice the leaves, each once.
pub record HasRows (job : JobValue) (workers : ℕ) (report : Report) : Type 0 where
  pub names : report.workers ≡ workers
  pub leaves : map (λ row. row.leaf) report.rows ≡ range_with_len 0 (leaf_count job.shape)
  pub among : AllByRecursion (λ row. row.worker < workers) report.rows
  pub starts_first : AllByRecursion (λ row. row.start < row.end) report.rows
  pub ticks : IsEnumerationOf (λ tick. tick < 2 * leaf_count job.shape) (ticks_of report.rows)

-- `P` holds of the rows of leaves `u` and `v`
abbrev pub ForRows : Report → ℕ → ℕ → (Row → Row → Type 0) → Type 0
ForRows report u v P = ForSome (slice_get report.rows u) (λ row. ForSome (slice_get report.rows v) (λ row'. P row row'))

-- A leaf that precedes another in series-parallel order ends before the other starts. Of two leaves of one worker, one
-- ends before the other starts.
pub record KeepsOrder (job : JobValue) (report : Report) : Type 0 where
  pub before : (u v : ℕ) → IsBefore job.shape u v → ForRows report u v (λ row row'. row.end < row'.start)
  pub alone : (u v : ℕ) → u ≢ v → ForRows report u v (λ row row'. row.worker ≡ row'.worker → (row.end < row'.start) ⊎ (row'.end < row.start))

-- The book has each calling leaf exactly once, with the leaf's operation under this book and the worker of its row.
pub record HasCallsWith (meaning : ℕ → ℕ) (job : JobValue) (report : Report) : Type 0 where
  pub leaves : IsEnumerationOf (IsCallLeaf job.acts) (map (λ entry. entry.leaf) (flat report.history))
  pub operations : AllByRecursion (λ entry. op_of meaning job report.history entry.leaf ≡ Some entry.op) (flat report.history)
  pub workers : AllByRecursion (λ entry. ForSome (slice_get report.rows entry.leaf) (λ row. row.worker ≡ entry.worker)) (flat report.history)

-- the same where the leaves of work spin
abbrev pub HasCalls : JobValue → Report → Type 0
HasCalls = HasCallsWith spin_of

-- the batch with this number contains the entry
abbrev pub IsInBatch : Report → ℕ → Entry → Type 0
IsInBatch report number entry = IsSomeAnd (slice_get report.history number) (λ batch. Contains batch entry)

-- Real-time order: if one call's leaf ended before another's started, the first call is in an earlier batch.
abbrev pub KeepsTicks : Report → Type 0
KeepsTicks report =
    (b c : ℕ) (first second : Entry) → IsInBatch report b first → IsInBatch report c second
    → ForRows report first.leaf second.leaf (λ row row'. row.end < row'.start → b < c)

-- A leaf of work has the value of its work under the book, and a calling leaf that of its reply.
pub record HasValuesWith (meaning : ℕ → ℕ) (job : JobValue) (report : Report) : Type 0 where
  pub work : (leaf steps : ℕ) → slice_get job.acts leaf ≡ Some (Work steps)
      → ForSome (slice_get report.rows leaf) (λ row. value_from meaning report.history (Work steps) (source_of job leaf) leaf ≡ Some row.value)
  pub calls : AllByRecursion (λ entry. ForSome (slice_get report.rows entry.leaf) (λ row. row.value ≡ value_of entry.reply)) (flat report.history)

-- the same where they spin
abbrev pub HasValues : JobValue → Report → Type 0
HasValues = HasValuesWith spin_of

pub record LawfulWith (meaning : ℕ → ℕ) (job : JobValue) (workers : ℕ) (report : Report) : Type 0 where
  pub rows : HasRows job workers report
  pub order : KeepsOrder job report
  pub calls : HasCallsWith meaning job report
  pub replies : IsLegal report.history
  pub ticks : KeepsTicks report
  pub batches : AllByRecursion IsBatch report.history
  pub values : HasValuesWith meaning job report

-- lawful where a leaf of work spins
abbrev pub Lawful : JobValue → ℕ → Report → Type 0
Lawful = LawfulWith spin_of
