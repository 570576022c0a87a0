-- What the walks over the shape and over the ticks keep: the span of a part of a shape, and where each leaf starts.
use Rattle.std.specs.Prelude.{◌≡◌, ◌≢◌, ℕ, ◌+◌, ◌*◌, ◌<◌, ◌≤◌, ◌⊎◌, List, length, slice_get, Some, Option}
use Rattle.limits.specs.declared.TheConstants.{MOST_LEAVES, MOST_WORKERS}
use Rattle.sp_order.specs.Precedence.{Tree, leaves, IsLeafOf, IsBeforeFrom}
use Rattle.batch_history.specs.Lawful.{ForRows}
use Rattle.batch_history.specs.declared.row.Row.{Row}
use Rattle.report_walks.specs.declared.order.Span.{Span}
use Rattle.report_walks.specs.Parts.{of_rows}

-- a leaf of this part of a shape that is before another ends before the other starts
abbrev pub KeepsBefore : List Row → ℕ → Tree → Type 0
KeepsBefore rows first tree = (u v : ℕ) → IsBeforeFrom first tree u v → ForRows (of_rows rows) u v (λ row row'. row.end < row'.start)

-- of two leaves of one worker, one ends before the other starts
abbrev pub KeepsAlone : List Row → Type 0
KeepsAlone rows = (u v : ℕ) → u ≢ v → ForRows (of_rows rows) u v (λ row row'. row.worker ≡ row'.worker → (row.end < row'.start) ⊎ (row'.end < row.start))

-- the row is that of the leaf
abbrev pub IsRow : List Row → ℕ → Row → Type 0
IsRow rows leaf row = slice_get rows leaf ≡ Some row

-- the least start and the greatest end of the leaves of a part of a shape, and the number behind these leaves
pub record IsSpanOf (rows : List Row) (first : ℕ) (tree : Tree) (span : Span) : Type 0 where
  pub next : span.next ≡ first + leaves tree
  pub within : (u : ℕ) (row : Row) → IsLeafOf tree first u → IsRow rows u row → (span.least ≤ row.start) × (row.end ≤ span.greatest)
  pub least : (u : ℕ) × (row : Row) × IsLeafOf tree first u × IsRow rows u row × (row.start ≡ span.least)
  pub greatest : (u : ℕ) × (row : Row) × IsLeafOf tree first u × IsRow rows u row × (row.end ≡ span.greatest)

-- the table tells which leaf starts at each tick
pub record AreStarts (rows : List Row) (started : List (Option ℕ)) : Type 0 where
  pub each : (u : ℕ) (row : Row) → IsRow rows u row → slice_get started row.start ≡ Some (Some u)
  pub only : (tick u : ℕ) → slice_get started tick ≡ Some (Some u) → (row : Row) × IsRow rows u row × (row.start ≡ tick)

-- What right rows keep: there are no more than the most leaves, the workers are below the most workers, each row starts
-- before it ends, the ends are below twice the rows, and no two leaves start at one tick.
pub record AreTimed (rows : List Row) : Type 0 where
  pub few : length rows ≤ MOST_LEAVES
  pub workers : (u : ℕ) (row : Row) → IsRow rows u row → row.worker < MOST_WORKERS
  pub starts_first : (u : ℕ) (row : Row) → IsRow rows u row → row.start < row.end
  pub small : (u : ℕ) (row : Row) → IsRow rows u row → row.end < 2 * length rows
  pub apart : (u v : ℕ) (row row' : Row) → u ≢ v → IsRow rows u row → IsRow rows v row' → row.start ≢ row'.start
