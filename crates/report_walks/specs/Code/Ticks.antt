-- What the walk over the batches keeps of the ticks: the latest start so far.
use Rattle.std.specs.Prelude.{◌≡◌, ℕ, ◌<◌, ◌≤◌, ◌⊎◌, List, length, slice_get, Some}
use Rattle.batch_history.specs.declared.batch.Entry.{Entry}
use Rattle.batch_history.specs.declared.row.Row.{Row}

-- the row is that of the entry at a place
abbrev pub IsCallAt : List Row → List Entry → ℕ → Row → Type 0
IsCallAt rows entries place row = (entry : Entry) × (slice_get entries place ≡ Some entry) × (slice_get rows entry.leaf ≡ Some row)

-- the entries have rows
abbrev pub HaveRows : List Row → List Entry → Type 0
HaveRows rows entries = (place : ℕ) (entry : Entry) → slice_get entries place ≡ Some entry → entry.leaf < length rows

-- the greatest start of the leaves of the first `count` entries, or `from` where that is greater
pub record IsLatest (rows : List Row) (entries : List Entry) (count from latest : ℕ) : Type 0 where
  pub later : from ≤ latest
  pub above : (place : ℕ) (row : Row) → place < count → IsCallAt rows entries place row → row.start ≤ latest
  pub reached : (latest ≡ from) ⊎ ((place : ℕ) × (row : Row) × (place < count) × IsCallAt rows entries place row × (row.start ≡ latest))

-- no leaf of the first `count` entries ends before the tick
abbrev pub EndFrom : List Row → List Entry → ℕ → ℕ → Type 0
EndFrom rows entries count tick = (place : ℕ) (row : Row) → place < count → IsCallAt rows entries place row → tick ≤ row.end

-- the row is that of a call of the batch with this number
abbrev pub IsCallIn : List (List Entry) → List Row → ℕ → Row → Type 0
IsCallIn book rows number row = (entries : List Entry) × (place : ℕ) × (slice_get book number ≡ Some entries) × IsCallAt rows entries place row

-- the first `count` batches keep the ticks, and `latest` is the latest start of their calls
pub record HasKept (book : List (List Entry)) (rows : List Row) (count latest : ℕ) : Type 0 where
  pub above : (number : ℕ) (row : Row) → number < count → IsCallIn book rows number row → row.start ≤ latest
  pub reached : (latest ≡ 0) ⊎ ((number : ℕ) × (row : Row) × (number < count) × IsCallIn book rows number row × (row.start ≡ latest))
  pub keeps : (b c : ℕ) (row row' : Row) → b < count → c < count → IsCallIn book rows b row → IsCallIn book rows c row' → row.end < row'.start → b < c
