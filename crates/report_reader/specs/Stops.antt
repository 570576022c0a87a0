-- The line at which a text stops being that of a report: the first that cannot stand behind those before it. It is said
-- of single lines, whatever the names of objects are.
use Rattle.std.specs.Prelude.{◌≡◌, ◌≢◌, ℕ, suc, ◌+◌, ◌<◌, ◌≤◌, ◌^◌, Bool, false, ◌&&◌, ◌||◌, ◌==◌, IsTrue, List, [], ◌++◌, length}
use Rattle.limits.specs.declared.TheConstants.{MOST_WORKERS}
use Rattle.seq_objects.specs.Objects.{number_of}
use Rattle.job_names.specs.Names.{AreSpelled}
use Rattle.batch_history.specs.Text.{head_line, entry_line, row_line}
use Rattle.batch_history.specs.declared.batch.Entry.{Entry}
use Rattle.batch_history.specs.declared.row.Row.{Row}
use Rattle.report_reader.specs.Raw.{FitsEntry, FitsRow}
use Rattle.report_reader.specs.declared.stop.Before.{Before}
use Rattle.report_reader.specs.declared.stop.Before.TheVariants as before

-- whether the call with these numbers of its batch and its place may stand behind this line: it is the first of all, or
-- the next of the batch of the call before it, or the first of the next batch
abbrev pub may_follow : Before → ℕ → ℕ → Bool
may_follow before.Head batch place = (batch == 0) && (place == 0)
may_follow (before.Call last number) batch place = ((batch == last) && (place == number + 1)) || ((batch == last + 1) && (place == 0))
may_follow before.Row batch place = false

-- the text is the line of a call with these numbers, and then the rest
pub record IsCallLine (text : List ℕ) (batch place : ℕ) (rest : List ℕ) : Type 0 where
  pub names : List (List ℕ)
  pub entry : Entry
  pub written : entry_line names batch place entry ++ rest ≡ text
  pub batch_fits : batch < 2 ^ 64
  pub place_fits : place < 2 ^ 64
  pub fits : FitsEntry entry
  pub named : number_of entry.op ≤ length names
  pub spelled : AreSpelled names

-- the text is the line of a row, and then the rest
pub record IsRowLine (text rest : List ℕ) : Type 0 where
  pub row : Row
  pub written : row_line row ++ rest ≡ text
  pub fits : FitsRow row

-- the text begins with the line `next`, which may stand behind the line `last`, and then comes the rest
abbrev pub Follows : Before → List ℕ → Before → List ℕ → Type 0
Follows last text before.Head rest = ⊥
Follows last text (before.Call batch place) rest = IsTrue (may_follow last batch place) × IsCallLine text batch place rest
Follows last text before.Row rest = IsRowLine text rest

-- The text behind a head line begins with this many lines, each of which may stand behind the one before it, and then
-- comes the rest.
pub data AreLines (text : List ℕ) : ℕ → Before → List ℕ → Type 0 where
  no_lines : AreLines text 0 before.Head text
  one_more : {count : ℕ} {last next : Before} {left rest : List ℕ} → AreLines text count last left
      → Follows last left next rest → AreLines text (suc count) next rest

-- these are all such lines at the front of the text: the rest does not begin with one more
pub record HasLines (text : List ℕ) (count : ℕ) (rest : List ℕ) : Type 0 where
  pub last : Before
  pub are : AreLines text count last rest
  pub ends : (next : Before) (left : List ℕ) → Follows last rest next left → ⊥

-- the text is a head line with at least one worker and no more than the most, and then the rest
pub record HasHead (text rest : List ℕ) : Type 0 where
  pub workers : ℕ
  pub leaves : ℕ
  pub calls : ℕ
  pub batches : ℕ
  pub written : head_line workers leaves calls batches ++ rest ≡ text
  pub some : 1 ≤ workers
  pub few : workers ≤ MOST_WORKERS
  pub leaves_fit : leaves < 2 ^ 64
  pub calls_fit : calls < 2 ^ 64
  pub batches_fit : batches < 2 ^ 64

-- Where no report has the text, this is the number of its first line that is none of a report's behind those before it.
-- Where each line is one, the head line has other counts, and it is the first.
pub data StopsAt (text : List ℕ) : ℕ → Type 0 where
  no_head : ((rest : List ℕ) → HasHead text rest → ⊥) → StopsAt text 1
  no_line : {behind left : List ℕ} {count : ℕ} → HasHead text behind → HasLines behind count left → left ≢ [] → StopsAt text (count + 2)
  other_counts : {behind : List ℕ} {count : ℕ} → HasHead text behind → HasLines behind count [] → StopsAt text 1
