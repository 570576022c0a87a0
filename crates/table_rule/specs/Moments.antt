-- The moments at which a pass looks at the table, and what it finds there.
use Rattle.std.specs.Prelude.{ℕ, ◌≡◌, ◌≤◌, length, slice_index}
use Rattle.std.specs.List.{AllByRecursion}
use mathlib.Core.Option.{some}
use lib.ListN.{get_elem?}
use Rattle.core_model.specs.State.{CoreJob}
use Rattle.table_rule.specs.declared.view.Miss.{Miss}
use Rattle.table_rule.specs.declared.view.View.{View}
use Rattle.table_rule.specs.Shows.{TableState, Shows, events_by}

-- A moment at which a pass has this view: a table that meets the rule has a seat with the view, and its trace is as long
-- as the moment says. So the moment is not before the latest event of the pass, nor before any of its misses.
pub record IsMomentOf (job : CoreJob) (room : ℕ) (v : View) (moment : ℕ) : Type 0 where
  pub table : TableState
  pub shown : Shows job room table
  pub seat : ℕ
  pub seated : get_elem? table.views seat ≡ some v
  pub long : length shown.trace ≡ moment
  pub own : events_by v.own.worker shown.trace ≡ v.own.events
  pub later : AllByRecursion (λ (miss : Miss). miss.moment ≤ moment) v.misses

-- What a pass of this view finds at a look at the word at `place`: at a moment at which it has the view, the word has
-- the number that the miss notes.
pub record IsMissAt (job : CoreJob) (room : ℕ) (v : View) (place : ℕ) (miss : Miss) : Type 0 where
  pub word : miss.word ≡ place
  pub events : miss.events ≡ length v.own.events
  pub at : IsMomentOf job room v miss.moment
  pub found : slice_index at.table.words place ≡ miss.found
