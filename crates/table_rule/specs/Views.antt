-- The view of a seat at the start of a table, and after each kind of step: what `Passes.antt` says of its pass, and
-- what the table's rule needs beside it. A step changes the view of its own seat only.
use Rattle.std.specs.Prelude.{ℕ, ◌+◌, Bool, Option as Maybe, None, Some, [], ◌∷◌, true, false}
use Rattle.sp_order.specs.Jobs.{JobValue}
use Rattle.core_model.specs.declared.setting.Setting.{Setting}
use Rattle.table_rule.specs.CoreWords.{Event}
use Rattle.table_rule.specs.declared.slot.OpRecord.{OpRecord}
use Rattle.table_rule.specs.declared.view.Miss.{Miss}
use Rattle.table_rule.specs.declared.view.PassView.{PassView}
use Rattle.table_rule.specs.declared.view.View.{View}
use Rattle.table_rule.specs.Shows.{room_of, job_of}
use Rattle.table_rule.specs.Passes.{unused, posting, stopping, counting_batches}

-- a view without any step, whose range is all workers
abbrev pub newcomer : JobValue → ℕ → ℕ → ℕ → View
newcomer job workers nodes room = record {
  own = unused 0;
  to = workers;
  workers = workers;
  nodes = nodes;
  room = room;
  job = job;
  enrolled = false;
  saw_done = false;
  root_looks = 0;
  misses = [];
  stopped_at = None;
  since_looks = 0;
  just_posted = false;
}

-- the view of a table's first seat
abbrev pub first_view : Setting → View
first_view key = newcomer key.job key.workers (job_of key).plan.count (room_of key)

-- A split of a range: the pass gets its lowest number, and the first seat keeps the rest.
abbrev pub pass_of : View → View
pass_of v = record v { to = v.own.worker + 1 }

abbrev pub rest_of : View → View
rest_of v = record v { own = record v.own { worker = v.own.worker + 1 } }

-- the first seat's view after n passes are split off
abbrev pub rest_from : ℕ → Setting → View
rest_from n setting = record (first_view setting) { own = unused n }

-- the pass takes its own record slot
abbrev pub enrolling : View → View
enrolling v = record v { enrolled = true }

-- The view after a step that is no post and does this to the pass. `with_miss` is for a refused try, or a look that did
-- not find what it was for: the view notes the miss.
abbrev pub with_step : (PassView → PassView) → View → View
with_step f v = record v { own = f v.own; just_posted = false }

abbrev pub with_miss : Miss → (PassView → PassView) → View → View
with_miss miss f v = record v { own = f v.own; misses = miss ∷ v.misses; just_posted = false }

-- after a post of this call, by this event
abbrev pub with_post : OpRecord → Event → View → View
with_post call event v = record v { own = posting call event v.own; just_posted = true }

-- After a look at the root that found it done, or not done, by this miss. It does nothing to the pass.
abbrev pub seeing_done : View → View
seeing_done v = record v { saw_done = true; root_looks = v.root_looks + 1; just_posted = false }

abbrev pub seeing_undone : Miss → View → View
seeing_undone miss v = record v { root_looks = v.root_looks + 1; misses = miss ∷ v.misses; just_posted = false }

-- After a set of the stop word at this moment. The view keeps the moment of the first set.
abbrev pub first_set : Maybe ℕ → ℕ → Maybe ℕ
first_set None moment = Some moment
first_set (Some first) moment = Some first

abbrev pub with_stop : ℕ → View → View
with_stop moment v = record v { own = stopping v.own; stopped_at = first_set v.stopped_at moment; just_posted = false }

-- the number told by the first step after a post: n if the step before was the post, else as it was
abbrev pub told_first : Bool → Maybe ℕ → ℕ → Maybe ℕ
told_first true told n = Some n
told_first false told n = told

-- after a `since` that answered n
abbrev pub with_since : ℕ → View → View
with_since n v = record v {
  own = counting_batches n (told_first v.just_posted v.own.first_since n) v.own;
  since_looks = v.since_looks + 1;
  just_posted = false;
}
