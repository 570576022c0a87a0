-- The stop word: the effect of a look at it on a pass, and why a call or a turn stops.
use Rattle.std.specs.Prelude.{◌≡◌, ◌≤◌, ◌+◌, ◌⊎◌}
use Rattle.worker_crew.specs.declared.crew.Stop.{Stop}
use Rattle.worker_crew.specs.declared.crew.Stop.TheVariants.{Memory, Stopped}
use Rattle.table_rule.specs.declared.view.PassView.{PassView}
use Rattle.table_rule.specs.Passes.{finding_none}
use Rattle.worker_crew.specs.Workers.{WorkerView}

-- The pass has changed only by looks that found the stop word unset, if at all.
pub record HasOnlyLooked (old new : PassView) : Type 0 where
  pub same : new ≡ record old { stop_looks = new.stop_looks }
  pub looks : old.stop_looks ≤ new.stop_looks

-- the worker after a turn's first step, a look that found the stop word unset
abbrev pub unstopped : WorkerView → WorkerView
unstopped m = record m { pass = finding_none m.pass }

-- the pass has set the stop word, or a look of it has found it set
abbrev pub KnowsStop : PassView → Type 0
KnowsStop p = (1 ≤ p.stops) ⊎ (1 ≤ p.stops_found)

-- Why a call or a turn stopped. `Memory` claims nothing. `Stopped`: exactly one look from `old` to `new` found the stop
-- word set, and the pass did not set it.
abbrev pub IsStop : Stop → PassView → PassView → Type 0
IsStop Memory old new = Unit {0}
IsStop Stopped old new = (new.stops_found ≡ old.stops_found + 1) × (new.stops ≡ old.stops)
