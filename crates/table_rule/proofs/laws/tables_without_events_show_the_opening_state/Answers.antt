use Rattle.std.proofs.Common.{refl}
use Rattle.core_model.specs.Settings.{job_with}
use Rattle.table_rule.specs.Shows.{room_of}
use Rattle.table_rule.proofs.TableLemmas.Untouched.{no_event}
use Rattle.table_rule.proofs.laws.tables_without_events_show_the_opening_state.Goals as goal

pub returns : goal.returns
returns c work key t shown none_made = no_event (job_with work key) (room_of key) t shown none_made shown.trace refl shown.reached
