use Rattle.core_model.specs.Settings.{job_with}
use Rattle.table_rule.specs.Shows.{room_of}
use Rattle.table_rule.proofs.TableLemmas.OneState.{one_state}
use Rattle.table_rule.proofs.laws.at_most_one_state_is_shown.Goals as goal

pub returns : goal.returns
returns c work key sound t one two =
    one_state (job_with work key) (room_of key) (c.laws_hold.ensures work key sound.few sound.leaves sound.short (sound.sources work)) t one two sound.workers
