use Rattle.std.proofs.Common.{sym, ◌∙◌}
use Rattle.core_model.specs.Choice.{is_owed}
use Rattle.core_state.specs.Abstraction.{state_of}
use Rattle.core_state.specs.Holds.{hold_view}
use Rattle.core_model.proofs.ChoiceLemmas.Search.{least_is_chosen}
use Rattle.core_model.proofs.ChoiceLemmas.Searches.{least_in}
use Rattle.core_state.proofs.state.State.choose_holding.Goals as goal

pub choose_answer-requires-clause-other_in : goal.choose_answer-requires-clause-other_in
choose_answer-requires-clause-other_in c = least_in (is_owed (hold_view c.args.hold.now)) c.args.setting.now.workers c.in-Some.other (sym c.least_owed.ensures ∙ c.in-Some.is)

pub choose_answer-requires-clause-started : goal.choose_answer-requires-clause-started
unfolding state_of
choose_answer-requires-clause-started c =
    let owed = least_is_chosen (is_owed (hold_view c.args.hold.now)) c.args.setting.now.workers c.in-Some.other (sym c.least_owed.ensures ∙ c.in-Some.is) in
    c.requires.looks.owed c.in-Some.other (rw c.requires.held owed)
