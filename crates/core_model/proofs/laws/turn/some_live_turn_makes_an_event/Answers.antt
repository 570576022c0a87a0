use Rattle.std.proofs.Common.{refl}
use Rattle.core_model.specs.Choice.{choice}
use Rattle.core_model.proofs.Inductive.FromParts.{parts_carried}
use Rattle.core_model.proofs.ChoiceLemmas.Progress.{some_live_turn}
use Rattle.core_model.proofs.RunLemmas.Existence.{chosen_step}
use Rattle.core_model.proofs.laws.turn.some_live_turn_makes_an_event.Goals as goal

pub returns : goal.returns
returns c job tree state live one plan sources inv going below on idle =
    let laws = c.plan_has_sides.ensures job.plan tree plan in
    let some = some_live_turn job tree state live one laws sources plan (parts_carried job state.state inv.parts) inv.lists going below on idle in
    let step = chosen_step job laws sources state some.0 (choice job state some.0) some.1 inv refl some.3 in
    (some.0, some.1, some.2, step.0, step.1, step.2, step.3)
