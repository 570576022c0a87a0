use denote.Exit.{yes}
use denote.Param.Send.{IsSend, sendable}
use Rattle.std.proofs.Crossing.{crosses}
use Rattle.launch_batch.specs.contracts.shop.Shop as shop
use Rattle.core_model.specs.contracts.setting.Setting as setting
use Rattle.core_state.specs.contracts.state.State as state
use Rattle.locked_run.proofs.sending.cores_are_sent.Goals as goal

state_is_sent : IsSend shop.the_row → IsSend (state.the_field).row
state_is_sent part = search (sendable, crosses) depth 40 fits 20000

setting_is_sent : IsSend (setting.the_field).row
setting_is_sent = search (sendable, crosses) depth 40 fits 20000

pub is_sent-requires-send-T : goal.is_sent-requires-send-T
is_sent-requires-send-T c κs =
    let state = state_is_sent c.shops_go_to_threads.ensures in
    let setting = setting_is_sent in
    search (sendable, crosses) depth 40 fits 20000

pub returns : goal.returns
returns c = record { owned = c.is_sent.ensures.owned; leaving = λ k. c.is_sent.ensures.leaving yes }
