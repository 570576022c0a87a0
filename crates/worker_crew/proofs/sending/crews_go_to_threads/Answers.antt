-- A crew, from its parts.
use denote.Param.Send.{sendable}
use denote.Param.SendFields.{declared_sync}
use Rattle.std.proofs.Crossing.{crosses}
use Rattle.worker_crew.specs.contracts.crew.Crew as crew
use Rattle.worker_crew.specs.contracts.sending.crews_go_to_threads as here
use Rattle.worker_crew.proofs.sending.crews_go_to_threads.Goals as goal

pub returns : goal.returns
returns g c l =
    let pause = c.type_bounds.sync-G in
    let work = c.type_bounds.sync-W in
    let shared = c.type_bounds.sync-B in
    let G = here.G-row g.row.G g.row.B g.row.W in
    let B = here.B-row g.row.G g.row.B g.row.W in
    let W = here.W-row g.row.G g.row.B g.row.W in
    declared_sync (crew.the_type l G B W g.B.WorkBrand g.W.LeafWork)
    (record { shared = c.tables_go_to_threads.ensures.shared.shared }, (c.decks_go_to_threads.ensures.shared, (c.boards_go_to_threads.ensures.shared, (search sendable depth 20, (search (sendable, crosses) depth 20, (search (sendable, crosses) depth 20, tt))))))
