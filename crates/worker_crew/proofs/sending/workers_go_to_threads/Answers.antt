-- A worker, from its parts.
use denote.Param.Send.{sendable}
use denote.Param.SendFields.{declared_send}
use Rattle.worker_crew.specs.contracts.crew.Me as me
use Rattle.worker_crew.proofs.sending.workers_go_to_threads.Goals as goal

pub returns-clause-worker : goal.returns-clause-worker
returns-clause-worker c =
    declared_send me.the_type
    (c.tables_go_to_threads.ensures.sent, (c.decks_go_to_threads.ensures.sent, (c.boards_go_to_threads.ensures.sent, (search sendable depth 20, tt))))
