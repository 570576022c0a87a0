-- A table is `Sync` and a pass is `Send`, from their fields.
use denote.Param.Send.{sendable}
use denote.Param.SendFields.{declared_send, declared_sync}
use Rattle.core_table.specs.contracts.table.CoreTable as table
use Rattle.core_table.specs.contracts.table.Pass as pass
use Rattle.core_table.specs.contracts.sending.tables_go_to_threads as here
use Rattle.core_table.proofs.sending.tables_go_to_threads.Goals as goal

pub returns-clause-shared : goal.returns-clause-shared
returns-clause-shared g c = declared_sync (table.the_type (here.B-row g.row.B) g.B.WorkBrand)
    (search sendable depth 20, (search sendable depth 20, (search sendable depth 20, tt)))

pub returns-clause-sent : goal.returns-clause-sent
returns-clause-sent g c = declared_send pass.the_type
    (c.seats_are_sent.ensures.seat, (search sendable depth 20, (search sendable depth 20, (search sendable depth 20, (c.seats_are_sent.ensures.owed, (search sendable depth 20, tt))))))
