use Rattle.std.proofs.Common.{refl}
use Rattle.report_reader.specs.declared.table.Table.{Table}
use Rattle.report_reader.proofs.Tables.{inserted}
use Rattle.report_reader.proofs.table.Table.insert.Goals as goal

pub returns : goal.returns
returns c =
    let new : Table = record c.args.self.now { numbers = c.insert.new.self } in
    inserted c.args.self.now new c.args.kind c.args.name c.args.number refl refl (λ k n. c.in_ok-insert.ensures.updates.0 (k, n))
