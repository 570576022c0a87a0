use Rattle.std.proofs.Common.{◌≡◌}
use Rattle.core_table.specs.Passes.{pass_view}
use Rattle.table_tests.specs.Tables.{HasNoFlag}
use Rattle.table_tests.proofs.steps.go_on.Given as goal

abbrev pub invariant-loop : goal.invariant-loop
invariant-loop l = HasNoFlag l.table l.pass × ((pass_view l.pass).worker ≡ (pass_view l.initial.pass).worker)
