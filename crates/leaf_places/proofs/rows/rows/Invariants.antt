use Rattle.std.proofs.Common.{◌≡◌}
use Rattle.std.specs.Prelude.{string_bytes}
use Rattle.leaf_places.specs.Rows.{first_rows}
use Rattle.leaf_places.proofs.rows.rows.Given as goal

abbrev pub invariant-loop-leaf : goal.invariant-loop-leaf
invariant-loop-leaf l = string_bytes l.text ≡ first_rows l.job l.places l.leaf
