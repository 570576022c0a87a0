use Rattle.std.proofs.Common.{◌≡◌, false, take}
use Rattle.table_rule.specs.Shows.{among}
use Rattle.core_table.proofs.rotation.index_of.Given as goal

abbrev pub invariant-loop-i : goal.invariant-loop-i
invariant-loop-i l = record {
  yet : among (take l.i l.numbers) l.number ≡ false;
}
