use Rattle.std.proofs.Common.{◌≡◌, ◌++◌, map}
use Rattle.object_rows.specs.declared.members.Members.TheVariants.{One}
use Rattle.object_rows.proofs.row_list.ones_in_rows.Given as goal

-- a row for each member so far
abbrev pub invariant-loop-member : goal.invariant-loop-member
invariant-loop-member g l = record {
  rows : l.rows.items ≡ map One l.yielded;
  all : l.yielded ++ l.member-iterator.rest.items ≡ l.initial.member-iterator.rest.items;
}
