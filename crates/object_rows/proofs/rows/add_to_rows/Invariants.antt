use Rattle.std.proofs.Common.{◌≡◌, ◌≤◌, length}
use Rattle.object_rows.specs.Rows.{members, added}
use Rattle.object_rows.specs.Code.Members.{added_from}
use Rattle.object_rows.proofs.rows.add_to_rows.Given as goal

-- the members that are left, added from the place on
abbrev pub invariant-loop-member : goal.invariant-loop-member
invariant-loop-member g l = record {
  put : added_from l.place (members l.rows.items) l.member-iterator.rest.items ≡ added (members l.initial.rows.items) l.initial.member-iterator.rest.items;
  within : l.place ≤ length l.rows.items;
}
