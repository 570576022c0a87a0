use Rattle.std.proofs.Common.{◌≡◌, ◌-◌, ◌++◌, take, drop}
use Rattle.object_rows.specs.Rows.{members}
use Rattle.object_rows.specs.Code.Lasts.{lasts, fronts}
use Rattle.object_rows.proofs.rows.take_lasts.Given as goal

-- the rows so far have lost their last members
abbrev pub invariant-loop-place : goal.invariant-loop-place
invariant-loop-place g l = record {
  taken : l.taken.items ++ lasts (l.count - l.place) (drop l.place (members l.rows.items)) ≡ lasts l.count (members l.initial.rows.items);
  left : take l.place (members l.rows.items) ++ fronts (l.count - l.place) (drop l.place (members l.rows.items)) ≡ fronts l.count (members l.initial.rows.items);
}
