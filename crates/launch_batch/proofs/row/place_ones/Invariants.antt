use Rattle.std.proofs.Common.{◌≡◌, ◌+◌, ◌++◌, length, map}
use Rattle.object_rows.specs.declared.members.Members.TheVariants.{One}
use Rattle.launch_batch.specs.ByStructure.{placed}
use Rattle.launch_batch.proofs.row.place_ones.Given as goal

abbrev pub invariant-loop-input : goal.invariant-loop-input
invariant-loop-input g l = record {
  put : l.pieces.items ≡ l.initial.pieces.items ++ placed g.T.Kind.at l.first (map One l.yielded);
  place : l.place ≡ l.first + length l.yielded;
  all : l.yielded ++ l.input-iterator.rest.items ≡ l.initial.input-iterator.rest.items;
}
