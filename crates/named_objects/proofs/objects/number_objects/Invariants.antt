use Rattle.std.proofs.Common.{◌≤◌, length, map, drop}
use Rattle.named_objects.specs.Objects.{named_in, object_in}
use Rattle.named_objects.proofs.Numbers.{AreSoFar}
use Rattle.named_objects.proofs.objects.number_objects.Given as goal

abbrev pub invariant-loop-leaf : goal.invariant-loop-leaf
invariant-loop-leaf l = record {
  so_far : AreSoFar l.numbers.items (map object_in l.objects.keys) (map named_in (drop l.leaf-index l.leaves)) (map named_in l.leaves);
  few : length l.objects.keys ≤ l.leaf-index;
}
