use Rattle.std.proofs.Common.{◌≡◌, ◌<◌, ◌++◌, drop, length}
use Rattle.std.specs.List.{AllByRecursion}
use Rattle.batched_tree.specs.Code.End.{merged_replies}
use Rattle.batched_tree.proofs.end.merge_replies.Given as goal

abbrev pub invariant-loop-group : goal.invariant-loop-group
invariant-loop-group l = record {
  told : l.replies.items ++ merged_replies (drop l.group-index l.groups) l.left.items ≡ merged_replies l.groups l.fn.pieces.items;
  within : AllByRecursion (λ group. group < length l.left.items) (drop l.group-index l.groups);
}
