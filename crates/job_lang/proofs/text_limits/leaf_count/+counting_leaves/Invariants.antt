use Rattle.std.proofs.Common.{◌≡◌, min, take}
use Rattle.job_lang.specs.Counts.{count}
use Rattle.job_syntax.specs.Views.{items_of}
use Rattle.job_lang.proofs.text_limits.leaf_count.+counting_leaves.Given as goal

abbrev pub invariant-count_items-loop-item : goal.invariant-count_items-loop-item
invariant-count_items-loop-item l = l.leaves ≡ min 20001 (count (items_of (take l.item-index l.items)))
