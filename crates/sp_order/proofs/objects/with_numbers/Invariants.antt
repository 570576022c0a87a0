use Rattle.std.proofs.Common.{◌≡◌, take}
use Rattle.sp_order.specs.Objects.{with_numbers}
use Rattle.sp_order.proofs.objects.with_numbers.Given as goal

abbrev pub invariant-loop-leaf : goal.invariant-loop-leaf
invariant-loop-leaf l = l.acts.items ≡ with_numbers l.fn.acts.items (take l.leaf l.numbers)
