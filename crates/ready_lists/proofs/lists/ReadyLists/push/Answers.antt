use Rattle.std.proofs.Common.{arith}
use Rattle.ready_lists.proofs.ListLemmas.NonEmpty.{counted, recounted, recounted_at_most}
use Rattle.ready_lists.proofs.lists.ReadyLists.push.Goals as goal

pub overflow_sub-self : goal.overflow_sub-self
overflow_sub-self c =
    let below = rw (← c.self.view_is) at c.requires in
    let l = counted c.self.inside.lists.items c.args.worker below c.index_mut-list.ensures.value c.one_if_non_empty-before.ensures in
    omega (arith, l, c.self.invariant)

pub overflow_add-self : goal.overflow_add-self
overflow_add-self c =
    let below = rw (← c.self.view_is) at c.requires in
    let l = recounted_at_most c.self.inside.lists.items c.args.worker c.push.new.self below c.index_mut-list.ensures.value c.self.invariant
    c.one_if_non_empty-before.ensures c.one_if_non_empty.ensures in
    omega (arith, l)

pub invariant_of-self-2 : goal.invariant_of-self-2
invariant_of-self-2 c =
    let below = rw (← c.self.view_is) at c.requires in
    recounted c.self.inside.lists.items c.args.worker c.push.new.self below c.index_mut-list.ensures.value c.self.invariant
    c.one_if_non_empty-before.ensures c.one_if_non_empty.ensures
