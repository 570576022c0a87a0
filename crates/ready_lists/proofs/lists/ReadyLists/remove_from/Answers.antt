use Rattle.std.proofs.Common.{arith}
use Rattle.ready_lists.proofs.ListLemmas.NonEmpty.{counted, one_where_stands, recounted}
use Rattle.ready_lists.proofs.lists.ReadyLists.remove_from.Goals as goal

pub overflow_sub-self : goal.overflow_sub-self
overflow_sub-self c =
    let below = rw (← c.self.view_is) at c.requires.worker_in in
    let one = one_where_stands c.args.node c.index_mut-list.result.now (c.remove-found.ensures.found c.if-found.true) in
    let l = counted c.self.inside.lists.items c.args.worker below c.index_mut-list.ensures.value one in
    omega (arith, l, c.self.invariant)

pub invariant_of-self : goal.invariant_of-self
invariant_of-self c =
    let below = rw (← c.self.view_is) at c.requires.worker_in in
    let one = one_where_stands c.args.node c.index_mut-list.result.now (c.remove-found.ensures.found c.if-found.true) in
    recounted c.self.inside.lists.items c.args.worker c.remove-found.new.self below c.index_mut-list.ensures.value c.self.invariant
    one c.one_if_non_empty.ensures
