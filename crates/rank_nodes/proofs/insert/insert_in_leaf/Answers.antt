use Rattle.std.proofs.Common.{◌≡◌, Some, None, rules, arith}
use Rattle.rank_nodes.specs.Maps.{value_at}
use Rattle.rank_nodes.proofs.EntryLemmas.Places.{within_present}
use Rattle.rank_nodes.proofs.TreeLemmas.Inserting.{put_set, put_insert}
use Rattle.rank_nodes.proofs.insert.insert_in_leaf.Goals as goal

pub index_mut-requires : goal.index_mut-requires
index_mut-requires c =
    let there : value_at c.args.entry.key c.in-Leaf.leaf.value.items ≡ Some c.in-Some.was = search rules in
    let cut = rw (c.deref-2.ensures.value, c.deref.ensures) at c.place-at.ensures.split in
    let here = within_present _ _ _ _ cut there in
    rw c.deref_mut.ensures.value (omega (arith, here, c.in-Leaf.leaf.value.ok.0))

pub returns-in-Some-clause-outcome : goal.returns-in-Some-clause-outcome
returns-in-Some-clause-outcome c =
    let there : value_at c.args.entry.key c.in-Leaf.leaf.value.items ≡ Some c.in-Some.was = search rules in
    let cut = rw (c.deref-2.ensures.value, c.deref.ensures) at c.place-at.ensures.split in
    let up = rw c.in-Leaf.is at c.requires.ascends in
    rw c.in-Leaf.is (put_set _ _ _ _ _ _ up cut there (search rules))

pub returns-in-Ok-clause-outcome : goal.returns-in-Ok-clause-outcome
returns-in-Ok-clause-outcome c =
    let none : value_at c.args.entry.key c.in-Leaf.leaf.value.items ≡ None = search rules in
    let cut = rw (c.deref-2.ensures.value, c.deref.ensures) at c.place-at.ensures.split in
    rw c.in-Leaf.is (put_insert _ _ _ _ _ cut none (search (rules, c.in-Ok.ensures.items)))

pub returns-in-Ok-insert_in_halves-clause-outcome : goal.returns-in-Ok-insert_in_halves-clause-outcome
returns-in-Ok-insert_in_halves-clause-outcome c =
    let none : value_at c.args.entry.key c.in-Leaf.leaf.value.items ≡ None = search rules in
    let cut = rw (c.deref-2.ensures.value, c.deref.ensures) at c.place-at.ensures.split in
    rw c.in-Leaf.is (put_insert _ _ _ _ _ cut none (search (rules, c.in-Ok-insert_in_halves.ensures.entries)))
