use Rattle.std.proofs.Common.{◌≡◌, Some, None, refl, rules, arith}
use Rattle.rank_nodes.specs.Maps.{value_at}
use Rattle.rank_nodes.proofs.EntryLemmas.Places.{within_present}
use Rattle.rank_nodes.proofs.TreeLemmas.Removing.{taken_at, taken_none}
use Rattle.rank_nodes.proofs.remove.remove_in_leaf.Goals as goal

pub returns-in_err-was-clause-removed : goal.returns-in_err-was-clause-removed
returns-in_err-was-clause-removed c =
    let none : value_at c.args.key c.args.leaf.now.items ≡ None = search rules in
    let answer : c.from_residual.result ≡ None = search rules in
    rw answer (taken_none _ _ _ none refl)

pub remove-requires : goal.remove-requires
remove-requires c =
    let there : value_at c.args.key c.args.leaf.now.items ≡ Some c.in_ok-was.was' = search rules in
    let cut = rw c.deref.ensures.value at c.place-at.ensures.split in
    let here = within_present _ _ _ _ cut there in
    omega (arith, here, c.args.leaf.now.ok.0)

pub returns-clause-removed : goal.returns-clause-removed
returns-clause-removed c =
    let there : value_at c.args.key c.args.leaf.now.items ≡ Some c.in_ok-was.was' = search rules in
    let cut = rw c.deref.ensures.value at c.place-at.ensures.split in
    taken_at _ _ _ _ _ c.requires.ascends cut there (search (rules, c.remove.ensures.items))
