use Rattle.std.proofs.Common.{ℕ, List, [], refl, ap}
use Rattle.core_model.specs.State.{opening_core}
use Rattle.ready_lists.proofs.PlaceLemmas.Copies.{at_copies}
use Rattle.ready_lists.proofs.lists.ReadyLists.opening.Goals as goal

pub returns-clause-lists : goal.returns-clause-lists
unfolding opening_core
returns-clause-lists c =
    let none = at_copies c.args.workers [] in
    let first = ap (λ (f : ℕ → List ℕ). f 0) none in
    rw (c.in_ok-push.ensures.lists, c.in_ok-lists.ensures, first, none) refl
