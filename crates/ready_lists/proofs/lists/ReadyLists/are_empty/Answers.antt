use Rattle.std.proofs.Common.{sym, ◌∙◌, eqb-true}
use Rattle.ready_lists.proofs.ListLemmas.NonEmpty.{each_empty}
use Rattle.ready_lists.proofs.lists.ReadyLists.are_empty.Goals as goal

pub returns : goal.returns
returns c = rw (← c.self.view_is) (λ zero. each_empty c.self.inside.lists.items (sym c.self.invariant ∙ eqb-true _ _ zero))
