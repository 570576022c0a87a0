use Rattle.std.proofs.Common.{◌≡◌, ◌∷◌, sym, ◌∙◌, refl}
use Rattle.seq_objects.specs.Code.Heaps.{ascending}
use Rattle.seq_objects.proofs.Bags.{same_numbers, least_first}
use Rattle.seq_objects.proofs.bag.Bag.take_least.Goals as goal

taken : (c : goal.In_ok-item) → c.args.self.now ≡ c.in_ok-item.field-0.0 ∷ ascending c.pop.new.self.data.items
taken c = rw (← c.self.view_is) (sym (same_numbers _ _ c.in_ok-item.ensures.permutation)
    ∙ least_first c.in_ok-item.field-0 _ (c.in_ok-item.ensures.below_top c.self.invariant))

pub returns-clause-least : goal.returns-clause-least
returns-clause-least c = rw (taken c) refl

pub returns-clause-rest : goal.returns-clause-rest
returns-clause-rest c = rw (taken c) refl
