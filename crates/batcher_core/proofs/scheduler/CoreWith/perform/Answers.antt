use Rattle.core_state.proofs.ChoiceLemmas.Allowed.{chosen_in_range, chosen_needs, chosen_at_end}
use Rattle.batcher_core.proofs.CodeLemmas.Turning.{fits_after, makes_event}
use Rattle.batcher_core.proofs.scheduler.CoreWith.perform.Goals as goal

pub apply-requires : goal.apply-requires
apply-requires g c =
    let below = rw (← c.self.view_is) at c.requires.worker_in in
    let chosen = rw (← c.self.view_is) at c.requires.chosen in
    let fits = c.self.invariant.1 (rw (← c.self.view_is) at c.requires.unspent) in
    record {
      fits = fits;
      worker_in = below;
      in_range = chosen_in_range _ _ _ c.args.worker fits below c.args.event chosen;
      needs = chosen_needs _ _ _ c.args.worker fits below c.args.event chosen;
      at_end = chosen_at_end _ _ _ c.args.worker fits below c.args.event chosen;
    }

pub invariant_of-self : goal.invariant_of-self
invariant_of-self g c =
    let below = rw (← c.self.view_is) at c.requires.worker_in in
    let chosen = rw (← c.self.view_is) at c.requires.chosen in (
      c.self.invariant.0,
      λ unspent. fits_after _ _ _ c.apply.new.self c.args.worker c.args.event (c.self.invariant.1 (rw (← c.self.view_is) at c.requires.unspent)) below chosen
          c.in-Ok.ensures.event c.in-Ok.ensures.lists c.in-Ok.ensures.sizes,
    )

pub returns-in-Ok-clause-event : goal.returns-in-Ok-clause-event
returns-in-Ok-clause-event g c =
    let below = rw (← c.self.view_is) at c.requires.worker_in in
    let chosen = rw (← c.self.view_is) at c.requires.chosen in
    rw (← c.self.view_is) (makes_event _ _ _ c.apply.new.self c.args.worker c.args.event (c.self.invariant.1 (rw (← c.self.view_is) at c.requires.unspent)) below chosen
    c.in-Ok.ensures.event c.in-Ok.ensures.lists)
