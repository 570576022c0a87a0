use Rattle.std.proofs.Common.{arith}
use Rattle.two_deques.proofs.EndsLemmas.Stealing.{reaches_kept, then_stolen, then_nothing, then_few}
use Rattle.two_deques.proofs.ends.Ends.steal.Goals as goal

pub returns-clause-reaches : goal.returns-clause-reaches
returns-clause-reaches g c =
    reaches_kept _ _ _ _ _ c.requires.reaches c.requires.victim c.index-thieves-victim.is c.steal.ensures.pass

pub returns-clause-some : goal.returns-clause-some
returns-clause-some g c =
    then_stolen _ _ _ _ _ _ _ c.steal.result (omega (arith, c.requires.reaches.count, c.requires.victim))
    c.index_mut.ensures.value c.steal.ensures.some

pub returns-clause-none : goal.returns-clause-none
returns-clause-none g c =
    then_nothing _ _ _ _ _ _ _ c.steal.result (omega (arith, c.requires.reaches.count, c.requires.victim))
    c.index_mut.ensures.value c.steal.ensures.none

pub returns-clause-cause : goal.returns-clause-cause
returns-clause-cause g c =
    then_few c.args.self.now.reaches.items _ _ c.steal.result (omega (arith, c.requires.reaches.count, c.requires.victim))
    c.index_mut.ensures.value c.steal.ensures.cause
