use Rattle.std.proofs.Common.{length, ap, arith}
use Rattle.two_deques.proofs.EndsLemmas.Making.{reached_all}
use Rattle.two_deques.proofs.decks.Decks.join.Goals as goal

pub with_reaches-requires : goal.with_reaches-requires
with_reaches-requires c =
    let made = c.in_ok-decks.ensures.core in
    omega (arith, made.ends_count, made.thieves_count, ap length c.deref.ensures.value)

pub with_reaches-requires-2 : goal.with_reaches-requires-2
with_reaches-requires-2 c =
    let made = c.in_ok-decks.ensures.batch in
    omega (arith, made.ends_count, made.thieves_count, ap length c.deref-2.ensures.value)

pub hands_of-requires-clause-core : goal.hands_of-requires-clause-core
hands_of-requires-clause-core c =
    reached_all _ _ _ _ _ _ _ _ c.in_ok-decks.ensures.core.thieves_count c.in_ok-decks.ensures.rooms.0
    c.deref.ensures.value c.in_ok-decks.ensures.core c.in_ok-core_ends.ensures

pub hands_of-requires-clause-batch : goal.hands_of-requires-clause-batch
hands_of-requires-clause-batch c =
    reached_all _ _ _ _ _ _ _ _ c.in_ok-decks.ensures.core.thieves_count c.in_ok-decks.ensures.rooms.1
    c.deref-2.ensures.value c.in_ok-decks.ensures.batch c.in_ok-batch_ends.ensures

pub hands_of-requires-clause-few : goal.hands_of-requires-clause-few
hands_of-requires-clause-few c = omega (arith, c.requires.workers, c.in_ok-decks.ensures.core.thieves_count)

pub returns-clause-workers : goal.returns-clause-workers
returns-clause-workers c = c.in_ok-decks.ensures.core.thieves_count
