use Rattle.std.proofs.Common.{◌∙◌, arith}
use Rattle.table_tests.proofs.stops.is_stopped.Goals as goal

-- worker 0 is the first of the crew's workers, also after worker 1 has been taken out
pub free_turn-did-requires-clause-me : goal.free_turn-did-requires-clause-me
free_turn-did-requires-clause-me g c =
    (c.in_ok-crew.ensures.start.each 0 c.remove-zero.result (omega (arith)) (c.remove-zero.ensures.value ∙ c.remove-one.ensures.by_index.0 0 c.remove-zero.result (omega (arith)))).ready.own
