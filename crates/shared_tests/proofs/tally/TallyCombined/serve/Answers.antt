use Rattle.std.proofs.Common.{◌≡◌, map, ap, ◌∙◌, arith}
use Rattle.std.proofs.lemmas.Grind.{common_steps}
use Rattle.shared_calls.specs.Serial.{after_all}
use Rattle.shared_tests.specs.Tallies.{tally}
use Rattle.shared_tests.proofs.Tallies.{square, squares_serve}
use Rattle.shared_tests.proofs.tally.TallyCombined.serve.Goals as goal

pub returns-clause-served : goal.returns-clause-served
returns-clause-served c =
    let i = c.loop-op.invariant in
    let yielded : c.loop-op.yielded ≡ c.args.ops.items = grind (arith, common_steps, c.in-None.ensures.steps, i.all, c.into_iter-op-iterator.ensures.into_iter_gives) in
    squares_serve c.args.self.sum c.add_all-sum.result c.args.ops.items c.loop-op.squares.items (i.squares ∙ ap (map square) yielded)
    (c.add_all-sum.ensures ∙ ap (after_all tally c.args.self.sum) c.as_slice.ensures.value)
