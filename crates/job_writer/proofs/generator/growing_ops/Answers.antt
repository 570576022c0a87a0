use Rattle.std.proofs.Common.{rules, ◌≡◌, ◌++◌, [], ◌∷◌}
use Rattle.job_writer.proofs.GeneratorLemmas.Phases.{growing_more}
use Rattle.job_writer.proofs.generator.growing_ops.Goals as goal

pub loop-preserved : goal.loop-preserved
loop-preserved c =
    let pushed : c.push.new.self.items ≡ c.loop.ops.items ++ c.op_drawn.result ∷ [] = search rules in
    growing_more c.args.seed c.args.size c.loop.number c.loop.counter c.loop.ops.items c.push.new.self.items c.next_number-number.result c.op_drawn.result
    c.loop-test.true c.next_number-number.ensures c.op_drawn.ensures pushed c.loop.invariant
