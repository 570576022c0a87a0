use Rattle.job_lang.specs.declared.join.Order.TheVariants.{Series}
use Rattle.joined_shapes.specs.declared.open_blocks.Step.TheVariants.{Open}
use Rattle.joined_shapes.specs.Code.Joining.{blocks_in}
use Rattle.joined_shapes.proofs.Stepping.{step_most}
use Rattle.joined_shapes.proofs.open_blocks.OpenBlocks.shape.Goals as goal

pub after-requires : goal.after-requires
after-requires c =
    step_most c.as_slice-step-items.result.now c.loop-step.step-index (Open Series) (blocks_in c.loop-step.joiner) c.args.self.now c.loop-step-test.true
    c.loop-step.invariant.leads c.loop-step.invariant.most
