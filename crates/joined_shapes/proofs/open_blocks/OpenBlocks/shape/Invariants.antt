use Rattle.std.proofs.Common.{◌≡◌, ◌≤◌, drop}
use Rattle.limits.specs.declared.TheConstants.{MOST_LEAVES}
use Rattle.joined_shapes.specs.Code.Joining.{blocks_in}
use Rattle.joined_shapes.specs.Code.Steps.{blocks_from}
use Rattle.joined_shapes.proofs.open_blocks.OpenBlocks.shape.Given as goal

abbrev pub invariant-loop-step : goal.invariant-loop-step
invariant-loop-step l = record {
  leads : blocks_from (blocks_in l.joiner) (drop l.step-index l.step-items) ≡ l.self;
  most : l.self.leaves ≤ MOST_LEAVES;
}
