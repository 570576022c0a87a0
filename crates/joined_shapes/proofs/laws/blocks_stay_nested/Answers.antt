use Rattle.joined_shapes.proofs.Nesting.{nested_outside, nested_leaf, nested_opened, nested_closed, nested_leaves}
use Rattle.joined_shapes.proofs.laws.blocks_stay_nested.Goals as goal

pub returns : goal.returns
returns c = record {
  outside = nested_outside;
  leaf = λ blocks is. nested_leaf blocks is;
  opened = λ blocks order is. nested_opened blocks order is;
  closed = λ blocks is. nested_closed blocks is;
  leaves = λ blocks is. nested_leaves blocks is;
}
