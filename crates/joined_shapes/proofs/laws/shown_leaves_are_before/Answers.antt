use Rattle.joined_shapes.proofs.Unshown.{hidden}
use Rattle.joined_shapes.proofs.Nesting.{opened_shape, closed_shape}
use Rattle.joined_shapes.proofs.Precedence.{leaf_keeps, shown_before}
use Rattle.joined_shapes.proofs.laws.shown_leaves_are_before.Goals as goal

pub returns : goal.returns
returns c = record {
  leaf = λ blocks u v before. leaf_keeps blocks u v before;
  opened = λ blocks order. opened_shape blocks order;
  closed = λ blocks. closed_shape blocks;
  shown = λ blocks u is less shown. shown_before blocks u is less shown;
  hidden = λ blocks u is off before. hidden blocks u is off before;
}
