use Rattle.std.proofs.Common.{◌≡◌, replicate}
use Rattle.core_state.proofs.state.opening.copies.Given as goal

abbrev pub invariant-loop-k : goal.invariant-loop-k
invariant-loop-k g l = record { items : l.items.items ≡ replicate l.k l.item }
