-- The addends of a batch, and when the counter can serve it.
use Rattle.std.specs.Prelude.{ℕ, ◌+◌, ◌<◌, ◌^◌, List, map}
use Rattle.seq_objects.specs.declared.op.Op.{Op}
use Rattle.seq_objects.specs.declared.op.Op.TheVariants.{CounterAdd}
use Rattle.seq_objects.specs.declared.call.Call.{Call}
use Rattle.seq_objects.specs.declared.kind.Kind.TheVariants.{Counter}
use Rattle.seq_objects.specs.Batches.{AreOf}
use Rattle.batched_counter.specs.Sums.{total}

-- the addend of an operation; 0 for one that is no addition
abbrev pub addend_of : Op → ℕ
addend_of (CounterAdd number addend) = addend
addend_of _ = 0

-- the addends of the calls, in call order
abbrev pub addends : List Call → List ℕ
addends calls = map (λ call. addend_of call.op) calls

-- all calls are additions, and the number of the counter stays below 2^64
pub record MayServe (number : ℕ) (calls : List Call) : Type 0 where
  pub adds : AreOf Counter calls
  pub fits : number + total (addends calls) < 2 ^ 64
