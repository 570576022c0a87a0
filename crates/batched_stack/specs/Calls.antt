-- The pushes and pops of a batch.
use Rattle.std.specs.Prelude.{ℕ, ◌+◌, List, [], ◌∷◌, ◌++◌}
use Rattle.seq_objects.specs.declared.op.Op.{Op}
use Rattle.seq_objects.specs.declared.op.Op.TheVariants.{Push, Pop}
use Rattle.seq_objects.specs.declared.call.Call.{Call}
use Rattle.seq_objects.specs.declared.kind.Kind.TheVariants.{Stack}
use Rattle.seq_objects.specs.Batches.{AreOf}
use Rattle.batched_stack.specs.Stripes.{StackView}

-- the item that an operation pushes, as a list; empty where it is no push
abbrev pub pushes_in : Op → List ℕ
pushes_in (Push number item) = item ∷ []
pushes_in _ = []

-- 1 for a pop, 0 for any other operation
abbrev pub pops_in : Op → ℕ
pops_in (Pop number) = 1
pops_in _ = 0

-- the pushed items, in call order
abbrev pub pushes_of : List Call → List ℕ
pushes_of [] = []
pushes_of (call ∷ calls) = pushes_in call.op ++ pushes_of calls

-- the number of pops
abbrev pub pops_of : List Call → ℕ
pops_of [] = 0
pops_of (call ∷ calls) = pops_in call.op + pops_of calls

-- any batch of calls of the stack can be served
abbrev pub MayServe : StackView → List Call → Type 0
MayServe stack calls = AreOf Stack calls
