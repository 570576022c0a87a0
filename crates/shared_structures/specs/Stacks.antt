-- The serial object of a stack.
use Rattle.std.specs.Prelude.{ℕ, List, [], ◌∷◌, ◌++◌}
use Rattle.shared_calls.specs.Serial.{SerialObject}
use Rattle.seq_objects.specs.Objects.{top, without_top}
use Rattle.shared_structures.specs.declared.stack.StackOp.{StackOp}
use Rattle.shared_structures.specs.declared.stack.StackOp.TheVariants.{Push, Pop}
use Rattle.shared_structures.specs.declared.stack.StackReply.{StackReply}
use Rattle.shared_structures.specs.declared.stack.StackReply.TheVariants.{Pushed, Popped}

-- the items after an operation; the last is the top
abbrev pub stack_after : List ℕ → StackOp → List ℕ
stack_after items (Push item) = items ++ item ∷ []
stack_after items Pop = without_top items

-- the reply to it
abbrev pub stack_reply : List ℕ → StackOp → StackReply
stack_reply items (Push item) = Pushed
stack_reply items Pop = Popped (top items)

-- a stack, which is empty at first
abbrev pub stack : SerialObject StackOp StackReply
stack = record { State = List ℕ; opening = []; after = stack_after; reply = stack_reply }
