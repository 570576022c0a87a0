-- A shared stack as the stack of the shared objects.
use Rattle.std.proofs.Common.{◌≡◌, ℕ, List, [], ◌∷◌, map, Some, None, refl, sym, subst}
use Rattle.std.specs.declared.option.Option.{Option}
use Rattle.std.specs.List.{AllByRecursion}
use Rattle.seq_objects.specs.declared.op.Op.{Op}
use Rattle.seq_objects.specs.declared.reply.Reply.{Reply}
use Rattle.seq_objects.specs.Objects.{Objects, after, reply_to, top, number_or_empty}
use Rattle.seq_objects.specs.declared.kind.Kind.TheVariants.{Stack}
use Rattle.seq_objects.specs.Batches.{kind_of}
use Rattle.seq_objects.specs.Serial.{of_stack}
use Rattle.shared_calls.specs.Serial.{IsServedInSomeOrder}
use Rattle.shared_structures.specs.declared.stack.StackOp.{StackOp}
use Rattle.shared_structures.specs.declared.stack.StackOp.TheVariants.{Push, Pop}
use Rattle.shared_structures.specs.declared.stack.StackReply.{StackReply}
use Rattle.shared_structures.specs.declared.stack.StackReply.TheVariants.{Popped}
use Rattle.shared_structures.specs.Stacks.{stack, stack_after, stack_reply}
use Rattle.shared_structures.specs.Code.Batches.{objects}
use Rattle.shared_structures.specs.Code.Stacks.{op_of, answer_of}
use Rattle.shared_structures.proofs.Carrying.{carried}

pub are_of_stack : (ops : List StackOp) → AllByRecursion (λ (op : Op). kind_of op ≡ Stack) (map op_of ops)
are_of_stack [] = tt
are_of_stack (Push item ∷ ops) = (refl, are_of_stack ops)
are_of_stack (Pop ∷ ops) = (refl, are_of_stack ops)

steps : (items : List ℕ) (op : StackOp) → after (of_stack items) (op_of op) ≡ of_stack (stack_after items op)
steps items (Push item) = refl
steps items Pop = refl

popped : (item : Option ℕ) → answer_of (number_or_empty item) ≡ Popped item
popped None = refl
popped (Some item) = refl

replies : (items : List ℕ) (op : StackOp) → answer_of (reply_to (of_stack items) (op_of op)) ≡ stack_reply items op
replies items (Push item) = refl
replies items Pop = popped (top items)

pub stack_served : (before : List ℕ) (ops : List StackOp) (rs : List Reply) (given : List StackReply) (now : List ℕ) → given ≡ map answer_of rs
    → IsServedInSomeOrder objects (of_stack before) (map op_of ops) rs (of_stack now) → IsServedInSomeOrder stack before ops given now
stack_served before ops rs given now are is =
    subst (λ l. IsServedInSomeOrder stack before ops l now) (sym are)
    (carried stack objects op_of answer_of of_stack (λ (o : Objects). o.stack) (λ s. refl) steps replies before ops rs (of_stack now) is)
