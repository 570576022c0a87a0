use Rattle.std.proofs.Common.{◌≡◌, List, map, subst}
use Rattle.seq_objects.specs.declared.op.Op.{Op}
use Rattle.seq_objects.specs.declared.kind.Kind.TheVariants.{Stack}
use Rattle.seq_objects.specs.Batches.{kind_of}
use Rattle.seq_objects.specs.Serial.{of_stack}
use Rattle.shared_calls.specs.Serial.{IsServedInSomeOrder}
use Rattle.shared_structures.specs.declared.stack.StackOp.{StackOp}
use Rattle.shared_structures.specs.Code.Batches.{objects}
use Rattle.shared_structures.specs.Code.Stacks.{op_of}
use Rattle.shared_structures.proofs.Serving.{each_call}
use Rattle.shared_structures.proofs.StackLemmas.{are_of_stack, stack_served}
use Rattle.shared_structures.proofs.stack.CombinedStackCombined.serve.Goals as goal

pub serve_asked-requires-clause-may : goal.serve_asked-requires-clause-may
serve_asked-requires-clause-may c κs calls mixed =
    each_call (λ (op : Op). kind_of op ≡ Stack) (map op_of c.deref.result.now) calls (are_of_stack c.deref.result.now) mixed

pub returns-clause-served : goal.returns-clause-served
returns-clause-served c =
    let served = c.in_ok-stack.ensures.served in
    let before = c.args.self.stack.items in
    let now = c.in_ok-stack.stack.items in
    let whole = subst (λ (l : List StackOp). IsServedInSomeOrder objects (of_stack before) (map op_of l) served.0 (of_stack now)) c.deref.ensures.value served.2 in
    stack_served before c.args.ops.items served.0 c.in_ok-stack.replies.items now served.1 whole
