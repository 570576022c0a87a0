use Rattle.std.proofs.Common.{◌≡◌, List, map, subst}
use Rattle.seq_objects.specs.declared.op.Op.{Op}
use Rattle.seq_objects.specs.declared.kind.Kind.TheVariants.{Tree}
use Rattle.seq_objects.specs.Batches.{kind_of}
use Rattle.seq_objects.specs.Serial.{of_set}
use Rattle.shared_calls.specs.Serial.{IsServedInSomeOrder}
use Rattle.shared_structures.specs.declared.set.SetOp.{SetOp}
use Rattle.shared_structures.specs.Code.Batches.{objects}
use Rattle.shared_structures.specs.Code.Sets.{op_of}
use Rattle.shared_structures.proofs.Serving.{each_call}
use Rattle.shared_structures.proofs.SetLemmas.{are_of_set, set_served}
use Rattle.shared_structures.proofs.set.CombinedSetCombined.serve.Goals as goal

pub serve_asked-requires-clause-may : goal.serve_asked-requires-clause-may
serve_asked-requires-clause-may c κs calls mixed =
    each_call (λ (op : Op). kind_of op ≡ Tree) (map op_of c.deref.result.now) calls (are_of_set c.deref.result.now) mixed

pub returns-clause-served : goal.returns-clause-served
returns-clause-served c =
    let served = c.in_ok-set.ensures.served in
    let before = c.args.self.set in
    let now = c.in_ok-set.set in
    let whole = subst (λ (l : List SetOp). IsServedInSomeOrder objects (of_set before) (map op_of l) served.0 (of_set now)) c.deref.ensures.value served.2 in
    set_served before c.args.ops.items served.0 c.in_ok-set.replies.items now served.1 whole
