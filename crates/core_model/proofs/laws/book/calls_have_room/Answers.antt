use Rattle.std.proofs.Common.{refl}
use Rattle.sp_order.specs.Precedence.{leaves}
use Rattle.sp_order.specs.Jobs.{job_tree}
use Rattle.sp_order.specs.Preorder.{nodes_of}
use Rattle.core_model.specs.State.{core_job_with}
use Rattle.core_model.proofs.Inductive.FromParts.{parts_carried}
use Rattle.core_model.proofs.BookLemmas.CallsIn.{call_within}
use Rattle.core_model.proofs.BookLemmas.Room.{few_batches}
use Rattle.core_model.proofs.BookLemmas.UnservedCalls.{among_calls, among_leaves}
use Rattle.core_model.proofs.laws.book.calls_have_room.Goals as goal

pub returns-clause-batches : goal.returns-clause-batches
returns-clause-batches c job state parts = few_batches state.book parts.book.batches

pub returns-clause-plan : goal.returns-clause-plan
returns-clause-plan c job state workers laws there parts distinct unserved = among_calls job state laws parts (parts_carried job state parts) there workers distinct unserved

pub returns-clause-tree : goal.returns-clause-tree
returns-clause-tree c work job count state workers all parts distinct unserved =
    let tree = job_tree job in
    let stands = c.plan_stands_for_tree.ensures tree in
    let laws = c.plan_has_sides.ensures (nodes_of tree) tree stands in
    let h = parts_carried (core_job_with work job count) state parts in (
      among_calls (core_job_with work job count) state laws parts h
          (λ leaf calls. (
            (nodes_of tree).node_of leaf,
            (c.leaf_has_one_node.ensures (nodes_of tree) tree stands leaf ((nodes_of tree).node_of leaf) (rw (← all) (call_within job.acts leaf calls))).1 refl,
          )) workers distinct unserved,
      among_leaves (core_job_with work job count) state laws parts h (leaves tree) (λ leaf calls. rw (← all) (call_within job.acts leaf calls)) workers distinct unserved,
    )
