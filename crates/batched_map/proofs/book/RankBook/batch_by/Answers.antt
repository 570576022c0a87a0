use Rattle.std.proofs.Common.{◌∙◌}
use Rattle.seq_objects.specs.declared.reply.Reply.TheVariants as reply
use Rattle.batched_map.specs.Maps.{operations}
use Rattle.batched_map.proofs.Service.{served}
use Rattle.batched_map.proofs.Serial.{in_parts}
use Rattle.batched_map.proofs.book.RankBook.batch_by.Goals as goal

pub join-requires-clause-some : goal.join-requires-clause-some
join-requires-clause-some g c =
    let begun = rw (c.deref.ensures.value, c.in_ok-operations.ensures) at c.in_ok-pieces.ensures in
    (served c.self.inside.tree (operations c.args.calls.now) c.in_ok-pieces.pieces.items c.in_ok-pieces.groups.items c.in_ok-outs.outs.items
    c.keys_ascend.ensures.ascends (in_parts c.args.calls.now c.requires.batch.order) begun (c.requires.meets _ _ c.in_ok-outs.ensures)).some

pub join-requires-clause-ascends : goal.join-requires-clause-ascends
join-requires-clause-ascends g c =
    let begun = rw (c.deref.ensures.value, c.in_ok-operations.ensures) at c.in_ok-pieces.ensures in
    (served c.self.inside.tree (operations c.args.calls.now) c.in_ok-pieces.pieces.items c.in_ok-pieces.groups.items c.in_ok-outs.outs.items
    c.keys_ascend.ensures.ascends (in_parts c.args.calls.now c.requires.batch.order) begun (c.requires.meets _ _ c.in_ok-outs.ensures)).ascends

pub merge-requires : goal.merge-requires
merge-requires g c =
    let begun = rw (c.deref.ensures.value, c.in_ok-operations.ensures) at c.in_ok-pieces.ensures in
    let service = served c.self.inside.tree (operations c.args.calls.now) c.in_ok-pieces.pieces.items c.in_ok-pieces.groups.items c.in_ok-outs.outs.items
    c.keys_ascend.ensures.ascends (in_parts c.args.calls.now c.requires.batch.order) begun (c.requires.meets _ _ c.in_ok-outs.ensures) in
    rw (c.deref-2.ensures.value, c.in_ok-tree.ensures.replies) service.have

pub returns-clause-entries : goal.returns-clause-entries
returns-clause-entries g c =
    let begun = rw (c.deref.ensures.value, c.in_ok-operations.ensures) at c.in_ok-pieces.ensures in
    let service = served c.self.inside.tree (operations c.args.calls.now) c.in_ok-pieces.pieces.items c.in_ok-pieces.groups.items c.in_ok-outs.outs.items
    c.keys_ascend.ensures.ascends (in_parts c.args.calls.now c.requires.batch.order) begun (c.requires.meets _ _ c.in_ok-outs.ensures) in
    rw (← c.self.view_is) (c.in_ok-tree.ensures.tree ∙ service.tree)

pub returns-clause-replies : goal.returns-clause-replies
returns-clause-replies g c =
    let begun = rw (c.deref.ensures.value, c.in_ok-operations.ensures) at c.in_ok-pieces.ensures in
    let service = served c.self.inside.tree (operations c.args.calls.now) c.in_ok-pieces.pieces.items c.in_ok-pieces.groups.items c.in_ok-outs.outs.items
    c.keys_ascend.ensures.ascends (in_parts c.args.calls.now c.requires.batch.order) begun (c.requires.meets _ _ c.in_ok-outs.ensures) in
    let merged = rw (c.deref-2.ensures.value, c.in_ok-tree.ensures.replies) at (c.in_ok-replies.ensures reply.Empty) in
    rw (← c.self.view_is) (merged ∙ service.merged reply.Empty)
