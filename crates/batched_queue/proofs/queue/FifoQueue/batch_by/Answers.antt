use Rattle.std.proofs.Common.{length, map, ◌∙◌, ap}
use Rattle.batched_queue.specs.Code.Stripes.{lists}
use Rattle.batched_queue.proofs.Serial.{puts_and_gets}
use Rattle.batched_queue.proofs.Service.{comes_to}
use Rattle.batched_queue.proofs.queue.FifoQueue.batch_by.Goals as goal

pub overflow_sub-gets : goal.overflow_sub-gets
overflow_sub-gets g c =
    let order = puts_and_gets c.args.calls.now c.requires.batch.order in
    rw (c.len-added.ensures ∙ c.in_ok-puts.puts.ok.0 ∙ ap length c.in_ok-puts.ensures) order.few

pub replies_of-requires-clause-taken : goal.replies_of-requires-clause-taken
replies_of-requires-clause-taken g c =
    let service = comes_to (lists c.self.inside.stripes.items) c.self.inside.first c.self.inside.count c.args.calls.now c.in_ok-puts.puts.items c.len-added.result c.min-found.result c.in_ok-stripes.stripes.items c.in_ok-stripes-2.stripes.items c.in_ok-stripes.pieces.items c.in_ok-outs.outs.items
    (map (λ v. v.items) c.deref-2.result.now)
    c.self.invariant (puts_and_gets c.args.calls.now c.requires.batch.order) c.in_ok-puts.ensures (c.len-added.ensures ∙ c.in_ok-puts.puts.ok.0) c.min-found.ensures (rw c.deref.ensures.value at c.in_ok-stripes.ensures.cut) (c.requires.meets _ _ c.in_ok-outs.ensures) c.in_ok-stripes.ensures.sixteen
    c.in_ok-stripes-2.ensures.sixteen c.in_ok-stripes-2.ensures.lists (ap (map (λ v. v.items)) c.deref-2.ensures.value ∙ c.in_ok-stripes-2.ensures.taken) in
    service.taken

pub invariant_of-queue : goal.invariant_of-queue
invariant_of-queue g c =
    let service = comes_to (lists c.self.inside.stripes.items) c.self.inside.first c.self.inside.count c.args.calls.now c.in_ok-puts.puts.items c.len-added.result c.min-found.result c.in_ok-stripes.stripes.items c.in_ok-stripes-2.stripes.items c.in_ok-stripes.pieces.items c.in_ok-outs.outs.items
    (map (λ v. v.items) c.deref-2.result.now)
    c.self.invariant (puts_and_gets c.args.calls.now c.requires.batch.order) c.in_ok-puts.ensures (c.len-added.ensures ∙ c.in_ok-puts.puts.ok.0) c.min-found.ensures (rw c.deref.ensures.value at c.in_ok-stripes.ensures.cut) (c.requires.meets _ _ c.in_ok-outs.ensures) c.in_ok-stripes.ensures.sixteen
    c.in_ok-stripes-2.ensures.sixteen c.in_ok-stripes-2.ensures.lists (ap (map (λ v. v.items)) c.deref-2.ensures.value ∙ c.in_ok-stripes-2.ensures.taken) in
    service.keeps

pub returns-clause-items : goal.returns-clause-items
returns-clause-items g c =
    let service = comes_to (lists c.self.inside.stripes.items) c.self.inside.first c.self.inside.count c.args.calls.now c.in_ok-puts.puts.items c.len-added.result c.min-found.result c.in_ok-stripes.stripes.items c.in_ok-stripes-2.stripes.items c.in_ok-stripes.pieces.items c.in_ok-outs.outs.items
    (map (λ v. v.items) c.deref-2.result.now)
    c.self.invariant (puts_and_gets c.args.calls.now c.requires.batch.order) c.in_ok-puts.ensures (c.len-added.ensures ∙ c.in_ok-puts.puts.ok.0) c.min-found.ensures (rw c.deref.ensures.value at c.in_ok-stripes.ensures.cut) (c.requires.meets _ _ c.in_ok-outs.ensures) c.in_ok-stripes.ensures.sixteen
    c.in_ok-stripes-2.ensures.sixteen c.in_ok-stripes-2.ensures.lists (ap (map (λ v. v.items)) c.deref-2.ensures.value ∙ c.in_ok-stripes-2.ensures.taken) in
    rw (← c.self.view_is) service.items

pub returns-clause-replies : goal.returns-clause-replies
returns-clause-replies g c =
    let service = comes_to (lists c.self.inside.stripes.items) c.self.inside.first c.self.inside.count c.args.calls.now c.in_ok-puts.puts.items c.len-added.result c.min-found.result c.in_ok-stripes.stripes.items c.in_ok-stripes-2.stripes.items c.in_ok-stripes.pieces.items c.in_ok-outs.outs.items
    (map (λ v. v.items) c.deref-2.result.now)
    c.self.invariant (puts_and_gets c.args.calls.now c.requires.batch.order) c.in_ok-puts.ensures (c.len-added.ensures ∙ c.in_ok-puts.puts.ok.0) c.min-found.ensures (rw c.deref.ensures.value at c.in_ok-stripes.ensures.cut) (c.requires.meets _ _ c.in_ok-outs.ensures) c.in_ok-stripes.ensures.sixteen
    c.in_ok-stripes-2.ensures.sixteen c.in_ok-stripes-2.ensures.lists (ap (map (λ v. v.items)) c.deref-2.ensures.value ∙ c.in_ok-stripes-2.ensures.taken) in
    rw (← c.self.view_is) (c.in_ok-replies.ensures ∙ service.replies)
