use Rattle.std.proofs.Common.{◌≡◌, ◌++◌, length, take, drop, arith}
use Rattle.std.proofs.lemmas.Grind.{common_steps}
use Rattle.batched_pq.proofs.Law.{able, eight, law_replies, law_content}
use Rattle.batched_pq.proofs.queue.QueueBatched.end.Goals as goal

pub replies_of-requires : goal.replies_of-requires
replies_of-requires c = rw c.deref_mut.ensures.value (able c.args.rest c.requires.0 c.args.outs.items c.requires.1 c.requires.2)

pub invariant_of-result : goal.invariant_of-result
invariant_of-result c =
    let eight = eight c.args.rest c.requires.0 c.args.outs.items c.requires.1 c.requires.2 in
    grind (arith, common_steps, eight)

pub returns-clause-replies : goal.returns-clause-replies
returns-clause-replies c = λ o kept met. rw (c.in_ok-replies.ensures.replies, c.deref_mut.ensures.value) (law_replies c.args.rest o c.args.outs.items kept met)

pub returns-clause-content : goal.returns-clause-content
returns-clause-content c = λ o kept met.
    let new = c.replies_of.new.shards in
    let written : take c.args.outs.len (new ++ drop (length new) c.args.outs.items) ≡ new = grind (arith, common_steps) in
    rw (written, c.in_ok-replies.ensures.bag, c.deref_mut.ensures.value) (law_content c.args.rest o c.args.outs.items kept met)
