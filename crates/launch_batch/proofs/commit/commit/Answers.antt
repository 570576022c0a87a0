use Rattle.std.proofs.Common.{◌++◌, ◌∷◌, []}
use Rattle.launch_batch.proofs.BatchLemmas.Ending.{as_many, service, history, kept}
use Rattle.launch_batch.proofs.commit.commit.Goals as goal

pub batch_of-requires : goal.batch_of-requires
batch_of-requires c =
    let a = c.args in
    as_many a.structures.value a.history a.calls.now a.replies.now c.requires.0 c.requires.1

pub append-requires : goal.append-requires
append-requires c =
    let a = c.args in
    let calls = c.in_ok-batch.ensures.calls in
    history a.structures.value a.history a.calls.now a.replies.now c.requires.0 c.requires.1 c.in_ok-batch.batch calls c.batches.ensures.history
    (service a.structures.value a.history a.calls.now a.replies.now c.requires.0 c.requires.1 c.in_ok-batch.batch calls c.in_ok-batch.ensures.replies)

pub invariant_of-result : goal.invariant_of-result
invariant_of-result c =
    let a = c.args in
    rw c.in_ok-append.ensures.ok
    (kept a.structures.value a.history a.calls.now a.replies.now c.requires.0 c.requires.1 c.in_ok-batch.batch c.in_ok-batch.ensures.calls)

pub returns : goal.returns
returns c = λ given r.
    let a = c.args in
    let batch = c.in_ok-batch.batch in (
      batch,
      service a.structures.value a.history a.calls.now a.replies.now given r batch c.in_ok-batch.ensures.calls c.in_ok-batch.ensures.replies,
      c.in_ok-append.ensures.ok,
    )
