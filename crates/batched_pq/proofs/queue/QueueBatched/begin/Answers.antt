use Rattle.std.proofs.Common.{◌≡◌, length, arith}
use Rattle.batched_pq.proofs.BeginLemmas.Dealing.{pieces_count}
use Rattle.batched_pq.proofs.queue.QueueBatched.begin.Goals as goal

pub returns-clause-count : goal.returns-clause-count
returns-clause-count c =
    let eight : length c.in_ok-pieces.pieces.items ≡ 8 = omega (arith, pieces_count _ _ _ c.in_ok-pieces.pieces.items c.in_ok-pieces.ensures.pieces) in
    (omega arith, omega arith)
