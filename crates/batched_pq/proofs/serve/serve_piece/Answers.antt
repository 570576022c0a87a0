use Rattle.batched_pq.proofs.Law.{prepared}
use Rattle.batched_pq.proofs.serve.serve_piece.Goals as goal

pub returns : goal.returns
returns c =
    let items = rw c.deref.ensures.value at c.in_ok-out.ensures.items in
    prepared c.args.piece c.in_ok-out.out c.in_ok-out.ensures.ascends items c.in_ok-out.ensures.ready
