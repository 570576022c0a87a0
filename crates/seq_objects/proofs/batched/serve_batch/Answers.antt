use Rattle.seq_objects.proofs.batched.serve_batch.Goals as goal

-- the context of the batch is the structure, the calls and the pieces that `begin` had
pub end-requires : goal.end-requires
end-requires g c =
    (record { before = c.args.structure; calls = c.args.calls.now; ins = c.in_ok-rest.ins.items }, c.in_ok-rest.ensures.remembers, c.in_ok-outs.ensures)
