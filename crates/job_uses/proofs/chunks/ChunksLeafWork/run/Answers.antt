use Rattle.std.proofs.Common.{◌≡◌, ◌*◌, length, take, drop, ap, ◌∙◌, arith}
use Rattle.std.specs.Prelude.{min, sum}
use Rattle.job_uses.proofs.ChunkSums.{chunk_cut, small_chunk}
use Rattle.job_uses.proofs.chunks.ChunksLeafWork.run.Goals as goal

pub sum_of-requires : goal.sum_of-requires
sum_of-requires c =
    let f = c.args.self.now in
    let same : min c.saturating_mul-start.result (length f.items.now) ≡ min (c.args.number * f.width) (length f.items.now) = first_of (omega arith, grind arith) in
    let cut = chunk_cut f.items.now c.split_at.result.1.now c.split_at-2.result.0.now f.width c.args.number c.saturating_mul-start.result
    (c.split_at.ensures.back ∙ ap (λ n. drop n f.items.now) c.min.ensures) (c.split_at-2.ensures.front ∙ ap (λ n. take n c.split_at.result.1.now) c.min-2.ensures) same in
    let own = ap sum cut in
    let few = small_chunk f.items.now f.width c.args.number in
    let small = f.small in
    omega (arith, own, few, small)

pub returns : goal.returns
returns c =
    let f = c.args.self.now in
    let same : min c.saturating_mul-start.result (length f.items.now) ≡ min (c.args.number * f.width) (length f.items.now) = first_of (omega arith, grind arith) in
    let cut = chunk_cut f.items.now c.split_at.result.1.now c.split_at-2.result.0.now f.width c.args.number c.saturating_mul-start.result
    (c.split_at.ensures.back ∙ ap (λ n. drop n f.items.now) c.min.ensures) (c.split_at-2.ensures.front ∙ ap (λ n. take n c.split_at.result.1.now) c.min-2.ensures) same in
    c.sum_of.ensures ∙ ap sum cut
