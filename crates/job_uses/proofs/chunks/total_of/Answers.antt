use Rattle.std.proofs.Common.{◌≡◌, ◌<◌, ◌+◌, ◌*◌, length, take, ap, ◌∙◌, arith}
use Rattle.std.specs.Prelude.{slice_get, sum}
use Rattle.std.specs.Int.{div_ceil}
use Rattle.leaf_handles.specs.Handles.{HandleValue}
use Rattle.sp_order.specs.Jobs.{JobValue}
use Rattle.job_results.specs.Results.{calls_of}
use Rattle.job_uses.specs.Chunks.{chunk_of}
use Rattle.job_uses.proofs.ChunkSums.{act_at, act_count, all_chunks, few_items, handle_at, handle_count, more_chunks}
use Rattle.job_uses.proofs.Plain.{own_value}
use Rattle.job_uses.proofs.chunks.total_of.Goals as goal

pub value_of-total-requires : goal.value_of-total-requires
value_of-total-requires c =
    let ran = c.args.ran.now in
    let chunks = div_ceil (length ran.work.items.now) ran.work.width in
    let count = handle_count chunks c.args.leaves.now c.requires.chunks.handles in
    let less : c.loop-leaf.leaf-index < chunks = let inside = c.loop-leaf-test.true in omega (arith, count, inside) in
    let own = ap (λ (handle : HandleValue). handle.leaf) (c.leaf-item.is ∙ handle_at chunks c.loop-leaf.leaf-index c.args.leaves.now c.leaf-item.result c.requires.chunks.handles less) in
    let acts = act_count chunks ran.job.acts c.requires.chunks.acts in
    let leaves = c.acts-acts.ensures.job.leaves in
    let same = ap (λ (job : JobValue). length job.acts) c.job.ensures in
    let shape = ap (λ (job : JobValue). Rattle.sp_order.specs.Precedence.leaf_count job.shape) c.job.ensures in
    omega (arith, own, less, acts, leaves, same, shape)

pub overflow_add-total : goal.overflow_add-total
overflow_add-total c =
    let ran = c.args.ran.now in
    let chunks = div_ceil (length ran.work.items.now) ran.work.width in
    let count = handle_count chunks c.args.leaves.now c.requires.chunks.handles in
    let less : c.loop-leaf.leaf-index < chunks = let inside = c.loop-leaf-test.true in omega (arith, count, inside) in
    let own = ap (λ (handle : HandleValue). handle.leaf) (c.leaf-item.is ∙ handle_at chunks c.loop-leaf.leaf-index c.args.leaves.now c.leaf-item.result c.requires.chunks.handles less) in
    let act = ap (slice_get ran.job.acts) own ∙ act_at chunks c.loop-leaf.leaf-index ran.job.acts c.requires.chunks.acts less in
    let value = own_value (λ number. sum (chunk_of ran.work.width ran.work.items.now number)) ran.job (calls_of ran) c.leaf-item.result.leaf c.value_of-total.result c.loop-leaf.leaf-index
    c.requires.chunks.plain act c.value_of-total.ensures.serial in
    let more = more_chunks ran.work.items.now ran.work.width c.loop-leaf.leaf-index in
    let few = few_items ran.work.items.now ((c.loop-leaf.leaf-index + 1) * ran.work.width) in
    let small = ran.work.small in
    let was = c.loop-leaf.invariant in
    omega (arith, value, more, few, small, was)

pub loop-leaf-preserved : goal.loop-leaf-preserved
loop-leaf-preserved c =
    let ran = c.args.ran.now in
    let chunks = div_ceil (length ran.work.items.now) ran.work.width in
    let count = handle_count chunks c.args.leaves.now c.requires.chunks.handles in
    let less : c.loop-leaf.leaf-index < chunks = let inside = c.loop-leaf-test.true in omega (arith, count, inside) in
    let own = ap (λ (handle : HandleValue). handle.leaf) (c.leaf-item.is ∙ handle_at chunks c.loop-leaf.leaf-index c.args.leaves.now c.leaf-item.result c.requires.chunks.handles less) in
    let act = ap (slice_get ran.job.acts) own ∙ act_at chunks c.loop-leaf.leaf-index ran.job.acts c.requires.chunks.acts less in
    let value = own_value (λ number. sum (chunk_of ran.work.width ran.work.items.now number)) ran.job (calls_of ran) c.leaf-item.result.leaf c.value_of-total.result c.loop-leaf.leaf-index
    c.requires.chunks.plain act c.value_of-total.ensures.serial in
    (λ i. c.loop-leaf.invariant i + value i) ∙ more_chunks ran.work.items.now ran.work.width c.loop-leaf.leaf-index

pub returns : goal.returns
returns c =
    let ran = c.args.ran.now in
    let chunks = div_ceil (length ran.work.items.now) ran.work.width in
    let count = handle_count chunks c.args.leaves.now c.requires.chunks.handles in
    let all : c.loop-leaf.leaf-index ≡ chunks = let end = c.loop-leaf.auto.leaf-index-end in let past = c.loop-leaf-test.false in omega (arith, count, end, past) in
    c.loop-leaf.invariant ∙ ap (λ n. sum (take (n * ran.work.width) ran.work.items.now)) all ∙ all_chunks ran.work.items.now ran.work.width c.requires.width
