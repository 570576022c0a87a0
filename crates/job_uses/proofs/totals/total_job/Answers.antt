use Rattle.std.proofs.Common.{◌≡◌, ◌+◌, ◌*◌, ◌<◌, length, map, true, None, Some, sym, ap, ◌∙◌, subst, arith}
use Rattle.std.specs.List.{range_with_len}
use Rattle.std.proofs.lemmas.Result.{err_from_is_err_and}
use Rattle.leaf_handles.specs.Handles.{HandleValue}
use Rattle.seq_objects.specs.declared.act.Act.TheVariants.{Work}
use Rattle.job_builder.specs.Drafts.{Draft, built, closed, may_use, with_leaf}
use Rattle.job_uses.specs.Sums.{add_of}
use Rattle.job_uses.specs.Totals.{AddsChunks}
use Rattle.job_uses.proofs.ChunkSums.{handle, handle_at, handle_count, more_handles}
use Rattle.job_uses.proofs.Refusals.{no_use}
use Rattle.job_uses.proofs.TotalJobs.{calling, calling_long, calling_more, ending, may_take, total_built, works_long, works_more}
use Rattle.job_uses.proofs.totals.total_job.Goals as goal

pub loop-chunk-preserved : goal.loop-chunk-preserved
loop-chunk-preserved c =
    let before = c.loop-chunk.invariant in
    let count = ap (λ (draft : Draft). length draft.acts) before.draft ∙ works_long c.loop-chunk.chunk in
    let room = c.in_ok-work.ensures.room in
    record {
      draft = c.in_ok-work.ensures.ok ∙ ap (λ (draft : Draft). with_leaf draft (Work c.loop-chunk.chunk) None None) before.draft ∙ works_more c.loop-chunk.chunk;
      few = omega (arith, room, count);
      handles = more_handles c.loop-chunk.chunk c.loop-chunk.leaves.items c.push.new.self.items c.in_ok-work.field-0 before.handles c.in_ok-push.ensures.items
          (ap (λ (handle : HandleValue). handle.job) c.in_ok-work.ensures.handle ∙ ap (λ (draft : Draft). draft.job) before.draft)
          (ap (λ (handle : HandleValue). handle.leaf) c.in_ok-work.ensures.handle ∙ count);
    }

pub loop-leaf-preserved : goal.loop-leaf-preserved
loop-leaf-preserved c =
    let all : c.loop-chunk.chunk ≡ c.args.chunks = let end = c.loop-chunk.auto.chunk-end in let past = c.loop-chunk-test.false in omega (arith, end, past) in
    let handles = c.as_slice-leaf-items.ensures.value ∙ c.loop-chunk.invariant.handles ∙ ap (λ n. map handle (range_with_len 0 n)) all in
    let count = handle_count c.args.chunks c.as_slice-leaf-items.result.now handles in
    let less : c.loop-leaf.leaf-index < c.args.chunks = let inside = c.loop-leaf-test.true in omega (arith, count, inside) in
    let own : c.leaf-item.result ≡ handle c.loop-leaf.leaf-index = c.leaf-item.is ∙ handle_at c.args.chunks c.loop-leaf.leaf-index c.as_slice-leaf-items.result.now c.leaf-item.result handles less in
    c.in_ok-call_with.ensures.ok ∙ (λ i. with_leaf (c.loop-leaf.invariant i) (add_of 0) (Some (own i).leaf) None) ∙ calling_more c.args.chunks c.loop-leaf.leaf-index

pub returns-in_err-call_with-clause-cause : goal.returns-in_err-call_with-clause-cause
returns-in_err-call_with-clause-cause c =
    let all : c.loop-chunk.chunk ≡ c.args.chunks = let end = c.loop-chunk.auto.chunk-end in let past = c.loop-chunk-test.false in omega (arith, end, past) in
    let handles = c.as_slice-leaf-items.ensures.value ∙ c.loop-chunk.invariant.handles ∙ ap (λ n. map handle (range_with_len 0 n)) all in
    let count = handle_count c.args.chunks c.as_slice-leaf-items.result.now handles in
    let less : c.loop-leaf.leaf-index < c.args.chunks = let inside = c.loop-leaf-test.true in omega (arith, count, inside) in
    let own : c.leaf-item.result ≡ handle c.loop-leaf.leaf-index = c.leaf-item.is ∙ handle_at c.args.chunks c.loop-leaf.leaf-index c.as_slice-leaf-items.result.now c.leaf-item.result handles less in
    let may : may_use c.loop-leaf.job c.leaf-item.result ≡ true =
    (λ i. may_use (c.loop-leaf.invariant i) (own i)) ∙ may_take c.args.chunks c.loop-leaf.leaf-index c.loop-leaf.leaf-index less in
    let long = ap (λ (draft : Draft). length draft.acts) c.loop-leaf.invariant ∙ calling_long c.args.chunks c.loop-leaf.leaf-index in
    let p = err_from_is_err_and c.from_residual-in_err-call_with.result c.from_residual-in_err-call_with.ensures.1 in
    rw (p.1, p.2) (no_use (2 * c.args.chunks + 1) c.loop-leaf.job c.leaf-item.result _ (omega (arith, long, less)) may c.in_err-call_with.ensures.cause)

pub returns-clause-job : goal.returns-clause-job
returns-clause-job c =
    let chunks = c.args.chunks in
    let all : c.loop-chunk.chunk ≡ chunks = let end = c.loop-chunk.auto.chunk-end in let past = c.loop-chunk-test.false in omega (arith, end, past) in
    let handles = c.as_slice-leaf-items.ensures.value ∙ c.loop-chunk.invariant.handles ∙ ap (λ n. map handle (range_with_len 0 n)) all in
    let count = handle_count chunks c.as_slice-leaf-items.result.now handles in
    let last : c.loop-leaf.leaf-index ≡ chunks = let end = c.loop-leaf.auto.leaf-index-end in let past = c.loop-leaf-test.false in omega (arith, count, end, past) in
    let calls : c.close-2.new.self ≡ closed (calling chunks chunks) = c.in_ok-close-2.ensures.ok ∙ ap closed (c.loop-leaf.invariant ∙ ap (calling chunks) last) in
    let draft : c.call.new.self ≡ ending chunks = c.in_ok-last.ensures.ok ∙ ap (λ (draft : Draft). with_leaf draft (add_of 0) None None) calls in
    let job : c.in_ok-finish.field-0 ≡ built (ending chunks) = c.in_ok-finish.ensures.ok ∙ ap built draft in
    let leaf : c.in_ok-last.last.leaf ≡ chunks + chunks =
    ap (λ (handle : HandleValue). handle.leaf) c.in_ok-last.ensures.handle ∙ ap (λ (draft : Draft). length draft.acts) calls ∙ calling_long chunks chunks in
    subst (λ j. AddsChunks chunks j c.in_ok-last.last.leaf) (sym job) (subst (λ n. AddsChunks chunks (built (ending chunks)) n) (sym leaf) (total_built chunks))
