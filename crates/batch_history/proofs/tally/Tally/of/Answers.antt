use Rattle.std.proofs.Common.{drop, subst, sym, ap, ◌∙◌, ◌+◌}
use Rattle.std.proofs.lemmas.List.{at_drop_all}
use Rattle.batch_history.specs.Book.{flat}
use Rattle.batch_history.specs.Tally.{tally_of}
use Rattle.batch_history.specs.Code.Tallies.{with_entries, Fits}
use Rattle.batch_history.proofs.TallyLemmas.Adding.{from_nothing, with_none, with_batch, fits_before}
use Rattle.batch_history.proofs.TallyLemmas.Bounds.{tally_fits}
use Rattle.batch_history.proofs.tally.Tally.of.Goals as goal

pub loop-batch-init : goal.loop-batch-init
loop-batch-init c = from_nothing (flat c.batches-batch-items.result.now)

pub add_batch-requires : goal.add_batch-requires
add_batch-requires c =
    let book = c.batches-batch-items.result.now in
    let all : Fits (tally_of (flat book)) =
    rw c.batches-batch-items.ensures.batches (tally_fits c.args.history.now c.batches-batch-items.ensures.history c.requires.popped c.requires.taken) in
    let next = with_batch c.loop-batch.tally book c.loop-batch.batch-index c.batch-item.result c.loop-batch-test.true c.batch-item.is in
    rw c.entries.ensures (fits_before (with_entries c.loop-batch.tally c.batch-item.result) (flat (drop (c.loop-batch.batch-index + 1) book))
    (subst Fits (sym (next ∙ c.loop-batch.invariant)) all))

pub loop-batch-preserved : goal.loop-batch-preserved
loop-batch-preserved c =
    let book = c.batches-batch-items.result.now in
    let added = c.add_batch.ensures ∙ ap (with_entries c.loop-batch.tally) c.entries.ensures in
    ap (λ t. with_entries t (flat (drop (c.loop-batch.batch-index + 1) book))) added
    ∙ with_batch c.loop-batch.tally book c.loop-batch.batch-index c.batch-item.result c.loop-batch-test.true c.batch-item.is
    ∙ c.loop-batch.invariant

pub returns : goal.returns
returns c =
    sym (with_none c.loop-batch.tally)
    ∙ sym (at_drop_all (λ b. with_entries c.loop-batch.tally (flat b)) c.batches-batch-items.result.now c.loop-batch.batch-index c.loop-batch-test.false)
    ∙ c.loop-batch.invariant ∙ ap (λ b. tally_of (flat b)) c.batches-batch-items.ensures.batches
