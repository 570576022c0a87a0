use Rattle.std.proofs.Common.{◌≡◌, ◌<◌, ℕ, List, length, get_or, Some, true, false, refl}
use Rattle.std.specs.Prelude.{slice_get}
use Rattle.std.proofs.lemmas.Option.{slice_get_read}
use Rattle.report_walks.specs.Code.Ticks.{HaveRows}
use Rattle.batch_history.specs.declared.row.Row.{Row}
use Rattle.batch_history.specs.declared.batch.Entry.{Entry}
use Rattle.report_walks.proofs.TickWalk.{keeps_more, reached_more, must_end, all_kept, in_batch, InBook}
use Rattle.report_walks.proofs.ticks.keeps_ticks.Goals as goal

-- the entries of a batch of the book
batch_at : (book : List (List Entry)) (number : ℕ) (item entries : List Entry) → number < length book → item ≡ get_or book number item → entries ≡ item → slice_get book number ≡ Some entries
batch_at book number item entries low is same = rw same (slice_get_read book (length book) number item refl low is)

rows_there : (book : List (List Entry)) (rows : List Row) (number : ℕ) (entries : List Entry) → ((number : ℕ) (entry : Entry) → InBook book number entry → entry.leaf < length rows) → slice_get book number ≡ Some entries → HaveRows rows entries
rows_there book rows number entries all is place entry at = all number entry (in_batch book number entries place entry is at)

pub latest_start-latest-requires : goal.latest_start-latest-requires
latest_start-latest-requires c =
    rows_there c.args.book.now c.args.rows.now c.loop-batch.batch-index c.entries-entries.result.now c.requires
    (batch_at c.args.book.now c.loop-batch.batch-index c.batch-item.result c.entries-entries.result.now c.loop-batch-test.true c.batch-item.is c.entries-entries.ensures)

pub all_end_from-requires : goal.all_end_from-requires
all_end_from-requires c =
    rows_there c.args.book.now c.args.rows.now c.loop-batch.batch-index c.entries-entries.result.now c.requires
    (batch_at c.args.book.now c.loop-batch.batch-index c.batch-item.result c.entries-entries.result.now c.loop-batch-test.true c.batch-item.is c.entries-entries.ensures)

pub returns-then-not-all_end_from : goal.returns-then-not-all_end_from
returns-then-not-all_end_from c =
    let at = batch_at c.args.book.now c.loop-batch.batch-index c.batch-item.result c.entries-entries.result.now c.loop-batch-test.true c.batch-item.is c.entries-entries.ensures in (
      λ is. absurd (let wrong : false ≡ true = is in cc (wrong)),
      λ keeps. c.if-not-all_end_from.ensures.1 (must_end c.args.book.now c.args.rows.now c.loop-batch.batch-index c.latest_start-latest.result c.entries-entries.result.now at
          (reached_more c.args.book.now c.args.rows.now c.loop-batch.batch-index c.loop-batch.latest c.latest_start-latest.result c.entries-entries.result.now c.loop-batch.invariant at c.latest_start-latest.ensures) keeps),
    )

pub loop-batch-preserved : goal.loop-batch-preserved
loop-batch-preserved c =
    let at = batch_at c.args.book.now c.loop-batch.batch-index c.batch-item.result c.entries-entries.result.now c.loop-batch-test.true c.batch-item.is c.entries-entries.ensures in
    keeps_more c.args.book.now c.args.rows.now c.loop-batch.batch-index c.loop-batch.latest c.latest_start-latest.result c.entries-entries.result.now c.loop-batch.invariant at c.latest_start-latest.ensures
    (c.if-not-all_end_from.ensures.0 refl)

pub returns : goal.returns
returns c = (λ is. all_kept c.args.book.now c.args.rows.now c.loop-batch.batch-index c.loop-batch.latest c.loop-batch.invariant c.loop-batch-test.false, λ keeps. refl)
