use Rattle.std.proofs.Common.{◌≡◌, ◌<◌, ℕ, List, length, Some, refl, sym, subst}
use Rattle.std.specs.Prelude.{slice_get}
use Rattle.std.specs.Option.{ForSome}
use Rattle.seq_objects.specs.Spin.{spin_of}
use Rattle.seq_objects.specs.declared.act.Act.{Act}
use Rattle.seq_objects.specs.declared.act.Act.TheVariants.{Work}
use Rattle.batch_history.specs.Lawful.{HasValues}
use Rattle.batch_history.specs.declared.batch.Entry.{Entry}
use Rattle.report_walks.specs.Parts.{of_calls}
use Rattle.report_walks.specs.Code.Calls.{HasReply}
use Rattle.batch_history.specs.declared.row.Row.{Row}
use Rattle.report_walks.proofs.TakenReplies.{work_of_steps, steps_of_work}
use Rattle.report_walks.proofs.Walks.{denied, holds, batch_each, batch_more, batch_done}
use Rattle.report_walks.proofs.values.has_values.Goals as goal

-- the rows have the values of these acts' work
abbrev HaveWork : List Row → List Act → Type 0
HaveWork rows acts = (leaf steps : ℕ) → slice_get acts leaf ≡ Some (Work steps) → ForSome (slice_get rows leaf) (λ row. row.value ≡ spin_of steps)

pub returns-then-not-have_work : goal.returns-then-not-have_work
returns-then-not-have_work c =
    denied (HasValues c.args.job.now (of_calls c.args.book.now c.args.rows.now)) (λ has.
    c.if-not-have_work.ensures.1 (subst (HaveWork c.args.rows.now) (sym c.acts.ensures.acts) (steps_of_work c.args.job.now c.requires.replies c.args.book.now c.args.rows.now has.work)))

pub returns : goal.returns
returns c =
    holds (HasValues c.args.job.now (of_calls c.args.book.now c.args.rows.now)) (record {
      work = work_of_steps c.args.job.now c.requires.replies c.args.book.now c.args.rows.now (subst (HaveWork c.args.rows.now) c.acts.ensures.acts (c.if-not-have_work.ensures.0 refl));
      calls = batch_done (HasReply c.args.rows.now) c.args.book.now c.loop-batch.batch-index c.loop-batch.invariant c.loop-batch-test.false;
    })

pub have_replies-requires : goal.have_replies-requires
have_replies-requires c =
    batch_each c.args.book.now c.loop-batch.batch-index c.batch-item.result c.entries.result.now c.loop-batch-test.true c.batch-item.is c.entries.ensures
    (λ (entry : Entry). entry.leaf < length c.args.rows.now) c.requires.leaves

pub returns-then-not-have_replies : goal.returns-then-not-have_replies
returns-then-not-have_replies c =
    denied (HasValues c.args.job.now (of_calls c.args.book.now c.args.rows.now)) (λ has.
    c.if-not-have_replies.ensures.1 (batch_each c.args.book.now c.loop-batch.batch-index c.batch-item.result c.entries.result.now c.loop-batch-test.true c.batch-item.is c.entries.ensures
    (HasReply c.args.rows.now) has.calls))

pub loop-batch-preserved : goal.loop-batch-preserved
loop-batch-preserved c =
    batch_more c.args.book.now c.loop-batch.batch-index c.batch-item.result c.entries.result.now c.loop-batch-test.true c.batch-item.is c.entries.ensures
    (HasReply c.args.rows.now) c.loop-batch.invariant (c.if-not-have_replies.ensures.0 refl)
