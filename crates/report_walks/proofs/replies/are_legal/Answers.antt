use Rattle.std.proofs.Common.{◌+◌, ◌++◌, length, drop, sym, subst, arith}
use Rattle.std.proofs.lemmas.List.{length-append}
use Rattle.seq_objects.specs.Kept.{store_in}
use Rattle.seq_objects.specs.Stores.{Store}
use Rattle.report_walks.specs.Code.Rooms.{HasRoom}
use Rattle.batch_history.specs.Book.{flat, IsLegal, IsLegalFrom}
use Rattle.batch_history.proofs.BookLemmas.Books.{legal_append}
use Rattle.report_walks.proofs.Walks.{denied, flat_opened, flat_closed}
use Rattle.report_walks.proofs.ReplyWalk.{legal_parts}
use Rattle.report_walks.proofs.replies.are_legal.Goals as goal

pub returns-then-not-branch : goal.returns-then-not-branch
returns-then-not-branch c = denied (IsLegal c.args.book.now) (λ legal.
    absurd (c.in_ok-serve_batch.ensures.not c.if-not-branch.true
    (legal_parts (store_in c.loop-batch.objects) c.entries.result.now (flat (drop (c.loop-batch.batch-index + 1) c.args.book.now))
    (flat_opened c.args.book.now c.loop-batch.batch-index c.batch-item.result c.entries.result.now c.loop-batch-test.true c.batch-item.is c.entries.ensures (IsLegalFrom (store_in c.loop-batch.objects)) (c.loop-batch.invariant.legal.1 legal))).0))

pub loop-batch-preserved : goal.loop-batch-preserved
loop-batch-preserved c =
    let entries = c.entries.result.now in
    let rest = flat (drop (c.loop-batch.batch-index + 1) c.args.book.now) in
    let same = c.in_ok-serve_batch.ensures.same c.if-not-branch.false in
    let room : HasRoom (store_in c.loop-batch.objects) (length (entries ++ rest)) =
    flat_opened c.args.book.now c.loop-batch.batch-index c.batch-item.result entries c.loop-batch-test.true c.batch-item.is c.entries.ensures
    (λ es. HasRoom (store_in c.loop-batch.objects) (length es)) c.loop-batch.invariant.room in
    record {
      room = λ number. omega (arith, room number, c.in_ok-serve_batch.ensures.most number, length-append entries rest);
      legal = (
        λ more. c.loop-batch.invariant.legal.0 (flat_closed c.args.book.now c.loop-batch.batch-index c.batch-item.result entries c.loop-batch-test.true c.batch-item.is c.entries.ensures (IsLegalFrom (store_in c.loop-batch.objects))
            (legal_append (store_in c.loop-batch.objects) entries rest same.0 (subst (λ (s : Store). IsLegalFrom s rest) same.1 more))),
        λ all. subst (λ (s : Store). IsLegalFrom s rest) (sym same.1)
            (legal_parts (store_in c.loop-batch.objects) entries rest (flat_opened c.args.book.now c.loop-batch.batch-index c.batch-item.result entries c.loop-batch-test.true c.batch-item.is c.entries.ensures (IsLegalFrom (store_in c.loop-batch.objects)) (c.loop-batch.invariant.legal.1 all))).1,
      );
    }
