use Rattle.std.proofs.Common.{◌≤◌, length, map, subst, sym}
use Rattle.job_names.specs.Names.{spelling}
use Rattle.seq_objects.specs.Objects.{number_of}
use Rattle.batch_history.specs.Text.{HaveNames}
use Rattle.batch_history.specs.declared.batch.Entry.{Entry}
use Rattle.batch_history.proofs.BookLemmas.Books.{each_in_batch}
use Rattle.report_picture.proofs.batches.push_brackets.Goals as goal

pub push_bracket-requires-clause-numbers : goal.push_bracket-requires-clause-numbers
push_bracket-requires-clause-numbers c =
    let names = map spelling c.args.names.now in
    let batch = c.index-book-number.result in
    let all = each_in_batch (λ (entry : Entry). number_of entry.op ≤ length names) c.args.book.now c.loop-number.number batch c.loop-number-test.true c.requires.numbers in
    rw c.entries-entries.ensures (subst (HaveNames names) (sym c.index-book-number.is) all)
