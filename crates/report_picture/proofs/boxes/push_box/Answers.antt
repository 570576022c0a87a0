use Rattle.std.proofs.Common.{◌≤◌, length, map, sym, ◌∙◌, subst}
use Rattle.std.proofs.lemmas.List.{length-map}
use Rattle.job_names.specs.Names.{spelling}
use Rattle.seq_objects.specs.Objects.{number_of}
use Rattle.batch_history.specs.declared.batch.Entry.{Entry}
use Rattle.batch_history.proofs.BookLemmas.Books.{found_in_book}
use Rattle.report_picture.proofs.boxes.push_box.Goals as goal

pub push_called-requires-clause-number : goal.push_called-requires-clause-number
push_called-requires-clause-number c =
    let names = c.args.names.now in
    let place = c.in-Some.place in
    let found = found_in_book (λ (entry : Entry). number_of entry.op ≤ length (map spelling names)) c.args.book.now c.args.row.now.leaf place c.requires.numbers
    (sym c.place_of.ensures ∙ c.in-Some.is) in
    subst (λ n. number_of place.entry.op ≤ n) (length-map names spelling) found.0
