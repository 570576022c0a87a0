use Rattle.std.proofs.Common.{length, arith, ap, sym, ◌∙◌}
use Rattle.batch_history.specs.Places.{place_of}
use Rattle.batch_history.proofs.BookLemmas.Search.{batch_short}
use Rattle.report_picture.proofs.Finding.{found_first, found_none}
use Rattle.report_picture.proofs.find.place_of.Goals as goal

pub place_in-found-requires : goal.place_in-found-requires
place_in-found-requires c =
    let short = batch_short c.args.book.now c.loop-number.number c.index-book-number.result c.loop-number-test.true in
    omega (arith, short, c.requires.few_entries, ap length c.entries.ensures, ap length c.index-book-number.is)

pub returns-then-is_some : goal.returns-then-is_some
unfolding place_of
returns-then-is_some c =
    found_first c.args.book.now c.loop-number.number c.index-book-number.result c.args.leaf c.place_in-found.result c.loop-number-test.true
    c.index-book-number.is (rw c.entries.ensures at c.place_in-found.ensures) (sym c.is_some.ensures ∙ c.if-is_some.true)
    ∙ sym c.loop-number.invariant

pub returns : goal.returns
unfolding place_of
returns c = sym (c.loop-number.invariant ∙ found_none c.args.book.now c.loop-number.number c.args.leaf c.loop-number-test.false)
