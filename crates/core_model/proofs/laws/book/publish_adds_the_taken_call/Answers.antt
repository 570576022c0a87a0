use Rattle.core_model.proofs.Inductive.FromParts.{parts_carried}
use Rattle.core_model.proofs.BookLemmas.OwnEntries.{same_book, untaken_stays, taken_is_added}
use Rattle.core_model.proofs.laws.book.publish_adds_the_taken_call.Goals as goal

pub returns-clause-other : goal.returns-clause-other
returns-clause-other c job old new worker event happens other = same_book job old new worker event happens.does other

pub returns-clause-untaken : goal.returns-clause-untaken
returns-clause-untaken c job old new worker laws parts happens w untaken =
    rw happens.does.2 (untaken_stays job laws old (parts_carried job old parts) worker happens.needs happens.does.0 happens.does.1 w untaken)

pub returns-clause-taken : goal.returns-clause-taken
returns-clause-taken c job old new worker laws parts happens w taken =
    rw happens.does.2 (taken_is_added job laws old (parts_carried job old parts) worker happens.needs happens.does.0 happens.does.1 w taken)
