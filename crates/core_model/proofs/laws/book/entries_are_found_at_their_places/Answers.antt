use Rattle.core_model.proofs.Words.{Entry}
use Rattle.batch_history.proofs.BookLemmas.Books.{each_in_book, found_in_book, place_append}
use Rattle.core_model.proofs.BookLemmas.EntryPlaces.{entry_there}
use Rattle.core_model.proofs.BookLemmas.Standing.{found_stands}
use Rattle.core_model.specs.Operations.{place_of}
use Rattle.std.specs.Prelude.{None, ◌≢◌}
use Rattle.core_model.proofs.laws.book.entries_are_found_at_their_places.Goals as goal

pub returns-clause-leaf : goal.returns-clause-leaf
returns-clause-leaf c book leaf place at = (found_in_book (λ (e : Entry). place_of book e.leaf ≢ None) book leaf place (each_in_book book) at).1

pub returns-clause-stands : goal.returns-clause-stands
returns-clause-stands c = found_stands

pub returns-clause-longer : goal.returns-clause-longer
returns-clause-longer c = place_append

pub returns-clause-each : goal.returns-clause-each
returns-clause-each c book entry distinct there = let found = entry_there book entry distinct there in (found.1.at, found.1.is, found.1.entry)
