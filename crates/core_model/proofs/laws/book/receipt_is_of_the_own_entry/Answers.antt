use Rattle.core_model.proofs.BookLemmas.Receipts.{own_entry}
use Rattle.core_model.proofs.laws.book.receipt_is_of_the_own_entry.Goals as goal

pub returns : goal.returns
returns c job state worker node leaf op receipt parts is started does = own_entry job state worker node leaf op receipt parts started does is
