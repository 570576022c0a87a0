use Rattle.std.proofs.Common.{◌≡◌, ◌≢◌, List, [], ◌++◌, length}
use Rattle.std.specs.List.{AllByRecursion}
use Rattle.report_reader.specs.Code.Groups.{numbered_book, AreCallsOf}
use Rattle.batch_history.specs.declared.batch.Entry.{Entry}
use Rattle.report_reader.proofs.batches.batches_of.Given as goal

-- what was read, and what is left of each book that has these calls
abbrev pub invariant-loop-rest : goal.invariant-loop-rest
invariant-loop-rest l = record {
  read : numbered_book 0 l.book.items ++ l.rest ≡ l.calls;
  some : AllByRecursion (λ (entries : List Entry). entries ≢ []) l.book.items;
  left : (book : List (List Entry)) → AreCallsOf l.calls 0 book → (left : List (List Entry)) × AreCallsOf l.rest (length l.book.items) left;
}

abbrev pub decreases-loop-rest : goal.decreases-loop-rest
decreases-loop-rest l = length l.rest
