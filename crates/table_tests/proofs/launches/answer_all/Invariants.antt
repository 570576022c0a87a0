use Rattle.std.proofs.Common.{◌≡◌, List, [], ◌∷◌, ◌++◌, length}
use Rattle.batch_history.specs.declared.batch.Entry.{Entry}
use Rattle.table_tests.specs.Launches.{Answers}
use Rattle.table_tests.proofs.launches.answer_all.Given as goal

-- the entries before the place are answered
abbrev pub invariant-loop-place : goal.invariant-loop-place
invariant-loop-place l =
    (before : List (List Entry)) × (before ++ l.batch ∷ [] ≡ l.shop) × (length before ≡ l.number) × Answers l.table before l.batch l.place l.pass
