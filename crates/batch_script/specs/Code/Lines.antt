-- The lines of a text that are left.
use Rattle.std.specs.Prelude.{ℕ, List, [], Option, None, Some}
use Rattle.std.specs.List.{slice_split}
use Rattle.std.specs.Borrow.{Bor}
use Rattle.batch_script.specs.Scripts.{is_line_feed}

-- the lines of a text, if there is one
abbrev pub lines_in : Option (Bor (List ℕ)) → List (List ℕ)
lines_in None = []
lines_in (Some text) = slice_split (λ byte. is_line_feed byte) text.now
