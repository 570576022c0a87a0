-- The view of a heap as a bag: its numbers in ascending order.
use Rattle.std.specs.Prelude.{ℕ, List, [], ◌∷◌}
use Rattle.std.specs.declared.cmp.Reverse.{Reverse}
use Rattle.seq_objects.specs.Objects.{with_item}

abbrev pub ascending : List (Reverse ℕ) → List ℕ
ascending [] = []
ascending (item ∷ items) = with_item item.0 (ascending items)
