use Rattle.std.proofs.Common.{◌≡◌, ◌++◌, take}
use Rattle.std.specs.Prelude.{string_bytes}
use Rattle.leaf_places.specs.Rows.{copies_words}
use Rattle.leaf_places.proofs.rows.push_copies.Given as goal

abbrev pub invariant-loop-copy : goal.invariant-loop-copy
invariant-loop-copy l = string_bytes l.text ≡ string_bytes l.initial.text ++ copies_words (take l.copy-index l.copies)
