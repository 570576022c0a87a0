-- The unread bytes of an open file or of standard input.
use Rattle.std.specs.Prelude.{ℕ, List, Option}
use Rattle.bt_io.specs.declared.std_shelf.Opened.{Opened}
use Rattle.bt_io.specs.declared.std_shelf.Opened.TheVariants.{File, Input}

-- the unread bytes of the source, where known, given how to see those of a file and of an input
abbrev pub left_in : {F I : Type 0} → (F → Option (List ℕ)) → (I → Option (List ℕ)) → Opened F I → Option (List ℕ)
left_in file input (File f) = file f
left_in file input (Input i) = input i
