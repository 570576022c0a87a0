-- What the code relies on of the operations that are drawn.
use Rattle.std.specs.Prelude.{◌≡◌, ℕ, ◌<◌, List, Some, slice_get}
use Rattle.seq_objects.specs.declared.op.Op.{Op}
use Rattle.seq_objects.specs.declared.op.Op.TheVariants.{TreeInsert}

-- the keys inserted into trees fit 16 bits
abbrev pub HaveSmallKeys : List Op → Type 0
HaveSmallKeys ops = (i number key : ℕ) → slice_get ops i ≡ Some (TreeInsert number key) → key < 65536
