-- The operations that leave the opening objects as they are, and those that allocate nothing on objects that are kept.
use Rattle.std.specs.Prelude.{⊤}
use Rattle.seq_objects.specs.declared.op.Op.{Op}
use Rattle.seq_objects.specs.declared.op.Op.TheVariants.{CounterAdd, Push, TreeInsert, PqInsert}

abbrev pub InsertsNothing : Op → Type 0
InsertsNothing (CounterAdd number addend) = ⊥
InsertsNothing (Push number item) = ⊥
InsertsNothing (TreeInsert number key) = ⊥
InsertsNothing (PqInsert number item) = ⊥
InsertsNothing _ = ⊤

-- the operation inserts nothing into a stack, a set or a bag
abbrev pub TakesNone : Op → Type 0
TakesNone (Push number item) = ⊥
TakesNone (TreeInsert number key) = ⊥
TakesNone (PqInsert number item) = ⊥
TakesNone _ = ⊤
