-- Totals over the operations of a job: how many there are of a kind, the sums of the numbers that they carry, and the
-- keys that they insert.
use Rattle.std.specs.Prelude.{ℕ, ◌+◌, List, [], ◌∷◌}
use Rattle.seq_objects.specs.declared.op.Op.{Op}
use Rattle.seq_objects.specs.declared.op.Op.TheVariants.{CounterAdd, Push, Pop, TreeInsert, TreeRemove, TreeFind, PqInsert, PqTake}
use Rattle.seq_objects.specs.declared.act.Act.{Act}
use Rattle.seq_objects.specs.declared.act.Act.TheVariants.{Work, Call}
use Rattle.seq_objects.specs.Objects.{has, with_key}
use Rattle.seq_objects.specs.Orders.{one_if}

-- the addend of a counter add, else 0
abbrev pub added : Op → ℕ
added (CounterAdd number addend) = addend
added _ = 0

-- for a push of the stack, 1, and the number that it pushes
abbrev pub pushes : Op → ℕ
pushes (Push number item) = 1
pushes _ = 0

abbrev pub pushed : Op → ℕ
pushed (Push number item) = item
pushed _ = 0

-- 1 for a pop of the stack
abbrev pub pops : Op → ℕ
pops (Pop number) = 1
pops _ = 0

-- 1 for an insert of the tree, for a removal, for a find
abbrev pub tree_inserts : Op → ℕ
tree_inserts (TreeInsert number key) = 1
tree_inserts _ = 0

abbrev pub tree_removes : Op → ℕ
tree_removes (TreeRemove number key) = 1
tree_removes _ = 0

abbrev pub tree_finds : Op → ℕ
tree_finds (TreeFind number key) = 1
tree_finds _ = 0

-- 1 for a find of the tree whose key is in the set
abbrev pub finds_in : List ℕ → Op → ℕ
finds_in set (TreeFind number key) = one_if (has key set)
finds_in set _ = 0

-- for an insert of the queue, 1, and the number that it inserts
abbrev pub queue_inserts : Op → ℕ
queue_inserts (PqInsert number item) = 1
queue_inserts _ = 0

abbrev pub queue_inserted : Op → ℕ
queue_inserted (PqInsert number item) = item
queue_inserted _ = 0

-- 1 for a take of the queue
abbrev pub queue_takes : Op → ℕ
queue_takes (PqTake number) = 1
queue_takes _ = 0

-- the count of a call's operation, and 0 for work
abbrev pub count_of_act : (Op → ℕ) → Act → ℕ
count_of_act count (Work steps) = 0
count_of_act count (Call op) = count op

-- the sum of the counts of the acts
abbrev pub total : (Op → ℕ) → List Act → ℕ
total count [] = 0
total count (act ∷ acts) = count_of_act count act + total count acts

-- the set, with the key of an insert of the tree
abbrev pub with_key_of : Act → List ℕ → List ℕ
with_key_of (Call (TreeInsert number key)) set = with_key key set
with_key_of _ set = set

-- the set of keys that the acts insert into the tree
abbrev pub keys_inserted : List Act → List ℕ
keys_inserted [] = []
keys_inserted (act ∷ acts) = with_key_of act (keys_inserted acts)
