-- Whether a node is done, and which node a task names.
use Rattle.core_model.specs.Words.{Progress, Done, Ran, Ready, Taken, Waiting, Task, Ended, Half, Handed, Idle, Kept, Run, Started, Whole}
use Rattle.std.specs.Prelude.{Bool, None, Option, Some, false, true, ℕ}

abbrev pub is_done : Progress → Bool
is_done Waiting = false
is_done Ready = false
is_done Taken = false
is_done Done = true
is_done (Ran worker start end) = true

-- the node that a task names, if any
abbrev pub names : Task → Option ℕ
names Idle = None
names (Run n) = Some n
names (Half n) = Some n
names (Started n s) = Some n
names (Kept n s) = Some n
names (Ended n s e) = Some n
names (Whole n) = Some n
names (Handed n) = Some n
