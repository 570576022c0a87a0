-- The inserts and takes of a batch.
use Rattle.std.specs.Prelude.{ℕ, ◌+◌, ◌%◌, ◌==◌, if◌then◌else◌, List, [], ◌∷◌, Some, None}
use Rattle.std.specs.declared.option.Option.{Option}
use Rattle.seq_objects.specs.declared.op.Op.{Op}
use Rattle.seq_objects.specs.declared.op.Op.TheVariants.{PqInsert, PqTake}
use Rattle.seq_objects.specs.declared.call.Call.{Call}
use Rattle.seq_objects.specs.declared.kind.Kind.TheVariants.{Queue}
use Rattle.seq_objects.specs.Batches.{AreOf}

-- the item that an operation inserts, if it is an insert
abbrev pub item_of : Op → Option ℕ
item_of (PqInsert number item) = Some item
item_of _ = None

-- 1 for a take, 0 for any other operation
abbrev pub takes_in : Op → ℕ
takes_in (PqTake number) = 1
takes_in _ = 0

-- the item, if there is one, in front of the list
abbrev pub and_then : Option ℕ → List ℕ → List ℕ
and_then None items = items
and_then (Some item) items = item ∷ items

-- the inserted items, in call order
abbrev pub inserts_of : List Call → List ℕ
inserts_of [] = []
inserts_of (call ∷ calls) = and_then (item_of call.op) (inserts_of calls)

-- the number of takes
abbrev pub takes_of : List Call → ℕ
takes_of [] = 0
takes_of (call ∷ calls) = takes_in call.op + takes_of calls

-- the inserts of one shard, where the first of the list has number i: insert i goes to shard i % 8
abbrev pub inserts_for : ℕ → ℕ → List ℕ → List ℕ
inserts_for shard i [] = []
inserts_for shard i (item ∷ items) =
    if i % 8 == shard then item ∷ inserts_for shard (i + 1) items
    else inserts_for shard (i + 1) items

-- any batch of calls of the queue can be served
abbrev pub MayServe : List ℕ → List Call → Type 0
MayServe bag calls = AreOf Queue calls
