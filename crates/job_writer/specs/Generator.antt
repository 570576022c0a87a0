-- The job that a seed and a size give, in three phases. It has one object of each kind, with the number 0. The growing
-- phase inserts into all four, in parallel. The asking phase looks for keys in the tree, in parallel. The shrinking
-- phase empties the stack, and then the queue, one call after another.
use Rattle.std.specs.Prelude.{ℕ, zero, suc, ◌+◌, ◌*◌, ◌/◌, ◌%◌, ◌^◌, ◌==◌, if◌then◌else◌, List, [], ◌∷◌, ◌++◌, map, replicate, filter_map, length, Option, Some, None}
use Rattle.seq_objects.specs.declared.act.Act.{Act}
use Rattle.seq_objects.specs.declared.act.Act.TheVariants.{Call}
use Rattle.seq_objects.specs.declared.op.Op.{Op}
use Rattle.seq_objects.specs.declared.op.Op.TheVariants.{CounterAdd, Push, Pop, TreeInsert, TreeFind, PqInsert, PqTake}
use Rattle.sp_order.specs.Precedence.{Tree, leaf, seq, par}
use Rattle.sp_order.specs.Jobs.{JobValue}
use Rattle.sp_order.specs.Totals.{pushes, queue_inserts, total}
use Rattle.job_lang.specs.Joins.{join_of}
use Rattle.job_lang.specs.Meaning.{join_list}

-- the next number of the sequence: a linear congruential generator modulo 2^64
abbrev pub next_number : ℕ → ℕ
next_number number = (6364136223846793005 * number + 1442695040888963407) % 2 ^ 64

-- the given count of numbers of the sequence, after the seed
abbrev pub numbers_after : ℕ → ℕ → List ℕ
numbers_after seed zero = []
numbers_after seed (suc count) = next_number seed ∷ numbers_after (next_number seed) count

-- the operation that puts an argument into a structure: 0 is the counter, 1 the stack, 2 the tree, and any other number
-- the queue
abbrev pub op_into : ℕ → ℕ → Op
op_into structure argument =
    if structure == 0 then CounterAdd 0 argument
    else if structure == 1 then Push 0 argument
    else if structure == 2 then TreeInsert 0 argument
    else PqInsert 0 argument

-- The operation that a number draws, by its upper 32 bits: the lowest 2 of them choose the structure, and the 16 bits
-- above these are the argument.
abbrev pub op_drawn : ℕ → Op
op_drawn number = let upper = number / 2 ^ 32 in op_into (upper % 4) (upper / 4 % 65536)

-- the growing phase
abbrev pub growing_ops : ℕ → ℕ → List Op
growing_ops seed size = map op_drawn (numbers_after seed size)

-- the asking phase: for each key that is inserted into the tree, in order, a find of that key plus 1
abbrev pub find_for : Op → Option Op
find_for (TreeInsert number key) = Some (TreeFind 0 (key + 1))
find_for _ = None

abbrev pub finds_for : List Op → List Op
finds_for ops = filter_map find_for ops

-- calls of these operations, as acts
abbrev pub calls : List Op → List Act
calls ops = map (λ op. Call op) ops

-- the shrinking phase: a pop for each push and one more, and a take for each insert of the queue and one more
abbrev pub pops_for : List Op → List Op
pops_for ops = replicate (total pushes (calls ops) + 1) (Pop 0)

abbrev pub takes_for : List Op → List Op
takes_for ops = replicate (total queue_inserts (calls ops) + 1) (PqTake 0)

-- a shape with a leaf for each operation, as a list, which is empty where there are none
abbrev pub part : (Tree → Tree → Tree) → List Op → List Tree
part kind ops = join_list kind (map (λ op. leaf) ops)

-- the four parts of the job with this growing phase: the operations of their leaves, and their shapes
abbrev pub all_ops : List Op → List Op
all_ops ops = ops ++ (finds_for ops ++ (pops_for ops ++ takes_for ops))

abbrev pub all_parts : List Op → List Tree
all_parts ops = part par ops ++ (part par (finds_for ops) ++ (part seq (pops_for ops) ++ part seq (takes_for ops)))

-- the job of these parts, in series
abbrev pub job_growing_by : List Op → JobValue
job_growing_by ops = record {
  shape = join_of seq (all_parts ops);
  acts = calls (all_ops ops);
  sources = replicate (length (calls (all_ops ops))) None;
  names = [];
}

-- the job that a seed and a size give
abbrev pub generated : ℕ → ℕ → JobValue
generated seed size = job_growing_by (growing_ops seed size)
