-- What holds of each operation of a generated job, phase by phase.
use Rattle.std.proofs.Common.{◌≡◌, ℕ, zero, suc, ◌+◌, List, [], ◌∷◌, ◌++◌, replicate, refl}
use Rattle.std.specs.List.{AllByRecursion}
use Rattle.seq_objects.specs.declared.act.Act.{Act}
use Rattle.seq_objects.specs.declared.act.Act.TheVariants.{Call}
use Rattle.seq_objects.specs.declared.op.Op.{Op}
use Rattle.seq_objects.specs.declared.op.Op.TheVariants.{Pop, TreeInsert, TreeFind, PqTake}
use Rattle.seq_objects.specs.Objects.{number_of, argument_of}
use Rattle.seq_objects.proofs.Elements.{each_append, each_so}
use Rattle.sp_order.specs.Objects.{number_in, AreUnnamed}
use Rattle.sp_order.specs.Totals.{pushes, queue_inserts, total}
use Rattle.job_writer.specs.Generator.{calls, finds_for, pops_for, takes_for, all_ops}
use Rattle.job_writer.proofs.GeneratorLemmas.Counts.{later_ops}

-- the find that the asking phase makes for an operation, if this is an insert of the tree
abbrev pub find_of : Op → Op
find_of op = TreeFind 0 (argument_of op + 1)

each_find : (P : Op → Type 0) (ops : List Op) → AllByRecursion (λ op. P (find_of op)) ops → AllByRecursion P (finds_for ops)
each_find P [] finds = tt
each_find P (TreeInsert number key ∷ ops) finds = (finds.0, each_find P ops finds.1)
each_find P (_ ∷ ops) finds = each_find P ops finds.1

each_copy : (P : Op → Type 0) (n : ℕ) (op : Op) → P op → AllByRecursion P (replicate n op)
each_copy P zero op one = tt
each_copy P (suc n) op one = (one, each_copy P n op one)

pub each_later : (P : Op → Type 0) (ops : List Op) → AllByRecursion (λ op. P (find_of op)) ops → P (Pop 0) → P (PqTake 0) → AllByRecursion P (later_ops ops)
each_later P ops finds pop take =
    each_append P (finds_for ops) (pops_for ops ++ takes_for ops) (each_find P ops finds)
    (each_append P (pops_for ops) (takes_for ops) (each_copy P (total pushes (calls ops) + 1) (Pop 0) pop) (each_copy P (total queue_inserts (calls ops) + 1) (PqTake 0) take))

pub each_op : (P : Op → Type 0) (ops : List Op) → AllByRecursion P ops → AllByRecursion (λ op. P (find_of op)) ops → P (Pop 0) → P (PqTake 0) → AllByRecursion P (all_ops ops)
each_op P ops first finds pop take = each_append P ops (later_ops ops) first (each_later P ops finds pop take)

pub each_call : (P : Act → Type 0) (ops : List Op) → AllByRecursion (λ op. P (Call op)) ops → AllByRecursion P (calls ops)
each_call P [] each = tt
each_call P (op ∷ ops) each = (each.0, each_call P ops each.1)

-- where all calls of the growing phase are of objects with the number 0, all calls are
pub all_unnamed : (ops : List Op) → AllByRecursion (λ op. number_of op ≡ 0) ops → AreUnnamed (calls (all_ops ops))
all_unnamed ops first = each_call (λ act. number_in act ≡ 0) (all_ops ops) (each_op (λ op. number_of op ≡ 0) ops first (each_so _ _ (λ op zeroes. refl) ops first) refl refl)
