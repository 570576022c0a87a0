-- The drawn operations: there are as many as asked for, and each inserts a small number.
use Rattle.std.proofs.Common.{◌≡◌, ℕ, zero, suc, ◌/◌, ◌%◌, ◌^◌, ◌<◌, Bool, true, false, List, length, refl, arith}
use Rattle.std.specs.Prelude.{◌==◌, if◌then◌else◌}
use Rattle.std.specs.List.{AllByRecursion}
use Rattle.seq_objects.specs.declared.op.Op.{Op}
use Rattle.seq_objects.specs.declared.op.Op.TheVariants.{CounterAdd, Push, TreeInsert, PqInsert}
use Rattle.seq_objects.specs.Objects.{argument_of, number_of}
use Rattle.seq_objects.proofs.Elements.{each_so}
use Rattle.sp_order.specs.Phases.{others, filling_verbs}
use Rattle.sp_order.specs.Totals.{pops, tree_finds, queue_takes}
use Rattle.job_writer.proofs.WriterLemmas.Sources.{each_get}
use Rattle.job_writer.specs.Code.Draws.{HaveSmallKeys}
use Rattle.job_writer.specs.Generator.{next_number, op_drawn, growing_ops}

-- an operation that inserts: it neither empties nor queries, its argument is small, and its object has the number 0
pub record Grows (op : Op) : Type 0 where
  pub fills : others filling_verbs op ≡ 0
  pub pops : pops op ≡ 0
  pub finds : tree_finds op ≡ 0
  pub takes : queue_takes op ≡ 0
  pub number : number_of op ≡ 0
  pub small : argument_of op < 65536

chosen : (first second third : Bool) (argument : ℕ) → argument < 65536
    → Grows (if first then CounterAdd 0 argument else if second then Push 0 argument else if third then TreeInsert 0 argument else PqInsert 0 argument)
chosen true _ _ argument small = record { fills = refl; pops = refl; finds = refl; takes = refl; number = refl; small = small }
chosen false true _ argument small = record { fills = refl; pops = refl; finds = refl; takes = refl; number = refl; small = small }
chosen false false true argument small = record { fills = refl; pops = refl; finds = refl; takes = refl; number = refl; small = small }
chosen false false false argument small = record { fills = refl; pops = refl; finds = refl; takes = refl; number = refl; small = small }

drawn_grows : (number : ℕ) → Grows (op_drawn number)
drawn_grows number =
    let structure : ℕ = number / 2 ^ 32 % 4 in
    chosen (structure == 0) (structure == 1) (structure == 2) (number / 2 ^ 32 / 4 % 65536) (omega arith)

pub all_grow : (seed size : ℕ) → AllByRecursion Grows (growing_ops seed size)
all_grow seed zero = tt
all_grow seed (suc size) = (drawn_grows (next_number seed), all_grow (next_number seed) size)

pub length_growing : (seed size : ℕ) → length (growing_ops seed size) ≡ size
length_growing seed zero = refl
length_growing seed (suc size) = omega (arith, length_growing (next_number seed) size)

-- the keys inserted into the tree are small, so those of the finds fit
pub small_keys : (seed size : ℕ) → HaveSmallKeys (growing_ops seed size)
small_keys seed size i number key is = (each_get Grows (growing_ops seed size) i (TreeInsert number key) (all_grow seed size) is).small

-- all objects have the number 0
pub first_ops : (ops : List Op) → AllByRecursion Grows ops → AllByRecursion (λ op. number_of op ≡ 0) ops
first_ops = each_so Grows _ (λ op grows. grows.number)

pub first_growing : (seed size : ℕ) → AllByRecursion (λ op. number_of op ≡ 0) (growing_ops seed size)
first_growing seed size = first_ops (growing_ops seed size) (all_grow seed size)
