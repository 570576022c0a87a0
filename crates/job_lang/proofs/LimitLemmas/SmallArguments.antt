-- Where the numbers of acts fit 32 bits, so do the arguments of their calls.
use Rattle.std.proofs.Common.{ℕ, ◌<◌, ◌^◌, List, [], ◌∷◌, Bool, true, false, Some, None, sym, subst, arith}
use Rattle.std.specs.Prelude.{if◌then◌else◌}
use Rattle.std.specs.List.{AllByRecursion}
use Rattle.seq_objects.specs.declared.act.Act.{Act}
use Rattle.seq_objects.specs.declared.act.Act.TheVariants.{Work, Call}
use Rattle.seq_objects.specs.declared.op.Op.{Op}
use Rattle.seq_objects.specs.Parts.{argument_of, has_argument}
use Rattle.seq_objects.proofs.Parts.{none_carried}
use Rattle.sp_order.specs.Totals.{count_of_act}
use Rattle.job_lang.specs.ActNumbers.{op_number, IsSmall, AreSmall}

small_from : (b : Bool) (number : ℕ) → IsSmall (if b then Some number else None) → (if b then number else 0) < 2 ^ 32
small_from true number small = small
small_from false number small = omega arith

pub small_argument : (op : Op) → IsSmall (op_number op) → argument_of op < 2 ^ 32
small_argument op small = subst (λ n. n < 2 ^ 32) (sym (none_carried op)) (small_from (has_argument op) (argument_of op) small)

pub small_arguments : (acts : List Act) → AreSmall acts → AllByRecursion (λ act. count_of_act argument_of act < 2 ^ 32) acts
small_arguments [] small = tt
small_arguments (Work steps ∷ acts) small = (omega arith, small_arguments acts small.1)
small_arguments (Call op ∷ acts) small = (small_argument op small.0, small_arguments acts small.1)
