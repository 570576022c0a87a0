-- The argument of an operation, and the number that an act carries.
use Rattle.std.specs.Prelude.{ℕ, ◌<◌, ◌^◌, if◌then◌else◌, List, Option, Some, None, IfSome}
use Rattle.std.specs.List.{AllByRecursion}
use Rattle.seq_objects.specs.declared.act.Act.{Act}
use Rattle.seq_objects.specs.declared.act.Act.TheVariants.{Work, Call}
use Rattle.seq_objects.specs.declared.op.Op.{Op}
use Rattle.seq_objects.specs.Parts.{argument_of, has_argument}

-- the argument of an operation, if it takes one
abbrev pub op_number : Op → Option ℕ
op_number op = if has_argument op then Some (argument_of op) else None

-- the steps of work, or the argument of a call
abbrev pub act_number : Act → Option ℕ
act_number (Work steps) = Some steps
act_number (Call op) = op_number op

-- the number, if there is one, fits 32 bits
abbrev pub IsSmall : Option ℕ → Type 0
IsSmall number = IfSome number (λ number. number < 2 ^ 32)

-- the numbers of all acts fit 32 bits
abbrev pub AreSmall : List Act → Type 0
AreSmall acts = AllByRecursion (λ act. IsSmall (act_number act)) acts
