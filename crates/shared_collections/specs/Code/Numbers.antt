-- Numbers below 2^32, and lists of them.
use Rattle.std.specs.Prelude.{ℕ, ◌<◌, ◌^◌, List, Option, Some, None, slice_index}
use Rattle.seq_objects.specs.declared.reply.Reply.{Reply}
use Rattle.seq_objects.specs.declared.reply.Reply.TheVariants.{Number}

-- each number is below 2^32
abbrev pub AreSmall : List ℕ → Type 0
AreSmall numbers = (k : ℕ) → slice_index numbers k < 2 ^ 32

-- the number, if there is one, is below 2^32
abbrev pub IsSmall : Option ℕ → Type 0
IsSmall (Some number) = number < 2 ^ 32
IsSmall None = Unit {0}

-- the number in a reply, if there is one
abbrev pub number_in : Reply → Option ℕ
number_in (Number number) = Some number
number_in _ = None
