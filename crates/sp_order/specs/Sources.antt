-- Sources: the leaves whose values are the arguments of later calls, or the numbers of later leaves of work.
use Rattle.std.specs.Prelude.{◌≡◌, ℕ, ◌%◌, ◌^◌, true, List, length, Option, Some, slice_get}
use Rattle.seq_objects.specs.declared.op.Op.{Op}
use Rattle.seq_objects.specs.declared.act.Act.{Act}
use Rattle.seq_objects.specs.declared.act.Act.TheVariants.{Work, Call}
use Rattle.seq_objects.specs.Objects.{argument_of}
use Rattle.sp_order.specs.Precedence.{Tree, IsBefore}
-- the operation with this number as its argument, if it has one; whether the operation takes an argument
pub use Rattle.seq_objects.specs.Parts.{with_argument, has_argument}

-- the low 32 bits of a value: what a leaf takes of the value of its source
abbrev pub low_bits : ℕ → ℕ
low_bits value = value % 2 ^ 32

-- the operation with the low 32 bits of a value as its argument
abbrev pub with_value : Op → ℕ → Op
with_value op value = with_argument op (low_bits value)

-- the leaf's act is a call
abbrev pub IsCallLeaf : List Act → ℕ → Type 0
IsCallLeaf acts leaf = (op : Op) × (slice_get acts leaf ≡ Some (Call op))

-- the act is a call
abbrev pub Calls : Act → Type 0
Calls (Work number) = ⊥
Calls (Call op) = Unit {0}

-- The first act may take the value of a leaf with the second. A call takes it as its argument, which stands as 0, from
-- any leaf. A leaf of work takes it as its number, which stands as 0, from a leaf that calls.
abbrev pub MayTake : Act → Act → Type 0
MayTake (Call op) from = (has_argument op ≡ true) × (argument_of op ≡ 0)
MayTake (Work number) from = (number ≡ 0) × Calls from

-- The leaf may have this source: its act may take the value of the source, which is before it.
pub record IsSource (shape : Option Tree) (acts : List Act) (leaf source : ℕ) : Type 0 where
  pub act : Act
  pub is : slice_get acts leaf ≡ Some act
  pub from : Act
  pub stands : slice_get acts source ≡ Some from
  pub takes : MayTake act from
  pub before : IsBefore shape source leaf

-- for each leaf its source or none, and each source is one that its leaf may have
pub record AreSources (shape : Option Tree) (acts : List Act) (sources : List (Option ℕ)) : Type 0 where
  pub as_many : length sources ≡ length acts
  pub each : (leaf source : ℕ) → slice_get sources leaf ≡ Some (Some source) → IsSource shape acts leaf source

-- each leaf with a source calls, and so does each source: leaves take replies alone
abbrev pub TakeReplies : List Act → List (Option ℕ) → Type 0
TakeReplies acts sources = (leaf source : ℕ) → slice_get sources leaf ≡ Some (Some source) → IsCallLeaf acts leaf × IsCallLeaf acts source
