-- Which next act each call of the job side requires, by the act that is due, if there is one.
use Rattle.std.specs.Prelude.{ℕ, ◌≡◌, Option as Maybe, None, Some}
use Rattle.seq_objects.specs.Objects.{value_of}
use Rattle.seq_objects.specs.declared.op.Op.{Op}
use Rattle.sp_order.specs.Sources.{low_bits, with_value}
use Rattle.core_model.specs.declared.next.Next.{Next}
use Rattle.core_model.specs.declared.next.Next.TheVariants as acts
use Rattle.table_rule.specs.declared.slot.OpRecord.{OpRecord}

-- a tick: the start or the end of a leaf
abbrev pub IsTickDue : Maybe Next → Type 0
IsTickDue (Some (acts.Start n leaf)) = Unit {0}
IsTickDue (Some (acts.End n start)) = Unit {0}
IsTickDue _ = ⊥

-- an open of a side of a block
abbrev pub IsOpenDue : Maybe Next → Type 0
IsOpenDue (Some (acts.Open n task event)) = Unit {0}
IsOpenDue _ = ⊥

-- The number of a leaf of work, from its own, the leaf's source and the source's value as told: the low 32 bits of a
-- source's value, and while it is not told there is no number.
abbrev pub number_told : ℕ → Maybe ℕ → Maybe ℕ → Maybe ℕ
number_told steps None told = Some steps
number_told steps (Some from) None = None
number_told steps (Some from) (Some value) = Some (low_bits value)

-- A keep of this value: that of the leaf's work, where the leaves of work compute `work`, on the leaf's number, or that
-- of the reply to its call. The number is by the source of each leaf and what was told of the source of this one.
abbrev pub IsKeepDueWith : (ℕ → ℕ) → (ℕ → Maybe ℕ) → Maybe ℕ → Maybe Next → ℕ → Type 0
IsKeepDueWith work source told (Some (acts.Spin n start leaf steps)) value =
    (number : ℕ) × (number_told steps (source leaf) told ≡ Some number) × (value ≡ work number)
IsKeepDueWith work source told (Some (acts.Got n start reply)) value = value ≡ value_of reply
IsKeepDueWith work source told _ value = ⊥

-- a look at the source of the leaf that is to call or to work, by the source of each leaf: the leaf has one
abbrev pub IsSourceDue : (ℕ → Maybe ℕ) → Maybe Next → Type 0
IsSourceDue source (Some (acts.Call n start leaf op)) = (from : ℕ) × (source leaf ≡ Some from)
IsSourceDue source (Some (acts.Spin n start leaf steps)) = (from : ℕ) × (source leaf ≡ Some from)
IsSourceDue source _ = ⊥

-- The operation of a call, from that of the leaf's act, the leaf's source and the source's value as told: a source's
-- value is the argument, and while it is not told there is no operation.
abbrev pub op_told : Op → Maybe ℕ → Maybe ℕ → Maybe Op
op_told op None told = Some op
op_told op (Some from) None = None
op_told op (Some from) (Some value) = Some (with_value op value)

-- a post of this call, from what was told of the source of its leaf
abbrev pub IsPostDue : (ℕ → Maybe ℕ) → Maybe ℕ → Maybe Next → OpRecord → Type 0
IsPostDue source told (Some (acts.Call n start leaf op)) call =
    (call.leaf ≡ leaf) × (op_told op (source leaf) told ≡ Some call.op)
IsPostDue source told _ call = ⊥

-- a finish: the ended leaf or a block is done
abbrev pub IsFinishDue : Maybe Next → Type 0
IsFinishDue (Some (acts.Finish n event)) = Unit {0}
IsFinishDue _ = ⊥

-- an arrival of a side at its parallel block
abbrev pub IsArriveDue : Maybe Next → Type 0
IsArriveDue (Some (acts.Arrive p left right n)) = Unit {0}
IsArriveDue _ = ⊥
