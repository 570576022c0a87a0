-- The serial runs of a job's calls: the orders in which one thread could have made them, with their replies.
use Rattle.std.specs.Prelude.{◌≡◌, ℕ, List, None, Some, Contains, map, slice_get}
use Rattle.std.specs.List.{AllByRecursion}
use Rattle.seq_objects.specs.Objects.{value_of}
use Rattle.seq_objects.specs.Pairs.{AllPairsByRecursion, IsEnumerationOf}
use Rattle.seq_objects.specs.Spin.{spin_of}
use Rattle.seq_objects.specs.Stores.{opening_store}
use Rattle.seq_objects.specs.declared.act.Act.TheVariants.{Work, Call}
use Rattle.seq_objects.specs.declared.op.Op.{Op}
use Rattle.seq_objects.specs.declared.reply.Reply.{Reply}
use Rattle.sp_order.specs.Jobs.{JobValue}
use Rattle.sp_order.specs.Precedence.{IsBefore}
use Rattle.sp_order.specs.Sources.{IsCallLeaf, low_bits, with_value}
use Rattle.batch_history.specs.Book.{IsLegalFrom}
use Rattle.batch_history.specs.Operations.{source_of}
use Rattle.batch_history.specs.declared.batch.Entry.{Entry}

-- one of the calls is of this leaf, and has this reply
pub record IsReplyTo (calls : List Entry) (leaf : ℕ) (reply : Reply) : Type 0 where
  pub call : Entry
  pub made : Contains calls call
  pub of_leaf : call.leaf ≡ leaf
  pub replied : call.reply ≡ reply

-- A leaf of work whose act has the number `own` works on this number: its own; and where the leaf has a source, the low
-- 32 bits of the value of the source's reply.
pub record WorksOn (job : JobValue) (calls : List Entry) (leaf own number : ℕ) : Type 0 where
  pub plain : source_of job leaf ≡ None → number ≡ own
  pub sourced : (source : ℕ) → source_of job leaf ≡ Some source
      → (reply : Reply) × IsReplyTo calls source reply × (number ≡ low_bits (value_of reply))

-- The leaf has this value: a leaf of work has what `work` computes of the number that it works on, and a leaf that
-- calls has the value of its reply.
pub record HasValue (work : ℕ → ℕ) (job : JobValue) (calls : List Entry) (leaf value : ℕ) : Type 0 where
  pub works : (own : ℕ) → slice_get job.acts leaf ≡ Some (Work own)
      → (number : ℕ) × WorksOn job calls leaf own number × (value ≡ work number)
  pub called : IsCallLeaf job.acts leaf → (reply : Reply) × IsReplyTo calls leaf reply × (value ≡ value_of reply)

-- The call is the one that its leaf asks for: the operation of its act; and where the leaf has a source, with the low
-- 32 bits of the value of the source as its argument.
pub record IsAsked (work : ℕ → ℕ) (job : JobValue) (calls : List Entry) (call : Entry) : Type 0 where
  pub op : Op
  pub act : slice_get job.acts call.leaf ≡ Some (Call op)
  pub plain : source_of job call.leaf ≡ None → call.op ≡ op
  pub sourced : (source : ℕ) → source_of job call.leaf ≡ Some source
      → (value : ℕ) × HasValue work job calls source value × (call.op ≡ with_value op value)

-- The calls are the job's, where its leaves of work compute `work`, each as if it stood alone: each leaf that calls
-- makes one call, the one that it asks for; no call is made before one whose leaf precedes its own in the job; and each
-- reply is that of the serial objects at this point, which begin empty.
pub record IsSerialRunWith (work : ℕ → ℕ) (job : JobValue) (calls : List Entry) : Type 0 where
  pub each : IsEnumerationOf (IsCallLeaf job.acts) (map (λ call. call.leaf) calls)
  pub asked : AllByRecursion (IsAsked work job calls) calls
  pub order : AllPairsByRecursion (λ first later. IsBefore job.shape later.leaf first.leaf → ⊥) calls
  pub replies : IsLegalFrom opening_store calls

-- the same where they spin
abbrev pub IsSerialRun : JobValue → List Entry → Type 0
IsSerialRun = IsSerialRunWith spin_of
