-- The walks over the calls: the values of the leaves that have replied, and the operations that these give.
use Rattle.std.specs.Prelude.{◌≡◌, ◌≢◌, ℕ, ◌==◌, if◌then◌else◌, List, [], ◌∷◌, length, map, Option, None, Some, slice_get, slice_index_or, slice_set}
use Rattle.std.specs.Option.{ForSome, option_map}
use Rattle.seq_objects.specs.Objects.{value_of}
use Rattle.seq_objects.specs.declared.act.Act.{Act}
use Rattle.seq_objects.specs.declared.op.Op.{Op}
use Rattle.seq_objects.specs.Pairs.{IsEnumerationOf}
use Rattle.sp_order.specs.Jobs.{JobValue}
use Rattle.sp_order.specs.Sources.{IsCallLeaf, with_value}
use Rattle.batch_history.specs.Operations.{act_of, op_in, source_of}
use Rattle.batch_history.specs.declared.batch.Entry.{Entry}
use Rattle.batch_history.specs.declared.row.Row.{Row}

-- the leaf of the entry calls, and has no value yet
pub record CanNote (acts : List Act) (values : List (Option ℕ)) (entry : Entry) : Type 0 where
  pub calls : IsCallLeaf acts entry.leaf
  pub unseen : slice_index_or values entry.leaf None ≡ None

-- the values, with that of the entry's reply
abbrev pub noted : List (Option ℕ) → Entry → List (Option ℕ)
noted values entry = slice_set values entry.leaf (Some (value_of entry.reply))

-- the values, with those of all entries' replies
abbrev pub all_noted : List (Option ℕ) → List Entry → List (Option ℕ)
all_noted values [] = values
all_noted values (entry ∷ entries) = all_noted (noted values entry) entries

-- the entries can be noted one after another
abbrev pub CanNoteAll : List Act → List (Option ℕ) → List Entry → Type 0
CanNoteAll acts values [] = Unit {0}
CanNoteAll acts values (entry ∷ entries) = CanNote acts values entry × CanNoteAll acts (noted values entry) entries

-- the value of the reply of the leaf's first entry, if it has one
abbrev pub value_in : List Entry → ℕ → Option ℕ
value_in [] leaf = None
value_in (entry ∷ entries) leaf = if entry.leaf == leaf then Some (value_of entry.reply) else value_in entries leaf

-- each leaf that calls has a value
abbrev pub HaveValues : List Act → List (Option ℕ) → Type 0
HaveValues acts values = (leaf : ℕ) → IsCallLeaf acts leaf → slice_index_or values leaf None ≢ None

-- an operation by the value of its source: without a source as it stands
abbrev pub op_valued : Option Op → Option ℕ → List (Option ℕ) → Option Op
op_valued op None values = op
op_valued None (Some source) values = None
op_valued (Some op) (Some source) values = option_map (with_value op) (slice_index_or values source None)

-- the operation that a leaf calls, by the values of the leaves that have replied
abbrev pub op_by : JobValue → List (Option ℕ) → ℕ → Option Op
op_by job values leaf = op_valued (op_in (act_of job.acts leaf)) (source_of job leaf) values

-- the entry has the operation of its leaf and the worker of its leaf's row
pub record IsServed (job : JobValue) (values : List (Option ℕ)) (rows : List Row) (entry : Entry) : Type 0 where
  pub operation : op_by job values entry.leaf ≡ Some entry.op
  pub worker : ForSome (slice_get rows entry.leaf) (λ row. row.worker ≡ entry.worker)

-- The entries are of leaves that call, each once, and these are their values: what a leaf's entry replied.
pub record AreValuesOf (acts : List Act) (entries : List Entry) (values : List (Option ℕ)) : Type 0 where
  pub as_many : length values ≡ length acts
  pub once : IsEnumerationOf (IsCallLeaf acts) (map (λ entry. entry.leaf) entries)
  pub each : (leaf : ℕ) → slice_index_or values leaf None ≡ value_in entries leaf

-- the row of the entry's leaf has the value of its reply
abbrev pub HasReply : List Row → Entry → Type 0
HasReply rows entry = ForSome (slice_get rows entry.leaf) (λ row. row.value ≡ value_of entry.reply)
