-- The act and the source of a leaf, its value under a book, and the operation that it calls.
use Rattle.std.specs.Prelude.{ℕ, List, None, Option, Some, slice_index_or}
use Rattle.std.specs.Option.{option_map}
use Rattle.seq_objects.specs.Objects.{value_of}
use Rattle.seq_objects.specs.declared.act.Act.{Act}
use Rattle.seq_objects.specs.declared.act.Act.TheVariants.{Work, Call}
use Rattle.seq_objects.specs.declared.op.Op.{Op}
use Rattle.sp_order.specs.Jobs.{JobValue}
use Rattle.sp_order.specs.Sources.{low_bits, with_value}
use Rattle.batch_history.specs.Places.{place_of}
use Rattle.batch_history.specs.declared.batch.Entry.{Entry}
use Rattle.batch_history.specs.declared.place.Place.{Place}

-- the act of a leaf in a list of acts; a number beyond the list gets work of 0 steps
abbrev pub act_of : List Act → ℕ → Act
act_of acts leaf = slice_index_or acts leaf (Work 0)

-- the source of a leaf of a job; a number beyond the leaves gets none
abbrev pub source_of : JobValue → ℕ → Option ℕ
source_of job leaf = slice_index_or job.sources leaf None

-- the operation of a call; work has none
abbrev pub op_in : Act → Option Op
op_in (Work number) = None
op_in (Call op) = Some op

-- the value of the reply in the entry at a place, if there is one
abbrev pub reply_at : Option Place → Option ℕ
reply_at None = None
reply_at (Some place) = Some (value_of place.entry.reply)

-- The number that a leaf of work computes on under a book: without a source its own, and with one the low 32 bits of
-- the value of the source's reply. There is none where the book has no entry of the source.
abbrev pub number_from : List (List Entry) → ℕ → Option ℕ → Option ℕ
number_from book number None = Some number
number_from book number (Some source) = option_map low_bits (reply_at (place_of book source))

-- The value of a leaf with this act and this source under a book: what its work computes, here `work`, or the value of
-- the reply to its call. There is none where the book does not have the entry that it comes from.
abbrev pub value_from : (ℕ → ℕ) → List (List Entry) → Act → Option ℕ → ℕ → Option ℕ
value_from work book (Work number) source leaf = option_map work (number_from book number source)
value_from work book (Call op) source leaf = reply_at (place_of book leaf)

-- the value of a leaf of a job under a book, where the leaves of work compute `work`
abbrev pub value_under : (ℕ → ℕ) → JobValue → List (List Entry) → ℕ → Option ℕ
value_under work job book leaf = value_from work book (act_of job.acts leaf) (source_of job leaf) leaf

-- the operation with a value as its argument, if there are both
abbrev pub op_with : Option Op → Option ℕ → Option Op
op_with None value = None
op_with (Some op) None = None
op_with (Some op) (Some value) = Some (with_value op value)

-- An operation as it is called where leaves have these values: without a source as it stands, and with one with the
-- value of the source as its argument. There is none where the source has no value.
abbrev pub op_from : (ℕ → Option ℕ) → Option Op → Option ℕ → Option Op
op_from value op None = op
op_from value op (Some source) = op_with op (value source)

-- the operation that a leaf calls under a book, if it calls and its source has a value under the book
abbrev pub op_of : (ℕ → ℕ) → JobValue → List (List Entry) → ℕ → Option Op
op_of work job book leaf = op_from (value_under work job book) (op_in (act_of job.acts leaf)) (source_of job leaf)
