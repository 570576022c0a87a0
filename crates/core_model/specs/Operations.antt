-- Calling leaves, the values and operations of leaves, the places of their entries, and their receipts.
use Rattle.batch_history.specs.Operations.{op_in, op_from, value_from}
use Rattle.batch_history.specs.declared.place.Place.{Place}
use Rattle.core_model.specs.Words.{Act, Call, Work, Entry, Op, Receipt, Kind, LeafNode, ParNode, SeqNode}
use Rattle.core_model.specs.State.{CoreJob}
use Rattle.std.specs.Prelude.{List, None, Option, Some, ℕ, ◌≡◌, ◌≢◌}
pub use Rattle.batch_history.specs.Operations.{op_in, op_from, number_from, reply_at, value_from}
pub use Rattle.batch_history.specs.declared.place.Place.{Place}
pub use Rattle.batch_history.specs.Places.{place_in, or_else, place_from}
unfoldable pub use Rattle.batch_history.specs.Places.{place_of}

-- the number of the leaf at a node, 0 if it is no leaf
abbrev pub leaf_of : Option Kind → ℕ
leaf_of None = 0
leaf_of (Some (LeafNode leaf)) = leaf
leaf_of (Some (SeqNode left right)) = 0
leaf_of (Some (ParNode left right)) = 0

-- the node is a leaf
abbrev pub IsLeaf : Option Kind → Type 0
IsLeaf kind = (leaf : ℕ) × (kind ≡ Some (LeafNode leaf))

-- the leaf calls
abbrev pub IsCall : CoreJob → ℕ → Type 0
IsCall job leaf = op_in (job.act leaf) ≢ None

-- The value of a leaf under a book: what its work computes, or the value of the reply to its call. Work on the value of
-- a source, and a call, have none before the book has the entry that it comes from.
abbrev pub value_under : CoreJob → List (List Entry) → ℕ → Option ℕ
value_under job book leaf = value_from job.work book (job.act leaf) (job.source leaf) leaf

-- The operation that a leaf calls under a book. It is that of the leaf's act; where the leaf has a source, its argument
-- is the value of the source. A leaf of work has none, and neither has a leaf whose source has no value under the book.
abbrev pub op_of : CoreJob → List (List Entry) → ℕ → Option Op
op_of job book leaf = op_from (value_under job book) (op_in (job.act leaf)) (job.source leaf)

-- the leaf that calls, from whose reply the value of a leaf with this act and this source comes, if it comes from one
abbrev pub origin_from : Act → Option ℕ → ℕ → Option ℕ
origin_from (Work number) source leaf = source
origin_from (Call op) source leaf = Some leaf

-- the same of a job's leaf: itself if it calls, and the source of a leaf of work
abbrev pub origin_of : CoreJob → ℕ → Option ℕ
origin_of job leaf = origin_from (job.act leaf) (job.source leaf) leaf

-- the receipt for the entry at a place
abbrev pub receipt_for : Place → Receipt
receipt_for place = record { batch = place.batch; place = place.place; reply = place.entry.reply }

-- there is a place, and the receipt is that of its entry
abbrev pub IsReceipt : Option Place → Receipt → Type 0
IsReceipt None receipt = ⊥
IsReceipt (Some place) receipt = receipt ≡ receipt_for place
