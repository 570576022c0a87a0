-- The pieces and the outs of a batch, selected by structure.
use Rattle.std.specs.Prelude.{ℕ, ◌+◌, Option, Some, None, List, [], ◌∷◌, filter_map}
use Rattle.seq_objects.specs.declared.kind.Kind.{Kind}
use Rattle.seq_objects.specs.Batches.{calls_of}
use Rattle.seq_objects.specs.declared.call.Call.{Call}
use Rattle.batched_counter.specs.declared.piece.Piece.{Piece as CounterPiece}
use Rattle.batched_counter.specs.declared.piece.Served.{Served as CounterServed}
use Rattle.batched_stack.specs.declared.piece.Piece.{Piece as StackPiece}
use Rattle.batched_stack.specs.declared.piece.Served.{Served as StackServed}
use Rattle.batched_tree.specs.declared.piece.Piece.{Piece as TreePiece}
use Rattle.batched_tree.specs.declared.piece.Served.{Served as TreeServed}
use Rattle.batched_pq.specs.declared.piece.Piece.{Piece as QueuePiece}
use Rattle.batched_pq.specs.Shards.{ShardView}
use Rattle.object_rows.specs.declared.members.Members.{Members}
use Rattle.object_rows.specs.Contexts.{RowContext}
use Rattle.batch_history.specs.declared.batch.Entry.{Entry}
use Rattle.batch_history.specs.Serving.{served_book}
use Rattle.launch_batch.specs.declared.piece.PieceIn.{PieceIn}
use Rattle.launch_batch.specs.declared.piece.PieceIn.TheVariants as piece
use Rattle.launch_batch.specs.declared.piece.PieceOut.{PieceOut}
use Rattle.launch_batch.specs.declared.piece.PieceOut.TheVariants as done
use Rattle.launch_batch.specs.Contents.{store_of_kind}

-- the pieces of a kind, made pieces of the batch at consecutive places from `place` on
abbrev pub placed : {In : Type 0} → (ℕ → In → PieceIn) → ℕ → List In → List PieceIn
placed make place [] = []
placed make place (input ∷ ins) = make place input ∷ placed make (place + 1) ins

-- the pieces of a kind at one place, if these are
abbrev pub counter_piece : PieceIn → Option (Members CounterPiece)
counter_piece (piece.Counter place ins) = Some ins
counter_piece _ = None

abbrev pub stack_piece : PieceIn → Option (Members StackPiece)
stack_piece (piece.Stack place ins) = Some ins
stack_piece _ = None

abbrev pub tree_piece : PieceIn → Option (Members TreePiece)
tree_piece (piece.Tree place ins) = Some ins
tree_piece _ = None

abbrev pub queue_piece : PieceIn → Option (Members QueuePiece)
queue_piece (piece.Queue place ins) = Some ins
queue_piece _ = None

-- the outs of a kind at one place, if these are
abbrev pub counter_out : PieceOut → Option (Members CounterServed)
counter_out (done.Counter outs) = Some outs
counter_out _ = None

abbrev pub stack_out : PieceOut → Option (Members StackServed)
stack_out (done.Stack outs) = Some outs
stack_out _ = None

abbrev pub tree_out : PieceOut → Option (Members TreeServed)
tree_out (done.Tree outs) = Some outs
tree_out _ = None

abbrev pub queue_out : PieceOut → Option (Members ShardView)
queue_out (done.Queue outs) = Some outs
queue_out _ = None

-- one kind's part of a batch: the contents after the book, its calls, and its pieces, which `own` selects
abbrev pub part : {In : Type 0} → Kind → (PieceIn → Option (Members In)) → List (List Entry) → List Call → List PieceIn
    → RowContext In
part kind own book calls ins =
    record { before = store_of_kind kind (served_book book); calls = calls_of kind calls; ins = filter_map own ins }
