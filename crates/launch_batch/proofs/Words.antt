-- Re-exports the names that most lemmas use: calls, batches and books, pieces and outs, and the objects.
pub use Rattle.std.specs.List.{AllByRecursion}
pub use Rattle.seq_objects.specs.declared.call.Call.{Call}
pub use Rattle.seq_objects.specs.declared.reply.Reply.{Reply}
pub use Rattle.seq_objects.specs.Objects.{Objects, opening, after, reply_to, argument_of, number_of}
pub use Rattle.seq_objects.specs.Stores.{Store, opening_store, store_after, store_reply, store_after_all, store_replies}
pub use Rattle.seq_objects.specs.declared.kind.Kind.{Kind}
pub use Rattle.seq_objects.specs.declared.kind.Kind.TheVariants.{Counter, Stack, Tree, Queue}
pub use Rattle.seq_objects.specs.Batches.{AreInBatchOrder, AreOneBatch, kind_of, same_kind, calls_of, calls_at}
pub use Rattle.seq_objects.specs.Serial.{after_all, replies_to_all, replies_of, alone, of_counter, of_stack, of_set, of_bag}
pub use Rattle.seq_objects.specs.Pairs.{AllPairsByRecursion, AreDistinct}
pub use Rattle.seq_objects.specs.Pieces.{AllMeet, BatchContext}
pub use Rattle.batched_counter.specs.declared.piece.Piece.{Piece as CounterPiece}
pub use Rattle.batched_stack.specs.declared.piece.Piece.{Piece as StackPiece}
pub use Rattle.batched_tree.specs.declared.piece.Piece.{Piece as TreePiece}
pub use Rattle.batched_pq.specs.declared.piece.Piece.{Piece as QueuePiece}
pub use Rattle.object_rows.specs.declared.members.Members.{Members}
pub use Rattle.batch_history.specs.declared.batch.Entry.{Entry}
pub use Rattle.batch_history.specs.Book.{flat, IsLegalFrom, IsBatch, IsHistory}
pub use Rattle.batch_history.specs.Serving.{served, served_book, call_in, calls_in, replies_in}
pub use Rattle.launch_batch.specs.declared.piece.PieceIn.{PieceIn}
pub use Rattle.launch_batch.specs.declared.piece.PieceOut.{PieceOut}
pub use Rattle.launch_batch.specs.Calls.{MayServe, ArePermutations, IsServiceOf}
pub use Rattle.launch_batch.specs.Pieces.{Run, Meets, place_of, IsOutAt, ArePutBack}
pub use Rattle.launch_batch.specs.ByStructure.{placed, counter_piece, stack_piece, tree_piece, queue_piece, counter_out, stack_out, tree_out, queue_out, part}
pub use Rattle.launch_batch.specs.Contents.{store_of_kind, MatchesHistory, HasRoom, IsNarrow, AreOrdered}
