-- The places of the pieces of a batch. Each kind has a row, which begins at a place of its own. There piece j of each
-- object has place j.
use Rattle.std.specs.Prelude.{ℕ, ◌<◌, ◌≤◌, List, ◌++◌}
use Rattle.std.specs.List.{range_with_len}
use Rattle.limits.specs.declared.TheConstants.{PLACES}
use Rattle.seq_objects.specs.declared.call.Call.{Call}
use Rattle.seq_objects.specs.Objects.{Objects}
use Rattle.seq_objects.specs.Stores.{Store}
use Rattle.seq_objects.specs.declared.kind.Kind.TheVariants.{Counter, Stack, Tree, Queue}
use Rattle.seq_objects.specs.Batches.{calls_of, calls_at}
use Rattle.batched_counter.specs.Pieces.{piece_count as counter_count}
use Rattle.batched_stack.specs.Pieces.{piece_count as stack_count}
use Rattle.batched_tree.specs.Pieces.{piece_count as tree_count}
use Rattle.batched_pq.specs.Pieces.{piece_count as queue_count}
use Rattle.object_rows.specs.Numbers.{greatest}
use Rattle.batch_history.specs.declared.batch.Entry.{Entry}
use Rattle.batch_history.specs.Serving.{served_book}
use Rattle.launch_batch.specs.declared.piece.TheConstants.{FIRST_OF_COUNTERS, FIRST_OF_STACKS, FIRST_OF_TREES, FIRST_OF_QUEUES}
use Rattle.launch_batch.specs.declared.piece.PieceIn.{PieceIn}
use Rattle.launch_batch.specs.declared.piece.PieceIn.TheVariants as piece

-- the place of the piece lies in its own kind's row
abbrev pub IsInOwnRow : PieceIn → Type 0
IsInOwnRow (piece.Counter place ins) = place < FIRST_OF_STACKS
IsInOwnRow (piece.Stack place ins) = (FIRST_OF_STACKS ≤ place) × (place < FIRST_OF_TREES)
IsInOwnRow (piece.Tree place ins) = (FIRST_OF_TREES ≤ place) × (place < FIRST_OF_QUEUES)
IsInOwnRow (piece.Queue place ins) = (FIRST_OF_QUEUES ≤ place) × (place < PLACES)

-- as many consecutive places from `first` on as an object has pieces at most, of those that these calls of one kind
-- call; none without calls
abbrev pub row : ℕ → (Objects → List Call → ℕ) → Store → List Call → List ℕ
row first count store calls =
    range_with_len first (greatest (λ number. count (store number) (calls_at number calls)) calls)

-- the places of the pieces of a batch of these calls, which stand in batch order, at structures with these contents
abbrev pub places_for : Store → List Call → List ℕ
places_for store calls =
    row FIRST_OF_COUNTERS counter_count store (calls_of Counter calls)
    ++ row FIRST_OF_STACKS stack_count store (calls_of Stack calls)
    ++ row FIRST_OF_TREES tree_count store (calls_of Tree calls)
    ++ row FIRST_OF_QUEUES queue_count store (calls_of Queue calls)

-- the places of the pieces of such a batch after this book
abbrev pub places : List (List Entry) → List Call → List ℕ
places book calls = places_for (served_book book) calls
