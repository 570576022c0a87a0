-- The places of the pieces are those of the batch.
use Rattle.std.proofs.Common.{◌≡◌, ℕ, List, length, refl, ap, ◌∙◌}
use Rattle.std.specs.List.{range_with_len}
use Rattle.launch_batch.proofs.Words.{Members, Call, Objects, Store, Counter, Stack, Tree, Queue, calls_of, calls_at, of_counter, of_stack, of_set, of_bag, CounterPiece, StackPiece, TreePiece, QueuePiece, Entry, served_book, store_of_kind}
use Rattle.batched_counter.specs.Pieces.{Cut as CounterCut, piece_count as counter_count}
use Rattle.batched_counter.proofs.PieceCount.{pieces_counted as counter_counted}
use Rattle.batched_stack.specs.Pieces.{Cut as StackCut, piece_count as stack_count}
use Rattle.batched_stack.proofs.PieceCount.{pieces_counted as stack_counted}
use Rattle.batched_tree.specs.Pieces.{Cut as TreeCut, piece_count as tree_count}
use Rattle.batched_tree.proofs.PieceCount.{pieces_counted as tree_counted}
use Rattle.batched_pq.specs.Pieces.{Cut as QueueCut, piece_count as queue_count}
use Rattle.batched_pq.proofs.PieceCount.{pieces_counted as queue_counted}
use Rattle.object_rows.specs.Numbers.{numbers_of}
use Rattle.object_rows.specs.Cuts.{IsCutOf, AreCut}
use Rattle.object_rows.proofs.ListLemmas.{meets_so}
use Rattle.object_rows.proofs.Numbering.{longest_is}
use Rattle.launch_batch.specs.Places.{row, places}
use Rattle.launch_batch.proofs.PieceLemmas.Ascending.{four_rows}

-- the places of one kind
row_is : {T In : Type 0} (content : T → Objects) (cut : T → List Call → List In → Type 0) (count : Objects → List Call → ℕ)
    → ((structure : T) (calls : List Call) (ins : List In) → cut structure calls ins → length ins ≡ count (content structure) calls)
    → (first : ℕ) (store : Store) (calls : List Call) (ins : List (Members In)) → AreCut content cut store calls ins → range_with_len first (length ins) ≡ row first count store calls
row_is content cut count counted first store calls ins is =
    ap (range_with_len first) (is.count ∙ longest_is (λ number. count (store number) (calls_at number calls)) calls is.lists
    (meets_so (IsCutOf content cut store calls) (λ number list. length list ≡ count (store number) (calls_at number calls))
    (λ number list own. counted own.before (calls_at number calls) list own.pieces ∙ ap (λ o. count o (calls_at number calls)) own.contains) (numbers_of calls) is.lists is.each))

pub rows_are : (book : List (List Entry)) (ordered : List Call)
    (counter : List (Members CounterPiece)) (stack : List (Members StackPiece)) (tree : List (Members TreePiece)) (queue : List (Members QueuePiece))
    → AreCut of_counter CounterCut (store_of_kind Counter (served_book book)) (calls_of Counter ordered) counter → AreCut (λ stack. of_stack stack.items) StackCut (store_of_kind Stack (served_book book)) (calls_of Stack ordered) stack
    → AreCut of_set TreeCut (store_of_kind Tree (served_book book)) (calls_of Tree ordered) tree → AreCut of_bag QueueCut (store_of_kind Queue (served_book book)) (calls_of Queue ordered) queue
    → four_rows (length counter) (length stack) (length tree) (length queue) ≡ places book ordered
rows_are book ordered counter stack tree queue i j k l =
    rw (
      row_is of_counter CounterCut counter_count counter_counted 0 (store_of_kind Counter (served_book book)) (calls_of Counter ordered) counter i,
      row_is (λ stack. of_stack stack.items) StackCut stack_count stack_counted 16 (store_of_kind Stack (served_book book)) (calls_of Stack ordered) stack j,
      row_is of_set TreeCut tree_count tree_counted 32 (store_of_kind Tree (served_book book)) (calls_of Tree ordered) tree k,
      row_is of_bag QueueCut queue_count queue_counted 48 (store_of_kind Queue (served_book book)) (calls_of Queue ordered) queue l,
    ) refl
