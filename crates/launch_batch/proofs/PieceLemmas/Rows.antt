-- The pieces of the four kinds, appended kind by kind.
use Rattle.std.proofs.Common.{◌≡◌, ◌≤◌, ◌<◌, ◌+◌, List, [], ◌++◌, length, map, refl, ap, sym, subst, append-nil, append_assoc, ◌∙◌, arith, Option, filter_map}
use Rattle.std.proofs.lemmas.List.{map-append, length-map}
use Rattle.std.proofs.lemmas.List.Elements.{filter_map-append}
use Rattle.launch_batch.proofs.Words.{AllByRecursion, Members, CounterPiece, StackPiece, TreePiece, QueuePiece, PieceIn, place_of, placed, counter_piece, stack_piece, tree_piece, queue_piece}
use Rattle.launch_batch.specs.declared.piece.PieceIn.TheVariants as piece
use Rattle.launch_batch.specs.Places.{IsInOwnRow}
use Rattle.seq_objects.specs.Orders.{StrictlyAscends}
use Rattle.seq_objects.proofs.Elements.{each_append, each_unmapped}
use Rattle.launch_batch.proofs.PieceLemmas.Placing.{each_placed, places_placed, all_own, none_own}
use Rattle.launch_batch.proofs.PieceLemmas.Ascending.{four_rows, IsRow, row_of_four, length_of_four, some_and_few}

-- the pieces of each kind in the list are these
pub record AreApart (counter : List (Members CounterPiece)) (stack : List (Members StackPiece)) (tree : List (Members TreePiece)) (queue : List (Members QueuePiece)) (pieces : List PieceIn) : Type 0 where
  pub counters : filter_map counter_piece pieces ≡ counter
  pub stacks : filter_map stack_piece pieces ≡ stack
  pub trees : filter_map tree_piece pieces ≡ tree
  pub queues : filter_map queue_piece pieces ≡ queue

-- The list has the pieces of the four kinds, each kind's at consecutive places in its row. There are 1 to 56, and their
-- places ascend and are below 56.
pub record AreInRows (counter : List (Members CounterPiece)) (stack : List (Members StackPiece)) (tree : List (Members TreePiece)) (queue : List (Members QueuePiece)) (pieces : List PieceIn) : Type 0 where
  pub apart : AreApart counter stack tree queue pieces
  pub count : (1 ≤ length pieces) × (length pieces ≤ 56)
  pub places : map place_of pieces ≡ four_rows (length counter) (length stack) (length tree) (length queue)
  pub own : AllByRecursion IsInOwnRow pieces
  pub below : AllByRecursion (λ input. place_of input < 56) pieces
  pub ascend : StrictlyAscends (map place_of pieces)

module _ (counter : List (Members CounterPiece)) (stack : List (Members StackPiece)) (tree : List (Members TreePiece)) (queue : List (Members QueuePiece)) where
  -- the pieces of the four kinds, kind by kind
  abbrev pub all_of : List PieceIn
  all_of = placed piece.Counter 0 counter ++ placed piece.Stack 16 stack ++ placed piece.Tree 32 tree ++ placed piece.Queue 48 queue

  own_of_all : {X : Type 0} (own : PieceIn → Option X) (p q r s : List X) → filter_map own (placed piece.Counter 0 counter) ≡ p → filter_map own (placed piece.Stack 16 stack) ≡ q
      → filter_map own (placed piece.Tree 32 tree) ≡ r → filter_map own (placed piece.Queue 48 queue) ≡ s → filter_map own all_of ≡ p ++ (q ++ (r ++ s))
  own_of_all own p q r s h i j k = simp (filter_map-append, append_assoc, h, i, j, k)

  counter_are : filter_map counter_piece all_of ≡ counter
  counter_are = own_of_all counter_piece counter [] [] []
      (all_own counter_piece piece.Counter (λ n x rest. refl) 0 counter) (none_own counter_piece piece.Stack (λ n x rest. refl) 16 stack)
      (none_own counter_piece piece.Tree (λ n x rest. refl) 32 tree) (none_own counter_piece piece.Queue (λ n x rest. refl) 48 queue) ∙ append-nil counter

  stack_are : filter_map stack_piece all_of ≡ stack
  stack_are = own_of_all stack_piece [] stack [] []
      (none_own stack_piece piece.Counter (λ n x rest. refl) 0 counter) (all_own stack_piece piece.Stack (λ n x rest. refl) 16 stack)
      (none_own stack_piece piece.Tree (λ n x rest. refl) 32 tree) (none_own stack_piece piece.Queue (λ n x rest. refl) 48 queue) ∙ append-nil stack

  tree_are : filter_map tree_piece all_of ≡ tree
  tree_are = own_of_all tree_piece [] [] tree []
      (none_own tree_piece piece.Counter (λ n x rest. refl) 0 counter) (none_own tree_piece piece.Stack (λ n x rest. refl) 16 stack)
      (all_own tree_piece piece.Tree (λ n x rest. refl) 32 tree) (none_own tree_piece piece.Queue (λ n x rest. refl) 48 queue) ∙ append-nil tree

  queue_are : filter_map queue_piece all_of ≡ queue
  queue_are = own_of_all queue_piece [] [] [] queue
      (none_own queue_piece piece.Counter (λ n x rest. refl) 0 counter) (none_own queue_piece piece.Stack (λ n x rest. refl) 16 stack)
      (none_own queue_piece piece.Tree (λ n x rest. refl) 32 tree) (all_own queue_piece piece.Queue (λ n x rest. refl) 48 queue)

  places_are : map place_of all_of ≡ four_rows (length counter) (length stack) (length tree) (length queue)
  places_are = simp (
    map-append,
    places_placed piece.Counter 0 counter (λ n x. refl),
    places_placed piece.Stack 16 stack (λ n x. refl),
    places_placed piece.Tree 32 tree (λ n x. refl),
    places_placed piece.Queue 48 queue (λ n x. refl),
  )

  rows_are_own : length counter ≤ 16 → length stack ≤ 16 → length tree ≤ 16 → length queue ≤ 8 → AllByRecursion IsInOwnRow all_of
  rows_are_own few_counter few_stack few_tree few_queue =
      each_append IsInOwnRow _ (placed piece.Queue 48 queue)
      (each_append IsInOwnRow _ (placed piece.Tree 32 tree)
      (each_append IsInOwnRow (placed piece.Counter 0 counter) (placed piece.Stack 16 stack)
      (each_placed IsInOwnRow piece.Counter 0 counter (λ n x from below. omega (arith, below, few_counter)))
      (each_placed IsInOwnRow piece.Stack 16 stack (λ n x from below. (from, omega (arith, below, few_stack)))))
      (each_placed IsInOwnRow piece.Tree 32 tree (λ n x from below. (from, omega (arith, below, few_tree)))))
      (each_placed IsInOwnRow piece.Queue 48 queue (λ n x from below. (from, omega (arith, below, few_queue))))

  -- pieces that were appended kind by kind
  pub in_rows : (none one two three pieces : List PieceIn) → none ≡ [] → one ≡ none ++ placed piece.Counter 0 counter → two ≡ one ++ placed piece.Stack 16 stack → three ≡ two ++ placed piece.Tree 32 tree
      → pieces ≡ three ++ placed piece.Queue 48 queue → length counter ≤ 16 → length stack ≤ 16 → length tree ≤ 16 → length queue ≤ 8
      → 0 < length counter + length stack + length tree + length queue → AreInRows counter stack tree queue pieces
  in_rows none one two three pieces empty first second third fourth few_counter few_stack few_tree few_queue some =
      let are : pieces ≡ all_of = rw (fourth, third, second, first, empty) refl in
      let row : IsRow 0 56 (map place_of all_of) = subst (IsRow 0 56) (sym places_are) (row_of_four _ _ _ _ few_counter few_stack few_tree few_queue) in
      rw are record {
        apart = record { counters = counter_are; stacks = stack_are; trees = tree_are; queues = queue_are };
        count = some_and_few _ _ _ _ _ (sym (length-map all_of place_of) ∙ ap length places_are ∙ length_of_four _ _ _ _) some few_counter few_stack few_tree few_queue;
        places = places_are;
        own = rows_are_own few_counter few_stack few_tree few_queue;
        below = each_unmapped place_of (λ k. k < 56) all_of row.below;
        ascend = row.ascend;
      }
