-- The pieces of a batch. With n items before it, push i becomes item n + i; a pop takes the last item there is.
use Rattle.std.specs.Prelude.{◌≡◌, ℕ, zero, suc, ◌+◌, ◌-◌, ◌%◌, ◌<◌, ◌^◌, Bool, false, ◌==◌, nat_lt, if◌then◌else◌, List, [], ◌∷◌, ◌++◌, length, take, drop, reverse, map, filter, slice_index, slice_index_or}
use Rattle.std.specs.List.{AllByRecursion, range_with_len}
use Rattle.seq_objects.specs.declared.call.Call.{Call}
use Rattle.seq_objects.specs.Objects.{Objects, has}
use Rattle.seq_objects.specs.Batches.{AreOneBatch}
use Rattle.seq_objects.specs.Pieces.{BatchContext}
use Rattle.batched_stack.specs.declared.piece.Piece.{Piece}
use Rattle.batched_stack.specs.declared.piece.Served.{Served}
use Rattle.batched_stack.specs.declared.piece.Rest.{Rest}
use Rattle.batched_stack.specs.Calls.{MayServe, pushes_of, pops_of}
use Rattle.batched_stack.specs.Stripes.{StackView, stripe, stripe_length}
use Rattle.batched_stack.specs.Lists.{lists, rooms_in}
use Rattle.batched_stack.specs.Rooms.{NeedsRoom, IsNext}

-- the pushes that go to stripe j, where the first becomes item n
abbrev pub pushes_to : ℕ → ℕ → List ℕ → List ℕ
pushes_to j n [] = []
pushes_to j n (item ∷ items) =
    if n % 16 == j then item ∷ pushes_to j (n + 1) items else pushes_to j (n + 1) items

-- of these pops, the number that take an item of stripe j, from a stack of n items whose last is item n - 1
abbrev pub pops_from : ℕ → ℕ → ℕ → ℕ
pops_from j n zero = 0
pops_from j zero (suc pops) = 0
pops_from j (suc n) (suc pops) = if n % 16 == j then 1 + pops_from j n pops else pops_from j n pops

-- whether stripe j has a push, or a pop that finds an item, where n items stand before the batch
abbrev pub is_called : ℕ → List ℕ → ℕ → ℕ → Bool
is_called n pushes pops j =
    nat_lt 0 (length (pushes_to j n pushes) + pops_from j (n + length pushes) pops)

-- the list; stripe 0 alone where it is empty
abbrev pub or_first : List ℕ → List ℕ
or_first [] = 0 ∷ []
or_first (j ∷ js) = j ∷ js

-- the stripes that get a piece, ascending: those with a call, or stripe 0 where none has one
abbrev pub piece_numbers : ℕ → List ℕ → ℕ → List ℕ
piece_numbers n pushes pops = or_first (filter (is_called n pushes pops) (range_with_len 0 16))

-- the stripe number of each piece
abbrev pub numbers_in : List Piece → List ℕ
numbers_in pieces = map (λ piece. piece.number) pieces

-- the piece has its stripe's items of the stack and its present room, the pushes to it, and the number of pops that
-- take an item of it
pub record IsPieceOf (stack : StackView) (puts : List ℕ) (takes : ℕ) (piece : Piece) : Type 0 where
  pub items : piece.stripe.items.items ≡ stripe piece.number stack.items
  pub room : piece.stripe.room ≡ slice_index stack.rooms piece.number
  pub pushes : piece.pushes.items ≡ pushes_to piece.number (length stack.items) puts
  pub pops : piece.pops ≡ pops_from piece.number (length stack.items + length puts) takes

-- the pieces of a batch, one for each stripe that gets one
pub record Cut (stack : StackView) (calls : List Call) (pieces : List Piece) : Type 0 where
  pub numbers : numbers_in pieces ≡ piece_numbers (length stack.items) (pushes_of calls) (pops_of calls)
  pub each : AllByRecursion (IsPieceOf stack (pushes_of calls) (pops_of calls)) pieces

-- the number of stripes that get a piece
abbrev pub piece_count : Objects → List Call → ℕ
piece_count objects calls =
    length (piece_numbers (length objects.stack) (pushes_of calls) (pops_of calls))

-- the stripe is as after its pushes and then its pops, the popped items stand newest first, and the room is the next
-- one
pub record Meets (piece : Piece) (served : Served) : Type 0 where
  pub number : served.number ≡ piece.number
  pub items : served.stripe.items.items ≡ take (length (piece.stripe.items.items ++ piece.pushes.items) - piece.pops) (piece.stripe.items.items ++ piece.pushes.items)
  pub popped : served.popped.items ≡ reverse (drop (length (piece.stripe.items.items ++ piece.pushes.items) - piece.pops) (piece.stripe.items.items ++ piece.pushes.items))
  pub room : IsNext piece.stripe.room (length served.stripe.items.items) served.stripe.room

-- stripe j has the items and the room that it had in the stack before
pub record IsKept (before : StackView) (stripes : List (List ℕ)) (rooms : List ℕ) (j : ℕ) : Type 0 where
  pub items : slice_index_or stripes j [] ≡ stripe j before.items
  pub room : slice_index rooms j ≡ slice_index before.rooms j

-- The rest belongs to this batch, which can be served: it has the numbers of items, pushes and pops, and the stripes
-- that no piece has. The pieces are a `Cut` of the batch. No stripe needed another room before the batch, and the items
-- with the pushes are fewer than 2^63.
pub record IsContextOf (rest : Rest) (o : BatchContext StackView Piece) : Type 0 where
  pub batch : AreOneBatch o.calls
  pub may : MayServe o.before o.calls
  pub cut : Cut o.before o.calls o.ins
  pub count : rest.count ≡ length o.before.items
  pub pushes : rest.pushes ≡ length (pushes_of o.calls)
  pub pops : rest.pops ≡ pops_of o.calls
  pub fits : rest.count + rest.pushes < 2 ^ 63
  pub sixteen : length rest.stripes.items ≡ 16
  pub kept : (j : ℕ) → j < 16 → has j (numbers_in o.ins) ≡ false
      → IsKept o.before (lists rest.stripes.items) (rooms_in rest.stripes.items) j
  pub settled : (j : ℕ) → j < 16
      → NeedsRoom (slice_index o.before.rooms j) (stripe_length j (length o.before.items)) → ⊥
