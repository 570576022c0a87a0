-- The pieces of a batch.
use Rattle.std.specs.Prelude.{◌≡◌, ℕ, ◌+◌, ◌<◌, ◌⊎◌, List, [], ◌∷◌, ◌++◌, map, take, drop, slice_index_or, slice_set, Contains}
use Rattle.std.specs.List.{AllByRecursion}
use Rattle.batched_queue.specs.declared.piece.Piece.{Piece}
use Rattle.batched_queue.specs.declared.piece.Served.{Served}
use Rattle.batched_queue.specs.Code.Stripes.{stripe, count_in}

-- the puts were appended to the stripe, and then the gets took its first items
pub record Meets (piece : Piece) (served : Served) : Type 0 where
  pub number : served.number ≡ piece.number
  pub items : served.items.items ≡ drop piece.gets (piece.items.items ++ piece.puts.items)
  pub taken : served.taken.items ≡ take piece.gets (piece.items.items ++ piece.puts.items)

-- the piece has this stripe, with these calls
pub record IsTaken (stripes : List (List ℕ)) (j : ℕ) (mine : List ℕ) (takes : ℕ) (piece : Piece) : Type 0 where
  pub number : piece.number ≡ j
  pub items : piece.items.items ≡ slice_index_or stripes j []
  pub puts : piece.puts.items ≡ mine
  pub gets : piece.gets ≡ takes

-- the numbers of the stripes that the pieces have
abbrev pub numbers_in : List Piece → List ℕ
numbers_in pieces = map (λ piece. piece.number) pieces

-- the piece has its stripe, the puts to it, and the number of the gets that take an item of it
abbrev pub IsPieceOf : List (List ℕ) → ℕ → ℕ → List ℕ → ℕ → Piece → Type 0
IsPieceOf stripes first count puts found piece =
    IsTaken stripes piece.number (stripe (first + count) piece.number puts) (count_in first piece.number found) piece

-- stripe j has no put and no get that finds an item, and is as it was
pub record IsUntouched (stripes : List (List ℕ)) (first count : ℕ) (puts : List ℕ) (found : ℕ) (rest : List (List ℕ)) (j : ℕ) : Type 0 where
  pub same : slice_index_or rest j [] ≡ slice_index_or stripes j []
  pub no_puts : stripe (first + count) j puts ≡ []
  pub no_gets : count_in first j found ≡ 0

-- each stripe has a piece or is untouched
pub record IsCut (stripes : List (List ℕ)) (first count : ℕ) (puts : List ℕ) (found : ℕ) (rest : List (List ℕ)) (pieces : List Piece) : Type 0 where
  pub each : AllByRecursion (IsPieceOf stripes first count puts found) pieces
  pub all : (j : ℕ) → j < 16
      → Contains (numbers_in pieces) j ⊎ IsUntouched stripes first count puts found rest j

-- the list, with `part` of each out at the out's number
abbrev pub with_outs : {X : Type 0} → (Served → X) → List X → List Served → List X
with_outs part xs [] = xs
with_outs part xs (out ∷ outs) = with_outs part (slice_set xs out.number (part out)) outs
