-- A batch that is served in pieces. Each piece maps an input (`In`) to an output (`Out`).
use Rattle.std.specs.Prelude.{ℕ, ◌≡◌, ◌<◌, List, [], ◌∷◌, length, slice_index_or, Option, None, Some, ⊤}

module _ {In Out : Type 0} where
  -- there are as many outputs as inputs, and each output meets the input at the same index
  abbrev pub AllMeet : (In → Out → Type 0) → List In → List Out → Type 0
  AllMeet meets [] [] = ⊤
  AllMeet meets [] (out ∷ outs) = ⊥
  AllMeet meets (input ∷ ins) [] = ⊥
  AllMeet meets (input ∷ ins) (out ∷ outs) = meets input out × AllMeet meets ins outs

  -- the output meets the input, or there is none, since the piece ran out of memory
  abbrev pub MeetsOrStarves : (In → Out → Type 0) → (In → Type 0) → In → Option Out → Type 0
  MeetsOrStarves meets starves input None = starves input
  MeetsOrStarves meets starves input (Some out) = meets input out

-- one of the pieces ran out of memory
abbrev pub OneStarves : {In : Type 0} → (In → Type 0) → List In → Type 0
OneStarves {In} starves ins = (k : ℕ) × (input : In) × (k < length ins) × (input ≡ slice_index_or ins k input) × starves input

-- the context of a batch: the structure before it, its operations, and the inputs of its pieces
pub record BatchContext (Structure Op In : Type 0) : Type 0 where
  pub before : Structure
  pub ops : List Op
  pub ins : List In
