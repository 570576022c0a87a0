-- A batch that is served in pieces. Each piece maps an input (`In`) to an output (`Out`).
use Rattle.std.specs.Prelude.{List, [], ◌∷◌, ⊤}
use Rattle.seq_objects.specs.declared.call.Call.{Call}

-- there are as many outputs as inputs, and each output meets the input at the same index
abbrev pub AllMeet : {In Out : Type 0} → (In → Out → Type 0) → List In → List Out → Type 0
AllMeet meets [] [] = ⊤
AllMeet meets [] (out ∷ outs) = ⊥
AllMeet meets (input ∷ ins) [] = ⊥
AllMeet meets (input ∷ ins) (out ∷ outs) = meets input out × AllMeet meets ins outs

-- the context of a batch: the structure before it, its calls, and the inputs of its pieces
pub record BatchContext (Structure In : Type 0) : Type 0 where
  pub before : Structure
  pub calls : List Call
  pub ins : List In
