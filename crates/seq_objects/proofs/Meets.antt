-- Running pieces one after another.
use Rattle.std.proofs.Common.{List, [], ◌∷◌, ◌++◌}
use Rattle.seq_objects.specs.Pieces.{AllMeet}

-- `AllMeet` extends by one more input and an output that meets it
pub meets_more : {In Out : Type 0} (meets : In → Out → Type 0) (ins : List In) (outs : List Out) (input : In) (out : Out) → AllMeet meets ins outs → meets input out → AllMeet meets (ins ++ input ∷ []) (outs ++ out ∷ [])
meets_more meets [] [] input out all one = (one, tt)
meets_more meets [] (o ∷ outs) input out all one = absurd all
meets_more meets (i ∷ ins) [] input out all one = absurd all
meets_more meets (i ∷ ins) (o ∷ outs) input out all one = (all.0, meets_more meets ins outs input out all.1 one)
