-- Bundles of pieces, and the outs of bundles.
use Rattle.std.specs.Prelude.{List, [], ◌∷◌, ◌++◌, Result, Ok, Err, Option, Some, None}
use Rattle.std.specs.declared.vec.Vec.{Vec}
use Rattle.std.specs.declared.alloc.Global.{Global}

-- the pieces of all bundles, one after another
abbrev pub pieces_in : {In : Type 0} → List (Vec In Global) → List In
pieces_in [] = []
pieces_in (bundle ∷ bundles) = bundle.items ++ pieces_in bundles

-- outs in front of more, where there are more
abbrev pub before_outs : {Out : Type 0} → List Out → Option (List Out) → Option (List Out)
before_outs outs None = None
before_outs outs (Some more) = Some (outs ++ more)

-- the outs of all bundles, one after another; none where a bundle failed
abbrev pub outs_in : {Out E : Type 0} → List (Result (Vec Out Global) E) → Option (List Out)
outs_in [] = Some []
outs_in (Err e ∷ results) = None
outs_in (Ok outs ∷ results) = before_outs outs.items (outs_in results)
