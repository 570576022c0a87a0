-- How a list of shapes is joined to one.
use Rattle.std.specs.Prelude.{ℕ, zero, suc, ◌+◌, ◌/◌, List, [], ◌∷◌, length, take, drop, Option, Some, None}
use Rattle.sp_order.specs.Precedence.{Tree}

-- how many of `k` shapes go to the left half
abbrev pub half : ℕ → ℕ
half k = (k + 1) / 2

abbrev pub both : (Tree → Tree → Tree) → Option Tree → Option Tree → Option Tree
both kind (Some left) (Some right) = Some (kind left right)
both kind _ _ = None

-- `None` for no shapes, the shape itself for one, and else the two halves of the list, each joined in the same way. The
-- number bounds how often the list is halved.
abbrev pub join_within : (Tree → Tree → Tree) → ℕ → List Tree → Option Tree
join_within kind zero shapes = None
join_within kind (suc bound) [] = None
join_within kind (suc bound) (shape ∷ []) = Some shape
join_within kind (suc bound) (first ∷ second ∷ more) =
    let shapes = first ∷ second ∷ more in
    both kind (join_within kind bound (take (half (length shapes)) shapes)) (join_within kind bound (drop (half (length shapes)) shapes))

abbrev pub join_of : (Tree → Tree → Tree) → List Tree → Option Tree
join_of kind shapes = join_within kind (length shapes) shapes
