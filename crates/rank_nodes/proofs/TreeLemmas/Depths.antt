-- Bounds on the number of entries in a tree of a given depth.
use Rattle.std.proofs.Common.{◌≡◌, ◌+◌, ◌*◌, ◌<◌, ◌≤◌, ◌^◌, ◌∷◌, ◌++◌, length, refl, arith, length-append}
use Rattle.std.proofs.lemmas.Grind.{pow_more}
use Rattle.rank_nodes.specs.declared.node.Tree.{Tree}
use Rattle.rank_nodes.specs.declared.node.Tree.TheVariants.{Underfull', Two', Three'}
use Rattle.rank_nodes.specs.Nodes.{entries, depth, count, IsTree}

pub count_is : (tree : Tree) → count tree ≡ length (entries tree)
count_is (Underfull' p size a k b m c) = count_is a
count_is (Two' p size a k b m c) = omega (arith, count_is a, count_is b, length-append (entries a) (k ∷ entries b))
count_is (Three' p size a k b m c) = omega (arith, count_is a, count_is b, count_is c, length-append (entries a) (k ∷ (entries b ++ m ∷ entries c)), length-append (entries b) (m ∷ entries c))
count_is _ = refl

pub depth_within : (tree : Tree) → IsTree tree → depth tree ≤ count tree
depth_within (Underfull' p size a k b m c) t = absurd t
depth_within (Two' p size a k b m c) t = omega (arith, depth_within a t.0)
depth_within (Three' p size a k b m c) t = omega (arith, depth_within a t.0)
depth_within _ t = omega arith

-- a tree of depth d holds at least 2 ^ d - 1 entries
pub count_at_least : (tree : Tree) → IsTree tree → 2 ^ depth tree ≤ count tree + 1
count_at_least (Underfull' p size a k b m c) t = absurd t
count_at_least (Two' p size a k b m c) t =
    let level = t.2 in
    let x = count_at_least a t.0 in
    let y = rw level at (count_at_least b t.1) in
    rw pow_more (omega (arith, x, y))
count_at_least (Three' p size a k b m c) t =
    let level = t.3 in
    let x = count_at_least a t.0 in
    let y = rw level at (count_at_least b t.1) in
    rw pow_more (omega (arith, x, y))
count_at_least _ t = omega arith

-- a tree of depth d holds fewer than 65 * 3 ^ d entries, as there are 3 ^ d leaves at most, and 3 ^ d - 1 entries above
-- them
pub count_at_most : (tree : Tree) → IsTree tree → count tree < 65 * 3 ^ depth tree
count_at_most (Underfull' p size a k b m c) t = absurd t
count_at_most (Two' p size a k b m c) t =
    let level = t.2 in
    let x = count_at_most a t.0 in
    let y = rw level at (count_at_most b t.1) in
    rw pow_more (omega (arith, x, y))
count_at_most (Three' p size a k b m c) t =
    let level = t.3 in
    let level' = t.4 in
    let x = count_at_most a t.0 in
    let y = rw level at (count_at_most b t.1) in
    let z = rw level' at (count_at_most c t.2) in
    rw pow_more (omega (arith, x, y, z))
count_at_most _ t = omega arith

-- the same for the list of the entries
pub entries_at_least : (tree : Tree) → IsTree tree → 2 ^ depth tree ≤ length (entries tree) + 1
entries_at_least tree t = omega (arith, count_at_least tree t, count_is tree)

pub entries_at_most : (tree : Tree) → IsTree tree → length (entries tree) < 65 * 3 ^ depth tree
entries_at_most tree t = omega (arith, count_at_most tree t, count_is tree)
