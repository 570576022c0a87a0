-- Bounds on the number of keys in a tree of a given depth.
use Rattle.std.proofs.Common.{◌+◌, ◌*◌, ◌<◌, ◌≤◌, ◌^◌, ◌∷◌, ◌++◌, length, arith, length-append}
use Rattle.std.proofs.lemmas.Grind.{pow_more}
use Rattle.tree_nodes.specs.declared.node.Tree.{Tree}
use Rattle.tree_nodes.specs.declared.node.Tree.TheVariants.{Underfull', Two', Three'}
use Rattle.tree_nodes.specs.Nodes.{keys, depth, IsTree}

pub depth_within : (tree : Tree) → IsTree tree → depth tree ≤ length (keys tree)
depth_within (Underfull' p a k b m c) t = absurd t
depth_within (Two' p a k b m c) t = omega (arith, depth_within a t.0, length-append (keys a) (k ∷ keys b))
depth_within (Three' p a k b m c) t = omega (arith, depth_within a t.0, length-append (keys a) (k ∷ (keys b ++ m ∷ keys c)))
depth_within _ t = omega arith

-- a tree of depth d holds at least 2 ^ d - 1 keys
pub keys_at_least : (tree : Tree) → IsTree tree → 2 ^ depth tree ≤ length (keys tree) + 1
keys_at_least (Underfull' p a k b m c) t = absurd t
keys_at_least (Two' p a k b m c) t =
    let level = t.2 in
    let x = keys_at_least a t.0 in
    let y = rw level at (keys_at_least b t.1) in
    rw pow_more (omega (arith, x, y, length-append (keys a) (k ∷ keys b)))
keys_at_least (Three' p a k b m c) t =
    let level = t.3 in
    let x = keys_at_least a t.0 in
    let y = rw level at (keys_at_least b t.1) in
    rw pow_more (omega (arith, x, y, length-append (keys a) (k ∷ (keys b ++ m ∷ keys c)), length-append (keys b) (m ∷ keys c)))
keys_at_least _ t = omega arith

-- a tree of depth d holds fewer than 257 * 3 ^ d keys, as there are 3 ^ d leaves at most, and 3 ^ d - 1 keys above them
pub keys_at_most : (tree : Tree) → IsTree tree → length (keys tree) < 257 * 3 ^ depth tree
keys_at_most (Underfull' p a k b m c) t = absurd t
keys_at_most (Two' p a k b m c) t =
    let level = t.2 in
    let x = keys_at_most a t.0 in
    let y = rw level at (keys_at_most b t.1) in
    rw pow_more (omega (arith, x, y, length-append (keys a) (k ∷ keys b)))
keys_at_most (Three' p a k b m c) t =
    let level = t.3 in
    let level' = t.4 in
    let x = keys_at_most a t.0 in
    let y = rw level at (keys_at_most b t.1) in
    let z = rw level' at (keys_at_most c t.2) in
    rw pow_more (omega (arith, x, y, z, length-append (keys a) (k ∷ (keys b ++ m ∷ keys c)), length-append (keys b) (m ∷ keys c)))
keys_at_most _ t = omega arith
