-- Ranks and indices in a node, from the sizes of its children.
use Rattle.std.proofs.Common.{◌≡◌, ℕ, ◌+◌, ◌-◌, ◌<◌, List, [], ◌∷◌, ◌++◌, Some, ◌∙◌, arith}
use Rattle.rank_nodes.specs.declared.entry.Entry.{Entry}
use Rattle.rank_nodes.specs.declared.node.Tree.{Tree}
use Rattle.rank_nodes.specs.Maps.{Ascends, rank_of, key_at}
use Rattle.rank_nodes.specs.Nodes.{entries, count}
use Rattle.rank_nodes.proofs.EntryLemmas.Ascending.{ascends_front, ascends_after}
use Rattle.rank_nodes.proofs.EntryLemmas.Ranks.{rank_left, rank_right, rank_at, at_left, at_right}
use Rattle.rank_nodes.proofs.TreeLemmas.Depths.{count_is}

pub rank_beyond : (key : ℕ) (k : Entry) (a : Tree) (ys : List Entry) → k.key < key → Ascends (entries a ++ k ∷ ys) → rank_of key (entries a ++ k ∷ ys) ≡ count a + 1 + rank_of key ys
rank_beyond key k a ys less up = omega (arith, rank_right key k (entries a) ys less up, count_is a)

pub at_first : (i : ℕ) (a : Tree) (ys : List Entry) → i < count a → key_at i (entries a ++ ys) ≡ key_at i (entries a)
at_first i a ys less = at_left i (entries a) ys (omega (arith, less, count_is a))

pub at_entry : (i : ℕ) (a : Tree) (k : Entry) (ys : List Entry) → i ≡ count a → key_at i (entries a ++ k ∷ ys) ≡ Some k.key
at_entry i a k ys is = at_right i 0 (entries a) (k ∷ ys) (omega (arith, is, count_is a))

pub at_beyond : (i : ℕ) (a : Tree) (k : Entry) (ys : List Entry) → count a < i → key_at i (entries a ++ k ∷ ys) ≡ key_at (i - count a - 1) ys
at_beyond i a k ys more = at_right i ((i - count a - 1) + 1) (entries a) (k ∷ ys) (omega (arith, more, count_is a)) ∙ at_right ((i - count a - 1) + 1) (i - count a - 1) (k ∷ []) ys (omega arith)

pub ruleset ranks = (rank_left, rank_beyond, rank_at, ascends_front, ascends_after)

pub ruleset indices = (at_first, at_entry, at_beyond)
