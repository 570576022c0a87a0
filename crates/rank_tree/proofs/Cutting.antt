-- Cutting a node at a key: one child is cut, and the others move whole.
use Rattle.std.proofs.Common.{◌≡◌, ℕ, ◌+◌, ◌<◌, ◌≤◌, List, ◌∷◌, ◌++◌, ap, ◌∙◌, sym, append_assoc, arith}
use Rattle.key_sets.proofs.KeyLemmas.Ascending.{all_map}
use Rattle.rank_nodes.specs.declared.entry.Entry.{Entry}
use Rattle.rank_nodes.specs.declared.node.Tree.{Tree}
use Rattle.rank_nodes.specs.declared.node.Rooted.{Rooted}
use Rattle.rank_nodes.specs.Maps.{Ascends}
use Rattle.rank_nodes.specs.Nodes.{entries, count, IsRooted}
use Rattle.rank_nodes.specs.Code.Splits.{IsSplit}
use Rattle.rank_tree.specs.Cuts.{IsCut}
use Rattle.rank_nodes.proofs.EntryLemmas.Ascending.{all_append, ascends_front, ascends_after, below_entry, above_entry}

-- the cut is in the entries before `k`
pub split_before : (key : ℕ) (k : Entry) (a b low high : List Entry) → Ascends (a ++ k ∷ b) → key ≤ k.key → IsSplit key a low high → IsSplit key (a ++ k ∷ b) low (high ++ k ∷ b)
split_before key k a b low high up le cut = record {
  is = ap (λ z. z ++ k ∷ b) cut.is ∙ append_assoc low high (k ∷ b);
  below = cut.below;
  above = all_append (λ e. key ≤ e.key) high (k ∷ b) cut.above (le, all_map (λ (e : Entry). k.key < e.key) (λ (e : Entry). key ≤ e.key) (λ (e : Entry) more. omega (arith, le, more)) b (above_entry a k b up));
}

-- the cut is in the entries after `k`
pub split_after : (key : ℕ) (k : Entry) (a b low high : List Entry) → Ascends (a ++ k ∷ b) → k.key < key → IsSplit key b low high → IsSplit key (a ++ k ∷ b) (a ++ k ∷ low) high
split_after key k a b low high up less cut = record {
  is = ap (λ z. a ++ k ∷ z) cut.is ∙ sym (append_assoc a (k ∷ low) high);
  below = all_append (λ e. e.key < key) a (k ∷ low) (all_map (λ (e : Entry). e.key < k.key) (λ (e : Entry). e.key < key) (λ (e : Entry) h. omega (arith, less, h)) a (below_entry a k b up)) (less, cut.below);
  above = cut.above;
}

-- the child before an entry was cut, and its high part joined to the rest
pub cut_before : (key : ℕ) (whole a : Tree) (k : Entry) (rest : List Entry) (n : ℕ) (low above joined : Rooted)
    → entries whole ≡ entries a ++ k ∷ rest → count whole ≡ count a + 1 + n → Ascends (entries whole) → key ≤ k.key → IsCut key a low above
    → IsRooted joined → entries joined.tree ≡ entries above.tree ++ k ∷ rest → count joined.tree ≡ count above.tree + 1 + n → IsCut key whole low joined
cut_before key whole a k rest n low above joined is size up le cut rooted joined_is joined_size = record {
  split = rw (is, joined_is) (split_before key k (entries a) rest (entries low.tree) (entries above.tree) (rw is at up) le cut.split);
  low_is = cut.low_is;
  high_is = rooted;
  total = omega (arith, size, joined_size, cut.total);
}

-- the child after an entry was cut, and its low part joined to the rest
pub cut_after : (key : ℕ) (whole b : Tree) (k : Entry) (rest : List Entry) (n : ℕ) (below high joined : Rooted)
    → entries whole ≡ rest ++ k ∷ entries b → count whole ≡ n + 1 + count b → Ascends (entries whole) → k.key < key → IsCut key b below high
    → IsRooted joined → entries joined.tree ≡ rest ++ k ∷ entries below.tree → count joined.tree ≡ n + 1 + count below.tree → IsCut key whole joined high
cut_after key whole b k rest n below high joined is size up less cut rooted joined_is joined_size = record {
  split = rw (is, joined_is) (split_after key k rest (entries b) (entries below.tree) (entries high.tree) (rw is at up) less cut.split);
  low_is = rooted;
  high_is = cut.high_is;
  total = omega (arith, size, joined_size, cut.total);
}

-- the child between two entries was cut, and both its parts joined to the rest
pub cut_between : (key : ℕ) (whole a b c : Tree) (k m : Entry) (below above low high : Rooted)
    → entries whole ≡ entries a ++ k ∷ (entries b ++ m ∷ entries c) → count whole ≡ count a + 1 + count b + 1 + count c → Ascends (entries whole)
    → k.key < key → key ≤ m.key → IsCut key b below above
    → IsRooted low → entries low.tree ≡ entries a ++ k ∷ entries below.tree → count low.tree ≡ count a + 1 + count below.tree
    → IsRooted high → entries high.tree ≡ entries above.tree ++ m ∷ entries c → count high.tree ≡ count above.tree + 1 + count c → IsCut key whole low high
cut_between key whole a b c k m below above low high is size up less le cut low_rooted low_is low_size high_rooted high_is high_size =
    let up' = rw is at up in
    record {
      split = rw (is, low_is, high_is) (split_after key k (entries a) (entries b ++ m ∷ entries c) (entries below.tree) (entries above.tree ++ m ∷ entries c) up' less
          (split_before key m (entries b) (entries c) (entries below.tree) (entries above.tree) (ascends_after (entries a) k (entries b ++ m ∷ entries c) up') le cut.split));
      low_is = low_rooted;
      high_is = high_rooted;
      total = omega (arith, size, low_size, high_size, cut.total);
    }

pub ruleset parts = (ascends_front, ascends_after)
