-- Balanced trees whose keys strictly ascend and have 32 bits: bounds, and what preserves them.
use Rattle.std.proofs.Common.{◌≡◌, ℕ, ◌+◌, ◌<◌, ◌≤◌, ◌^◌, List, [], ◌∷◌, ◌++◌, length, subst, arith, inl, inr}
use Rattle.std.specs.List.{AllByRecursion}
use Rattle.std.proofs.lemmas.Bool.{cases_order}
use Rattle.std.proofs.Math.Nat.{pow-le-pow_right}
use Rattle.rank_nodes.specs.declared.entry.Entry.{Entry}
use Rattle.rank_nodes.specs.declared.node.Tree.{Tree}
use Rattle.rank_nodes.specs.Maps.{Ascends, with_entry, without_entry, AllBelow}
use Rattle.rank_nodes.specs.Nodes.{entries, depth, count, IsTree, IsMap}
use Rattle.rank_nodes.specs.Code.Splits.{IsSplit}
use Rattle.rank_nodes.proofs.EntryLemmas.Ascending.{all_append, all_front, all_back, all_with, all_without, ascends_front, ascends_back, ascends_both, ascends_with, ascends_without, length_in_range}
use Rattle.rank_nodes.proofs.TreeLemmas.Depths.{count_is, depth_within, count_at_least}

all_from_0 : (xs : List Entry) → AllByRecursion (λ (e : Entry). 0 ≤ e.key) xs
all_from_0 [] = tt
all_from_0 (x ∷ xs) = (omega arith, all_from_0 xs)

pub map_length : (root : Tree) → IsMap root → length (entries root) ≤ 2 ^ 32
map_length root s = omega (arith, length_in_range (2 ^ 32) 0 (entries root) s.ascends (all_from_0 (entries root)) s.small (omega arith))

pub map_count : (root : Tree) → IsMap root → count root ≤ 2 ^ 32
map_count root s = omega (arith, map_length root s, count_is root)

pub map_depth : (root : Tree) → IsMap root → depth root ≤ 2 ^ 32
map_depth root s = omega (arith, map_count root s, depth_within root s.tree)

power_above : (d k : ℕ) → k ≤ d → 2 ^ k ≤ 2 ^ d
power_above d k le = pow-le-pow_right {n = 2} (omega arith) le

small_power : (d n : ℕ) → 2 ^ d ≤ n + 1 → n ≤ 2 ^ 32 → d < 2 ^ 32
small_power d n le small =
    elim (cases_order d 33) [
      | inl same ↦ omega arith
      | inr (inl less) ↦ omega arith
      | inr (inr more) ↦ let p = power_above d 33 (omega arith) in absurd (omega (arith, p, le, small))
    ]

pub map_depth_small : (root : Tree) → IsMap root → depth root < 2 ^ 32
map_depth_small root s = small_power (depth root) (count root) (count_at_least root s.tree) (map_count root s)

pub map_with : (key val : ℕ) (old new : Tree) → IsMap old → IsTree new → entries new ≡ with_entry key val (entries old) → key < 2 ^ 32 → IsMap new
map_with key val old new s tree is small = record {
  tree = tree;
  ascends = rw is (ascends_with key val (entries old) s.ascends);
  small = rw is (all_with (λ k. k < 2 ^ 32) key val (entries old) small s.small);
}

pub map_without : (key : ℕ) (old new : Tree) → IsMap old → IsTree new → entries new ≡ without_entry key (entries old) → IsMap new
map_without key old new s tree is = record {
  tree = tree;
  ascends = rw is (ascends_without key (entries old) s.ascends);
  small = rw is (all_without (λ k. k < 2 ^ 32) key (entries old) s.small);
}

pub map_low : (key : ℕ) (whole low : Tree) (high : List Entry) → IsMap whole → IsTree low → IsSplit key (entries whole) (entries low) high → IsMap low
map_low key whole low high s tree cut = record {
  tree = tree;
  ascends = ascends_front (entries low) high (subst Ascends cut.is s.ascends);
  small = all_front (λ e. e.key < 2 ^ 32) (entries low) high (subst (AllByRecursion (λ (e : Entry). e.key < 2 ^ 32)) cut.is s.small);
}

pub map_high : (key : ℕ) (whole high : Tree) (low : List Entry) → IsMap whole → IsTree high → IsSplit key (entries whole) low (entries high) → IsMap high
map_high key whole high low s tree cut = record {
  tree = tree;
  ascends = ascends_back low (entries high) (subst Ascends cut.is s.ascends);
  small = all_back (λ e. e.key < 2 ^ 32) low (entries high) (subst (AllByRecursion (λ (e : Entry). e.key < 2 ^ 32)) cut.is s.small);
}

pub map_both : (low high both : Tree) → IsMap low → IsMap high → IsTree both → entries both ≡ entries low ++ entries high → AllBelow (entries low) (entries high) → IsMap both
map_both low high both s t tree is below = record {
  tree = tree;
  ascends = rw is (ascends_both (entries low) (entries high) s.ascends t.ascends below);
  small = rw is (all_append (λ e. e.key < 2 ^ 32) (entries low) (entries high) s.small t.small);
}
