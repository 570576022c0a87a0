-- Balanced trees whose keys strictly ascend and have 32 bits: bounds, and what preserves them.
use Rattle.std.proofs.Common.{◌≡◌, ℕ, ◌+◌, ◌<◌, ◌≤◌, ◌^◌, List, ◌++◌, length, subst, arith, inl, inr}
use Rattle.std.specs.List.{AllByRecursion}
use Rattle.std.proofs.lemmas.Bool.{cases_order}
use Rattle.std.proofs.Math.Nat.{pow-le-pow_right}
use Rattle.tree_nodes.specs.declared.node.Tree.{Tree}
use Rattle.key_sets.specs.Keys.{StrictlyAscends, with_key, without_key, AllBelow}
use Rattle.tree_nodes.specs.Nodes.{keys, depth, IsTree, IsSet}
use Rattle.key_sets.specs.Splits.{IsSplit}
use Rattle.key_sets.proofs.KeyLemmas.Ascending.{all_append, all_front, all_back, all_with, all_without, ascends_front, ascends_back, ascends_both, ascends_with, ascends_without, length_in_range}
use Rattle.tree_nodes.proofs.TreeLemmas.Depths.{depth_within, keys_at_least}
use Rattle.key_sets.proofs.GroupLemmas.Cutting.{all_from_0}

pub set_length : (root : Tree) → IsSet root → length (keys root) ≤ 2 ^ 32
set_length root s = omega (arith, length_in_range (2 ^ 32) 0 (keys root) s.ascends (all_from_0 (keys root)) s.small (omega arith))

pub set_depth : (root : Tree) → IsSet root → depth root ≤ 2 ^ 32
set_depth root s = omega (arith, set_length root s, depth_within root s.tree)

power_above : (d k : ℕ) → k ≤ d → 2 ^ k ≤ 2 ^ d
power_above d k le = pow-le-pow_right {n = 2} (omega arith) le

small_power : (d n : ℕ) → 2 ^ d ≤ n + 1 → n ≤ 2 ^ 32 → d < 2 ^ 32
small_power d n le small =
    elim (cases_order d 33) [
      | inl same ↦ omega arith
      | inr (inl less) ↦ omega arith
      | inr (inr more) ↦ let p = power_above d 33 (omega arith) in absurd (omega (arith, p, le, small))
    ]

pub set_depth_small : (root : Tree) → IsSet root → depth root < 2 ^ 32
set_depth_small root s = small_power (depth root) (length (keys root)) (keys_at_least root s.tree) (set_length root s)

pub set_with : (key : ℕ) (old new : Tree) → IsSet old → IsTree new → keys new ≡ with_key key (keys old) → key < 2 ^ 32 → IsSet new
set_with key old new s tree is small = record {
  tree = tree;
  ascends = rw is (ascends_with key (keys old) s.ascends);
  small = rw is (all_with (λ k. k < 2 ^ 32) key (keys old) small s.small);
}

pub set_without : (key : ℕ) (old new : Tree) → IsSet old → IsTree new → keys new ≡ without_key key (keys old) → IsSet new
set_without key old new s tree is = record {
  tree = tree;
  ascends = rw is (ascends_without key (keys old) s.ascends);
  small = rw is (all_without (λ k. k < 2 ^ 32) key (keys old) s.small);
}

pub set_low : (key : ℕ) (whole low : Tree) (high : List ℕ) → IsSet whole → IsTree low → IsSplit key (keys whole) (keys low) high → IsSet low
set_low key whole low high s tree cut = record {
  tree = tree;
  ascends = ascends_front (keys low) high (subst StrictlyAscends cut.is s.ascends);
  small = all_front (λ k. k < 2 ^ 32) (keys low) high (subst (AllByRecursion (λ k. k < 2 ^ 32)) cut.is s.small);
}

pub set_high : (key : ℕ) (whole high : Tree) (low : List ℕ) → IsSet whole → IsTree high → IsSplit key (keys whole) low (keys high) → IsSet high
set_high key whole high low s tree cut = record {
  tree = tree;
  ascends = ascends_back low (keys high) (subst StrictlyAscends cut.is s.ascends);
  small = all_back (λ k. k < 2 ^ 32) low (keys high) (subst (AllByRecursion (λ k. k < 2 ^ 32)) cut.is s.small);
}

pub set_both : (low high both : Tree) → IsSet low → IsSet high → IsTree both → keys both ≡ keys low ++ keys high → AllBelow (keys low) (keys high) → IsSet both
set_both low high both s t tree is below = record {
  tree = tree;
  ascends = rw is (ascends_both (keys low) (keys high) s.ascends t.ascends below);
  small = rw is (all_append (λ k. k < 2 ^ 32) (keys low) (keys high) s.small t.small);
}
