-- The keys of entries, and their number.
use Rattle.std.proofs.Common.{◌≡◌, ◌+◌, ◌≤◌, List, [], ◌∷◌, ◌++◌, length, refl, sym, ap, ◌∙◌, subst, append_assoc, append-nil, arith, length-append}
use Rattle.tree23.specs.declared.trees.KeyedTree.{KeyedTree}
use Rattle.tree_nodes.specs.declared.node.Rooted.{Rooted}
use Rattle.tree_nodes.specs.Nodes.{keys, IsRooted}
use Rattle.tree23.specs.SideBySide.{entry_keys, AreKeyedTrees}
use Rattle.tree_nodes.proofs.TreeLemmas.Depths.{depth_within}

pub entry_keys_append : (xs ys : List KeyedTree) → entry_keys (xs ++ ys) ≡ entry_keys xs ++ entry_keys ys
entry_keys_append [] ys = refl
entry_keys_append (e ∷ xs) ys = ap (λ z. e.key ∷ (keys e.rooted.tree ++ z)) (entry_keys_append xs ys) ∙ sym (append_assoc (e.key ∷ keys e.rooted.tree) (entry_keys xs) (entry_keys ys))

-- the keys after an entry is pushed
pub entry_keys_push : (xs : List KeyedTree) (e : KeyedTree) → entry_keys (xs ++ e ∷ []) ≡ entry_keys xs ++ e.key ∷ keys e.rooted.tree
entry_keys_push xs e = entry_keys_append xs (e ∷ []) ∙ ap (λ z. entry_keys xs ++ e.key ∷ z) (append-nil (keys e.rooted.tree))

-- concatenated entries
pub entries_append : (xs ys : List KeyedTree) → AreKeyedTrees xs → AreKeyedTrees ys → AreKeyedTrees (xs ++ ys)
entries_append [] ys each each' = each'
entries_append (e ∷ xs) ys each each' = (each.0, entries_append xs ys each.1 each')

pub entries_front : (xs ys : List KeyedTree) → AreKeyedTrees (xs ++ ys) → AreKeyedTrees xs
entries_front [] ys each = tt
entries_front (e ∷ xs) ys each = (each.0, entries_front xs ys each.1)

pub entries_back : (xs ys : List KeyedTree) → AreKeyedTrees (xs ++ ys) → AreKeyedTrees ys
entries_back [] ys each = each
entries_back (e ∷ xs) ys each = entries_back xs ys each.1

-- the last entry
pub entries_push : (xs : List KeyedTree) (e : KeyedTree) → AreKeyedTrees xs → IsRooted e.rooted → AreKeyedTrees (xs ++ e ∷ [])
entries_push xs e each rooted = entries_append xs (e ∷ []) each (rooted, tt)

pub entries_last : (xs : List KeyedTree) (e : KeyedTree) → AreKeyedTrees (xs ++ e ∷ []) → IsRooted e.rooted
entries_last xs e each = (entries_back xs (e ∷ []) each).0

-- a tree has no more levels than keys
pub height_within : (rooted : Rooted) → IsRooted rooted → rooted.height ≤ length (keys rooted.tree)
height_within rooted is = omega (arith, is.height_is, depth_within rooted.tree is.tree_is)

-- the number of keys after an entry is pushed
pub length_push : (xs : List KeyedTree) (e : KeyedTree) → length (entry_keys (xs ++ e ∷ [])) ≡ length (entry_keys xs) + 1 + length (keys e.rooted.tree)
length_push xs e = ap length (entry_keys_push xs e) ∙ omega (arith, length-append (entry_keys xs) (e.key ∷ keys e.rooted.tree))

-- the consequences of taking off the last entry
pub record Taken (old new : List KeyedTree) (e : KeyedTree) : Type 0 where
  pub rooted : IsRooted e.rooted
  pub others : AreKeyedTrees new
  pub keys_are : entry_keys old ≡ entry_keys new ++ e.key ∷ keys e.rooted.tree
  pub count : length (entry_keys old) ≡ length (entry_keys new) + 1 + length (keys e.rooted.tree)
  pub height_fits : e.rooted.height ≤ length (keys e.rooted.tree)
  pub fewer : length old ≡ length new + 1

pub taken : (old new : List KeyedTree) (e : KeyedTree) → AreKeyedTrees old → old ≡ new ++ e ∷ [] → Taken old new e
taken old new e each is =
    let each' : AreKeyedTrees (new ++ e ∷ []) = subst AreKeyedTrees is each in
    record {
      rooted = entries_last new e each';
      others = entries_front new (e ∷ []) each';
      keys_are = ap entry_keys is ∙ entry_keys_push new e;
      count = ap (λ z. length (entry_keys z)) is ∙ length_push new e;
      height_fits = height_within e.rooted (entries_last new e each');
      fewer = ap length is ∙ length-append new (e ∷ []);
    }

pub ruleset entries = (entry_keys_push, entries_front, entries_push, entries_last, append_assoc)
