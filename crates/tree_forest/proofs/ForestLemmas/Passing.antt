-- Moving the trees below a key to the low side of a cut.
use Rattle.std.proofs.Common.{◌≡◌, ℕ, ◌<◌, ◌≤◌, List, [], ◌∷◌, ◌++◌, reverse, Some, None, refl, sym, ap, ◌∙◌, subst, append_assoc, arith}
use Rattle.std.specs.List.{AllByRecursion}
use Rattle.std.proofs.lemmas.List.{reverse-append, reverse-reverse}
use Rattle.tree_nodes.specs.declared.node.Rooted.{Rooted}
use Rattle.tree_nodes.specs.declared.node.Tree.TheVariants.{Empty}
use Rattle.tree23.specs.declared.trees.KeyedTree.{KeyedTree}
use Rattle.tree23.specs.declared.trees.Trees.{Trees}
use Rattle.tree23.specs.declared.trees.cut.Cut.{Cut}
use Rattle.key_sets.specs.Keys.{StrictlyAscends}
use Rattle.tree_nodes.specs.Nodes.{keys, IsRooted}
use Rattle.tree23.specs.SideBySide.{entry_keys, in_order, in_reverse, AreTrees, AreKeyedTrees}
use Rattle.tree23.specs.Code.Cuts.{low_keys, whole_keys, CanStand, IsOpenCut}
use Rattle.key_sets.proofs.KeyLemmas.Ascending.{all_map, all_append, all_below_key, ascends_back}
use Rattle.tree23.proofs.SideBySideLemmas.KeyedTrees.{entries_front, entries_last}

-- some trees are moved, and `rooted` is the one taken out last
pub record IsPassing (key : ℕ) (whole : List ℕ) (rooted : Rooted) (c : Cut) : Type 0 where
  pub part_is : IsRooted rooted
  pub low_trees : AreTrees c.low
  pub high_trees : AreTrees c.high
  pub stands : CanStand c.before c.low
  pub empty : keys c.high.front.tree ≡ []
  pub below : AllByRecursion (λ k. k < key) (low_keys c)
  pub is : whole_keys (keys rooted.tree) c ≡ whole

-- no tree is moved yet
pub pass_none : (key : ℕ) (whole : Trees) (rooted : Rooted) (low high : Trees) → AreTrees whole → rooted ≡ whole.front
    → IsRooted low.front → low.front.tree ≡ Empty → low.entries.items ≡ [] → IsRooted high.front → high.front.tree ≡ Empty → high.entries.items ≡ whole.entries.items
    → IsPassing key (in_reverse whole) rooted (record { low = low; before = None; high = high })
pass_none key whole rooted low high trees front low_part low_leaf low_items high_part high_leaf same =
    let none : in_order low ++ [] ≡ [] = ap (λ z. (keys z ++ entry_keys low.entries.items) ++ []) low_leaf ∙ ap (λ z. entry_keys z ++ []) low_items in
    let stack : in_reverse high ≡ entry_keys (reverse whole.entries.items) = ap (λ z. keys z ++ entry_keys (reverse high.entries.items)) high_leaf ∙ ap (λ z. entry_keys (reverse z)) same in
    record {
      part_is = rw front trees.front_is;
      low_trees = record { front_is = low_part; entries_are = rw low_items tt };
      high_trees = record { front_is = high_part; entries_are = rw same trees.entries_are };
      stands = (ap keys low_leaf, low_items);
      empty = ap keys high_leaf;
      below = rw none tt;
      is = ap (λ z. z ++ (keys rooted.tree ++ in_reverse high)) none ∙ ap (λ p. keys p.tree ++ in_reverse high) front ∙ ap (λ z. keys whole.front.tree ++ z) stack;
    }

-- the keys of the high side around its next entry
stack_less : (high left : Trees) (e : KeyedTree) → keys high.front.tree ≡ [] → keys left.front.tree ≡ [] → high.entries.items ≡ left.entries.items ++ e ∷ []
    → in_reverse high ≡ e.key ∷ (keys e.rooted.tree ++ in_reverse left)
stack_less high left e empty empty' is =
    ap (λ z. z ++ entry_keys (reverse high.entries.items)) empty
    ∙ ap (λ z. entry_keys (reverse z)) is
    ∙ ap entry_keys (reverse-append left.entries.items (e ∷ []))
    ∙ ap (λ z. e.key ∷ (keys e.rooted.tree ++ (z ++ entry_keys (reverse left.entries.items)))) (sym empty')

-- one more tree is moved
pub pass_one : (key : ℕ) (whole : List ℕ) (rooted : Rooted) (c new : Cut) (e : KeyedTree) (high : Trees) → StrictlyAscends whole → IsPassing key whole rooted c
    → high.front ≡ c.high.front → c.high.entries.items ≡ high.entries.items ++ e ∷ [] → e.key < key
    → AreTrees new.low → low_keys new ≡ low_keys c ++ (keys rooted.tree ++ e.key ∷ []) → new.before ≡ Some e.key → new.high ≡ high
    → IsPassing key whole e.rooted new
pass_one key whole rooted c new e high up i front taken less trees lows before highs =
    let a = keys rooted.tree in
    let b = keys e.rooted.tree in
    let empty : keys high.front.tree ≡ [] = ap (λ f. keys f.tree) front ∙ i.empty in
    let entries : AreKeyedTrees (high.entries.items ++ e ∷ []) = subst AreKeyedTrees taken i.high_trees.entries_are in
    let all : whole ≡ (low_keys c ++ a) ++ e.key ∷ (b ++ in_reverse high) =
    sym i.is ∙ ap (λ z. low_keys c ++ (a ++ z)) (stack_less c.high high e i.empty empty taken) ∙ sym (append_assoc (low_keys c) a (e.key ∷ (b ++ in_reverse high))) in
    let low : low_keys new ≡ (low_keys c ++ a) ++ e.key ∷ [] = lows ∙ sym (append_assoc (low_keys c) a (e.key ∷ [])) in
    record {
      part_is = entries_last high.entries.items e entries;
      low_trees = trees;
      high_trees = rw highs (record { front_is = rw front i.high_trees.front_is; entries_are = entries_front high.entries.items (e ∷ []) entries });
      stands = rw before tt;
      empty = rw highs empty;
      below = rw low
          (all_append (λ k. k < key) (low_keys c ++ a) (e.key ∷ [])
          (all_map (λ k. k < e.key) (λ k. k < key) (λ k h. omega arith) (low_keys c ++ a) (all_below_key (low_keys c ++ a) e.key (b ++ in_reverse high) (subst StrictlyAscends all up)))
          (less, tt));
      is = ap (λ z. z ++ (b ++ in_reverse new.high)) low
          ∙ ap (λ h. ((low_keys c ++ a) ++ e.key ∷ []) ++ (b ++ in_reverse h)) highs
          ∙ append_assoc (low_keys c ++ a) (e.key ∷ []) (b ++ in_reverse high)
          ∙ sym all;
    }

-- if the next key of the high side is not below `key`, no key there is
above_stack : (key : ℕ) (items : List KeyedTree) → StrictlyAscends (entry_keys (reverse items)) → ((e : KeyedTree) (others : List KeyedTree) → items ≡ others ++ e ∷ [] → key ≤ e.key)
    → AllByRecursion (λ k. key ≤ k) (entry_keys (reverse items))
above_stack key items up stays = step (reverse items) refl up where
  step : (r : List KeyedTree) → reverse items ≡ r → StrictlyAscends (entry_keys r) → AllByRecursion (λ k. key ≤ k) (entry_keys r)
  step [] is ascends = tt
  step (e ∷ r) is ascends =
      let le : key ≤ e.key = stays e (reverse r) (sym (reverse-reverse items) ∙ ap reverse is ∙ reverse-append (e ∷ []) r) in
      (le, all_map (λ k. e.key < k) (λ k. key ≤ k) (λ k h. omega arith) (keys e.rooted.tree ++ entry_keys r) ascends.0)

-- no further tree is moved
same_stack : (high left : Trees) → left.front ≡ high.front → left.entries.items ≡ high.entries.items → in_reverse left ≡ in_reverse high
same_stack high left front same = ap (λ f. keys f.tree ++ entry_keys (reverse left.entries.items)) front ∙ ap (λ z. keys high.front.tree ++ entry_keys (reverse z)) same

pub pass_all : (key : ℕ) (whole : List ℕ) (rooted : Rooted) (c : Cut) (high : Trees) → StrictlyAscends whole → IsPassing key whole rooted c
    → high.front ≡ c.high.front → high.entries.items ≡ c.high.entries.items → ((e : KeyedTree) (others : List KeyedTree) → c.high.entries.items ≡ others ++ e ∷ [] → key ≤ e.key)
    → IsOpenCut key (record { low = c.low; before = c.before; high = high })
pass_all key whole rooted c high up i front same stays =
    let stack : in_reverse c.high ≡ entry_keys (reverse c.high.entries.items) = ap (λ z. z ++ entry_keys (reverse c.high.entries.items)) i.empty in
    let ascends : StrictlyAscends (in_reverse c.high) = ascends_back (keys rooted.tree) (in_reverse c.high) (ascends_back (low_keys c) (keys rooted.tree ++ in_reverse c.high) (subst StrictlyAscends (sym i.is) up)) in
    record {
      low_trees = i.low_trees;
      high_trees = record { front_is = rw front i.high_trees.front_is; entries_are = rw same i.high_trees.entries_are };
      stands = i.stands;
      empty = ap (λ f. keys f.tree) front ∙ i.empty;
      below = i.below;
      above = rw (same_stack c.high high front same ∙ stack) (above_stack key c.high.entries.items (subst StrictlyAscends stack ascends) stays);
    }

pub pass_keys : (key : ℕ) (whole : List ℕ) (rooted : Rooted) (c : Cut) (high : Trees) → IsPassing key whole rooted c
    → high.front ≡ c.high.front → high.entries.items ≡ c.high.entries.items → whole_keys (keys rooted.tree) (record { low = c.low; before = c.before; high = high }) ≡ whole
pass_keys key whole rooted c high i front same = ap (λ z. low_keys c ++ (keys rooted.tree ++ z)) (same_stack c.high high front same) ∙ i.is
