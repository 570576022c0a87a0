-- The steps of a cut of a tree at a key.
use Rattle.std.proofs.Common.{◌≡◌, ℕ, ◌<◌, ◌≤◌, List, [], ◌∷◌, ◌++◌, length, reverse, Some, None, refl, sym, ap, ◌∙◌, subst, append_assoc, append-nil, arith}
use Rattle.tree_nodes.specs.declared.node.Tree.TheVariants.{Empty}
use Rattle.tree23.specs.declared.trees.KeyedTree.{KeyedTree}
use Rattle.tree23.specs.declared.trees.Trees.{Trees}
use Rattle.tree23.specs.declared.trees.cut.Cut.{Cut}
use Rattle.key_sets.specs.Keys.{StrictlyAscends}
use Rattle.tree_nodes.specs.Nodes.{keys}
use Rattle.tree23.specs.SideBySide.{entry_keys, in_order, in_reverse, AreTrees}
use Rattle.key_sets.specs.Splits.{IsSplit}
use Rattle.tree23.specs.Code.Cuts.{low_keys, whole_keys, IsOpenCut, IsLeft, IsCut}
use Rattle.key_sets.proofs.KeyLemmas.Ascending.{all_map, all_append, all_at, all_below_key, all_above_key, ascends_front, ascends_after}

-- the high side gains a key and the keys after it, in front
stack_more : (k : ℕ) (b : List ℕ) (c : Cut) (high : Trees) → keys c.high.front.tree ≡ []
    → in_reverse high ≡ keys c.high.front.tree ++ k ∷ (b ++ entry_keys (reverse c.high.entries.items)) → in_reverse high ≡ k ∷ (b ++ in_reverse c.high)
stack_more k b c high empty is =
    let rest = entry_keys (reverse c.high.entries.items) in
    is ∙ ap (λ z. z ++ k ∷ (b ++ rest)) empty ∙ ap (λ z. k ∷ (b ++ (z ++ rest))) (sym empty)

-- a key that is not below the cut, and the tree after it, went to the high side
pub left_first : (key k : ℕ) (set a b : List ℕ) (c : Cut) (high : Trees) → set ≡ a ++ k ∷ b → IsOpenCut key c → StrictlyAscends set → AreTrees high → high.front ≡ c.high.front
    → in_reverse high ≡ keys c.high.front.tree ++ k ∷ (b ++ entry_keys (reverse c.high.entries.items)) → key ≤ k
    → IsLeft key (whole_keys set c) a (record { low = c.low; before = c.before; high = high })
left_first key k set a b c high e i up trees front is le =
    let stack = stack_more k b c high i.empty is in
    let up' : StrictlyAscends (a ++ k ∷ b) = subst StrictlyAscends e up in
    record {
      sides = record {
        low_trees = i.low_trees;
        high_trees = trees;
        stands = i.stands;
        empty = ap (λ f. keys f.tree) front ∙ i.empty;
        below = i.below;
        above = rw stack (le, all_append (λ j. key ≤ j) b (in_reverse c.high) (all_map (λ j. k < j) (λ j. key ≤ j) (λ j h. omega arith) b (all_above_key a k b up')) i.above);
      };
      ascends = ascends_front a (k ∷ b) up';
      is = ap (λ z. low_keys c ++ (a ++ z)) stack ∙ ap (λ z. low_keys c ++ z) (sym (append_assoc a (k ∷ b) (in_reverse c.high))) ∙ ap (λ z. whole_keys z c) (sym e);
    }

-- the same for the third child of a node: the cut is not above the key between the first two
pub left_first_of_three : (key j k : ℕ) (set a b d : List ℕ) (c : Cut) (high : Trees) → set ≡ (a ++ j ∷ b) ++ k ∷ d → IsOpenCut key c → StrictlyAscends set → AreTrees high → high.front ≡ c.high.front
    → in_reverse high ≡ keys c.high.front.tree ++ k ∷ (d ++ entry_keys (reverse c.high.entries.items)) → key ≤ j
    → IsLeft key (whole_keys set c) (a ++ j ∷ b) (record { low = c.low; before = c.before; high = high })
left_first_of_three key j k set a b d c high e i up trees front is le =
    let less : j < k = all_at (λ x. x < k) a j b (all_below_key (a ++ j ∷ b) k d (subst StrictlyAscends e up)) in
    left_first key k set (a ++ j ∷ b) d c high e i up trees front is (omega (arith, less, le))

-- keys moved from the front of those to be cut to the end of the low side
pub low_whole : (a : List ℕ) (k : ℕ) (b low : List ℕ) (high : List ℕ) → (low ++ (a ++ k ∷ [])) ++ (b ++ high) ≡ low ++ ((a ++ k ∷ b) ++ high)
low_whole a k b low high =
    append_assoc low (a ++ k ∷ []) (b ++ high)
    ∙ ap (λ z. low ++ z) (append_assoc a (k ∷ []) (b ++ high) ∙ sym (append_assoc a (k ∷ b) high))

-- a tree and the key after it, both below the cut, went to the low side
pub left_second : (key k : ℕ) (set a b : List ℕ) (c new : Cut) → set ≡ a ++ k ∷ b → IsOpenCut key c → StrictlyAscends set → AreTrees new.low → new.high ≡ c.high
    → low_keys new ≡ low_keys c ++ (a ++ k ∷ []) → new.before ≡ Some k → k < key
    → IsLeft key (whole_keys set c) b new
left_second key k set a b c new e i up trees same is before lt =
    let up' : StrictlyAscends (a ++ k ∷ b) = subst StrictlyAscends e up in
    record {
      sides = record {
        low_trees = trees;
        high_trees = rw same i.high_trees;
        stands = rw before tt;
        empty = rw same i.empty;
        below = rw is (all_append (λ j. j < key) (low_keys c) (a ++ k ∷ []) i.below
            (all_append (λ j. j < key) a (k ∷ []) (all_map (λ j. j < k) (λ j. j < key) (λ j h. omega arith) a (all_below_key a k b up')) (lt, tt)));
        above = rw same i.above;
      };
      ascends = ascends_after a k b up';
      is = ap (λ z. z ++ (b ++ in_reverse new.high)) is ∙ ap (λ h. (low_keys c ++ (a ++ k ∷ [])) ++ (b ++ in_reverse h)) same ∙ low_whole a k b (low_keys c) (in_reverse c.high) ∙ ap (λ z. whole_keys z c) (sym e);
    }

-- two steps in sequence
pub left_again : (key : ℕ) (whole set part : List ℕ) (c c' : Cut) → IsLeft key whole set c → IsLeft key (whole_keys set c) part c' → IsLeft key whole part c'
left_again key whole set part c c' l l' = record { sides = l'.sides; ascends = l'.ascends; is = l'.is ∙ l.is }

-- a cut that starts with two empty sides
pub split_alone : (key : ℕ) (set : List ℕ) (low high : Trees) (new : Cut) → low.front.tree ≡ Empty → low.entries.items ≡ [] → high.front.tree ≡ Empty → high.entries.items ≡ []
    → IsCut key (whole_keys set (record { low = low; before = None; high = high })) new → IsSplit key set (in_order new.low) (in_reverse new.high)
split_alone key set low high new front items front' items' cut =
    let none : in_order low ≡ [] = ap (λ t. keys t ++ entry_keys low.entries.items) front ∙ ap entry_keys items in
    let none' : in_reverse high ≡ [] = ap (λ t. keys t ++ entry_keys (reverse high.entries.items)) front' ∙ ap (λ z. entry_keys (reverse z)) items' in
    let all : whole_keys set (record { low = low; before = None; high = high }) ≡ set =
    ap (λ z. (z ++ []) ++ (set ++ in_reverse high)) none ∙ ap (λ z. set ++ z) none' ∙ append-nil set in
    subst (λ z. IsSplit key z (in_order new.low) (in_reverse new.high)) all cut.split

-- a row that is a single tree
no_entries : (entries : List KeyedTree) → length entries ≤ 0 → entry_keys entries ≡ []
no_entries [] none = refl
no_entries (e ∷ entries) none = absurd (omega (arith, none))

pub front_alone : (trees : Trees) → length trees.entries.items ≤ 0 → in_order trees ≡ keys trees.front.tree
front_alone trees none = ap (λ z. keys trees.front.tree ++ z) (no_entries trees.entries.items none) ∙ append-nil (keys trees.front.tree)
