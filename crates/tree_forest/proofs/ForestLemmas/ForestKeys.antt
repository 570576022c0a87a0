-- The place of a key in a row of trees: an operation on the row is one on the tree whose range has the key.
use Rattle.std.proofs.Common.{◌≡◌, ℕ, ◌+◌, ◌-◌, ◌<◌, ◌≤◌, Bool, true, false, List, [], ◌∷◌, ◌++◌, length, take, drop, get_or, set, Option, Some, None, sym, ap, ◌∙◌, subst, append_assoc, append-nil, length-append, add-one, arith}
use Rattle.std.specs.List.{AllByRecursion}
use Rattle.std.proofs.lemmas.List.{take-append-drop, take_more, drop_more, set_split, take-set, drop-set-lt}
use Rattle.tree23.specs.declared.trees.KeyedTree.{KeyedTree}
use Rattle.key_sets.specs.Keys.{StrictlyAscends, has, without_key, least_above}
use Rattle.tree_nodes.specs.Nodes.{keys, IsRooted}
use Rattle.tree23.specs.SideBySide.{entry_keys, AreKeyedTrees}
use Rattle.tree_forest.specs.Code.Places.{or_first_key, IsBelowFirst, IsPlace}
use Rattle.tree_nodes.specs.Code.Insertions.{IsInserted}
use Rattle.tree_nodes.proofs.TreeLemmas.Adding.{added_left, added_right, found_left, found_right}
use Rattle.key_sets.proofs.KeyLemmas.Ascending.{ascends_after}
use Rattle.key_sets.proofs.KeyLemmas.Beside.{has_left, has_right, has_here, without_left, without_right, without_here, least_left, least_here, least_right}
use Rattle.tree23.proofs.SideBySideLemmas.KeyedTrees.{entry_keys_append, entries_back, height_within}

-- operations with a key below the first entry act on the keys `xs` before the entries alone
pub has_in_front : (key : ℕ) (xs : List ℕ) (es : List KeyedTree) → IsBelowFirst key es → StrictlyAscends (xs ++ entry_keys es) → has key (xs ++ entry_keys es) ≡ has key xs
has_in_front key xs [] below up = ap (has key) (append-nil xs)
has_in_front key xs (e ∷ es) below up = has_left key e.key xs (keys e.rooted.tree ++ entry_keys es) below up

pub inserted_in_front : (key : ℕ) (xs new : List ℕ) (es : List KeyedTree) (added : Bool) → IsBelowFirst key es → StrictlyAscends (xs ++ entry_keys es)
    → IsInserted key xs new added → IsInserted key (xs ++ entry_keys es) (new ++ entry_keys es) added
inserted_in_front key xs new [] added below up i = rw (append-nil xs, append-nil new) i
inserted_in_front key xs new (e ∷ es) true below up i = added_left key e.key xs (keys e.rooted.tree ++ entry_keys es) new up below i
inserted_in_front key xs new (e ∷ es) false below up i = found_left key e.key xs (keys e.rooted.tree ++ entry_keys es) new up below i

pub without_in_front : (key : ℕ) (xs : List ℕ) (es : List KeyedTree) → IsBelowFirst key es → StrictlyAscends (xs ++ entry_keys es) → without_key key (xs ++ entry_keys es) ≡ without_key key xs ++ entry_keys es
without_in_front key xs [] below up = ap (without_key key) (append-nil xs) ∙ sym (append-nil (without_key key xs))
without_in_front key xs (e ∷ es) below up = without_left key e.key xs (keys e.rooted.tree ++ entry_keys es) below up

pub least_in_front : (key : ℕ) (answer : Option ℕ) (xs : List ℕ) (es : List KeyedTree) → IsBelowFirst key es → answer ≡ least_above key xs → or_first_key answer es ≡ least_above key (xs ++ entry_keys es)
least_in_front key (Some found) xs [] below is = rw (append-nil xs) is
least_in_front key None xs [] below is = rw (append-nil xs) is
least_in_front key (Some found) xs (e ∷ es) below is = sym (least_left key e.key xs (keys e.rooted.tree ++ entry_keys es) found (sym is))
least_in_front key None xs (e ∷ es) below is = sym (least_here key e.key xs (keys e.rooted.tree ++ entry_keys es) below (sym is))

-- the keys of a row around the entry `e`, whose key or tree is the place of `key`
pub record IsInEntry (key : ℕ) (forest low : List ℕ) (e : KeyedTree) (high : List KeyedTree) : Type 0 where
  pub is : forest ≡ low ++ e.key ∷ (keys e.rooted.tree ++ entry_keys high)
  pub ascends : StrictlyAscends (low ++ e.key ∷ (keys e.rooted.tree ++ entry_keys high))
  pub not_above : e.key ≤ key
  pub below : IsBelowFirst key high

each_back : (P : KeyedTree → Type 0) (xs ys : List KeyedTree) → AllByRecursion P (xs ++ ys) → AllByRecursion P ys
each_back P [] ys each = each
each_back P (x ∷ xs) ys each = each_back P xs ys each.1

-- entries around one of them
entries_around : (es : List KeyedTree) (i : ℕ) (e : KeyedTree) → i < length es → e ≡ get_or es i e → es ≡ take i es ++ e ∷ drop (i + 1) es
entries_around es i e l is = sym (take-append-drop i es) ∙ ap (λ z. take i es ++ z) (drop_more es i e l) ∙ ap (λ z. take i es ++ z ∷ drop (i + 1) es) (sym is)

row_around : (xs : List ℕ) (es low high : List KeyedTree) (e : KeyedTree) → es ≡ low ++ e ∷ high → xs ++ entry_keys es ≡ (xs ++ entry_keys low) ++ e.key ∷ (keys e.rooted.tree ++ entry_keys high)
row_around xs es low high e is =
    ap (λ z. xs ++ entry_keys z) is ∙ ap (λ z. xs ++ z) (entry_keys_append low (e ∷ high)) ∙ sym (append_assoc xs (entry_keys low) (e.key ∷ (keys e.rooted.tree ++ entry_keys high)))

pub part_at : (es : List KeyedTree) (i : ℕ) (e : KeyedTree) → AreKeyedTrees es → i < length es → e ≡ get_or es i e → IsRooted e.rooted
part_at es i e each l is = (entries_back (take i es) (e ∷ drop (i + 1) es) (subst AreKeyedTrees (entries_around es i e l is) each)).0

-- subtracting 1 from a positive number, and adding it again
before : (at : ℕ) → (at ≡ 0 → ⊥) → (at - 1) + 1 ≡ at
before at some = omega (arith, some)

pub in_entry : {key at : ℕ} {es : List KeyedTree} {e : KeyedTree} (xs : List ℕ) → IsPlace key es at → (at ≡ 0 → ⊥) → e ≡ get_or es (at - 1) e → StrictlyAscends (xs ++ entry_keys es)
    → IsInEntry key (xs ++ entry_keys es) (xs ++ entry_keys (take (at - 1) es)) e (drop at es)
in_entry {key} {at} {es} {e} xs place some is up =
    let l : at - 1 < length es = omega (arith, some, place.within) in
    let around = rw (before at some) at (entries_around es (at - 1) e l is) in
    let forest = row_around xs es (take (at - 1) es) (drop at es) e around in
    let upto = rw (before at some) at (take_more es (at - 1) e l) in
    let last = ap (λ z. take (at - 1) es ++ z ∷ []) (sym is) in
    let here = each_back (λ z. z.key ≤ key) (take (at - 1) es) (e ∷ []) (subst (AllByRecursion (λ z. z.key ≤ key)) (upto ∙ last) place.not_above) in
    record {
      is = forest;
      ascends = subst StrictlyAscends forest up;
      not_above = here.0;
      below = place.below;
    }

pub ascends_in_entry : {key : ℕ} {forest low : List ℕ} {e : KeyedTree} {high : List KeyedTree} → IsInEntry key forest low e high → StrictlyAscends (keys e.rooted.tree ++ entry_keys high)
ascends_in_entry {key} {forest} {low} {e} {high} p = ascends_after low e.key (keys e.rooted.tree ++ entry_keys high) p.ascends

pub has_in_entry : {key : ℕ} {forest low : List ℕ} {e : KeyedTree} {high : List KeyedTree} → IsInEntry key forest low e high → e.key < key → has key forest ≡ has key (keys e.rooted.tree)
has_in_entry {key} {forest} {low} {e} {high} p less =
    ap (has key) p.is ∙ has_right key e.key low (keys e.rooted.tree ++ entry_keys high) less p.ascends ∙ has_in_front key (keys e.rooted.tree) high p.below (ascends_in_entry p)

pub has_entry : {key : ℕ} {forest low : List ℕ} {e : KeyedTree} {high : List KeyedTree} → IsInEntry key forest low e high → e.key ≡ key → has key forest ≡ true
has_entry {key} {forest} {low} {e} {high} p same = ap (has key) p.is ∙ has_here key e.key low (keys e.rooted.tree ++ entry_keys high) (sym same)

pub least_in_entry : {key : ℕ} {forest low : List ℕ} {e : KeyedTree} {high : List KeyedTree} → IsInEntry key forest low e high → least_above key forest ≡ least_above key (keys e.rooted.tree ++ entry_keys high)
least_in_entry {key} {forest} {low} {e} {high} p = ap (least_above key) p.is ∙ least_right key e.key low (keys e.rooted.tree ++ entry_keys high) p.not_above p.ascends

pub inserted_in_entry : {key : ℕ} {forest low : List ℕ} {e : KeyedTree} {high : List KeyedTree} (new : List ℕ) (added : Bool) → IsInEntry key forest low e high → e.key < key
    → IsInserted key (keys e.rooted.tree) new added → IsInserted key forest (low ++ e.key ∷ (new ++ entry_keys high)) added
inserted_in_entry {key} {forest} {low} {e} {high} new true p less i =
    rw p.is (added_right key e.key low (keys e.rooted.tree ++ entry_keys high) (new ++ entry_keys high) p.ascends less (inserted_in_front key (keys e.rooted.tree) new high true p.below (ascends_in_entry p) i))
inserted_in_entry {key} {forest} {low} {e} {high} new false p less i =
    rw p.is (found_right key e.key low (keys e.rooted.tree ++ entry_keys high) (new ++ entry_keys high) p.ascends less (inserted_in_front key (keys e.rooted.tree) new high false p.below (ascends_in_entry p) i))

pub without_in_entry : {key : ℕ} {forest low : List ℕ} {e : KeyedTree} {high : List KeyedTree} → IsInEntry key forest low e high → e.key < key
    → without_key key forest ≡ low ++ e.key ∷ (without_key key (keys e.rooted.tree) ++ entry_keys high)
without_in_entry {key} {forest} {low} {e} {high} p less =
    ap (without_key key) p.is ∙ without_right key e.key low (keys e.rooted.tree ++ entry_keys high) less p.ascends
    ∙ ap (λ z. low ++ e.key ∷ z) (without_in_front key (keys e.rooted.tree) high p.below (ascends_in_entry p))

pub without_entry : {key : ℕ} {forest low : List ℕ} {e : KeyedTree} {high : List KeyedTree} → IsInEntry key forest low e high → e.key ≡ key → without_key key forest ≡ low ++ (keys e.rooted.tree ++ entry_keys high)
without_entry {key} {forest} {low} {e} {high} p same = ap (without_key key) p.is ∙ without_here key e.key low (keys e.rooted.tree ++ entry_keys high) (sym same) p.ascends

-- the keys of a row after one entry is replaced
pub trees_set : {key at : ℕ} (xs : List ℕ) (es : List KeyedTree) (new : KeyedTree) → IsPlace key es at → (at ≡ 0 → ⊥)
    → xs ++ entry_keys (set es (at - 1) new) ≡ (xs ++ entry_keys (take (at - 1) es)) ++ new.key ∷ (keys new.rooted.tree ++ entry_keys (drop at es))
trees_set {key} {at} xs es new place some =
    let l : at - 1 < length es = omega (arith, some, place.within) in
    let set_is = rw (sym (add-one (at - 1)) ∙ before at some) at (set_split es (at - 1) new l) in
    row_around xs (set es (at - 1) new) (take (at - 1) es) (drop at es) new set_is

-- the keys of a row after that entry is removed
pub trees_but : (at : ℕ) (xs : List ℕ) (es left : List KeyedTree) (new : KeyedTree) → (at ≡ 0 → ⊥) → left ≡ take (at - 1) (set es (at - 1) new) ++ drop (at - 1 + 1) (set es (at - 1) new)
    → xs ++ entry_keys left ≡ (xs ++ entry_keys (take (at - 1) es)) ++ entry_keys (drop at es)
trees_but at xs es left new some is =
    let others = rw (before at some) at (rw (take-set es (at - 1) new, drop-set-lt (at - 1 + 1) es (at - 1) new (omega arith)) at is) in
    ap (λ z. xs ++ entry_keys z) others ∙ ap (λ z. xs ++ z) (entry_keys_append (take (at - 1) es) (drop at es)) ∙ sym (append_assoc xs (entry_keys (take (at - 1) es)) (entry_keys (drop at es)))

-- the height of an entry's tree is at most the number of keys in the row
pub entry_fits : {key : ℕ} {forest low : List ℕ} {e : KeyedTree} {high : List KeyedTree} → IsInEntry key forest low e high → IsRooted e.rooted → e.rooted.height ≤ length forest
entry_fits {key} {forest} {low} {e} {high} p rooted =
    omega (arith, height_within e.rooted rooted, ap length p.is, length-append low (e.key ∷ (keys e.rooted.tree ++ entry_keys high)), length-append (keys e.rooted.tree) (entry_keys high))
