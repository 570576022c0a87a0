-- The entries and the answer of an insertion.
use Rattle.std.proofs.Common.{◌≡◌, ℕ, ◌+◌, ◌<◌, ◌≤◌, ◌^◌, List, ◌∷◌, ◌++◌, take, drop, set, Some, None, refl, ap, sym, ◌∙◌, arith}
use Rattle.std.specs.List.{insert}
use Rattle.std.specs.declared.option.Option.{Option}
use Rattle.rank_nodes.specs.declared.entry.Entry.{Entry}
use Rattle.rank_nodes.specs.declared.node.Tree.{Tree}
use Rattle.rank_nodes.specs.declared.node.Split.{Split}
use Rattle.rank_nodes.specs.declared.node.Split.TheVariants.{Fits, Splits}
use Rattle.rank_nodes.specs.declared.insert.Outcome.{Outcome}
use Rattle.rank_nodes.specs.declared.insert.Outcome.TheVariants.{Replaced, Added}
use Rattle.rank_nodes.specs.Maps.{Ascends, value_at}
use Rattle.rank_nodes.specs.Nodes.{entries, depth, count, IsTree, IsMap, IsTreeWithSplit}
use Rattle.rank_nodes.specs.Code.Insertions.{IsPut, IsOutcome, added_by, OnSplits, IsSpent}
use Rattle.rank_nodes.specs.Code.Splits.{IsSplit}
use Rattle.rank_nodes.proofs.EntryLemmas.Ascending.{ascends_front, ascends_after}
use Rattle.rank_nodes.proofs.EntryLemmas.Beside.{value_left, value_right, value_here, with_left, with_right, with_here}
use Rattle.rank_nodes.proofs.EntryLemmas.Places.{with_at, with_set}
use Rattle.rank_nodes.proofs.TreeLemmas.Trees.{map_with}

-- setting a value on one side of an entry
put_left : (key val : ℕ) (k : Entry) (a b a' : List Entry) (answer : Option ℕ) → Ascends (a ++ k ∷ b) → key < k.key → IsPut key val a a' answer → IsPut key val (a ++ k ∷ b) (a' ++ k ∷ b) answer
put_left key val k a b a' answer up less i = record {
  is = ap (λ z. z ++ k ∷ b) i.is ∙ sym (with_left key val k a b less up);
  answer_is = i.answer_is ∙ sym (value_left key k a b less up);
}

put_right : (key val : ℕ) (k : Entry) (a b b' : List Entry) (answer : Option ℕ) → Ascends (a ++ k ∷ b) → k.key < key → IsPut key val b b' answer → IsPut key val (a ++ k ∷ b) (a ++ k ∷ b') answer
put_right key val k a b b' answer up more i = record {
  is = ap (λ z. a ++ k ∷ z) i.is ∙ sym (with_right key val k a b more up);
  answer_is = i.answer_is ∙ sym (value_right key k a b more up);
}

-- setting the value of the entry itself
pub put_here : (key val : ℕ) (k : Entry) (a b new : List Entry) → Ascends (a ++ k ∷ b) → key ≡ k.key → new ≡ a ++ record { key = key; val = val } ∷ b → IsPut key val (a ++ k ∷ b) new (Some k.val)
put_here key val k a b new up is new_is = record {
  is = new_is ∙ sym (with_here key val k a b is up);
  answer_is = sym (value_here key k a b is up);
}

pub put_high : (key val : ℕ) (k m : Entry) (a b c new : List Entry) → Ascends (a ++ k ∷ (b ++ m ∷ c)) → k.key < key → key ≡ m.key → new ≡ a ++ k ∷ (b ++ record { key = key; val = val } ∷ c) → IsPut key val (a ++ k ∷ (b ++ m ∷ c)) new (Some m.val)
put_high key val k m a b c new up more is new_is =
    rw new_is (put_right key val k a (b ++ m ∷ c) (b ++ record { key = key; val = val } ∷ c) (Some m.val) up more
    (put_here key val m b c (b ++ record { key = key; val = val } ∷ c) (ascends_after a k (b ++ m ∷ c) up) is refl))

-- setting a value in a leaf, at the key's place
pub put_set : (key val at was : ℕ) (xs new : List Entry) → Ascends xs → IsSplit key xs (take at xs) (drop at xs) → value_at key xs ≡ Some was → new ≡ set xs at (record { key = key; val = val }) → IsPut key val xs new (Some was)
put_set key val at was xs new up cut there new_is = record { is = new_is ∙ sym (with_set key val at was xs up cut there); answer_is = sym there }

pub put_insert : (key val at : ℕ) (xs new : List Entry) → IsSplit key xs (take at xs) (drop at xs) → value_at key xs ≡ None → new ≡ insert xs at (record { key = key; val = val }) → IsPut key val xs new None
put_insert key val at xs new cut none new_is = record { is = new_is ∙ sym (with_at key val at xs cut none); answer_is = sym none }

-- the outcome of an insertion on one side of an entry is the outcome on the whole list
pub outcome_left : (key val : ℕ) (k : Entry) (a b a' new : List Entry) (outcome : Outcome) → Ascends (a ++ k ∷ b) → key < k.key → IsOutcome key val a a' outcome → new ≡ a' ++ k ∷ b → IsOutcome key val (a ++ k ∷ b) new outcome
outcome_left key val k a b a' new (Replaced was) up less i is = rw is (put_left key val k a b a' (Some was) up less i)
outcome_left key val k a b a' new Added up less i is = rw is (put_left key val k a b a' None up less i)
outcome_left key val k a b a' new _ up less i is = is ∙ ap (λ z. z ++ k ∷ b) i

pub outcome_right : (key val : ℕ) (k : Entry) (a b b' new : List Entry) (outcome : Outcome) → Ascends (a ++ k ∷ b) → k.key < key → IsOutcome key val b b' outcome → new ≡ a ++ k ∷ b' → IsOutcome key val (a ++ k ∷ b) new outcome
outcome_right key val k a b b' new (Replaced was) up more i is = rw is (put_right key val k a b b' (Some was) up more i)
outcome_right key val k a b b' new Added up more i is = rw is (put_right key val k a b b' None up more i)
outcome_right key val k a b b' new _ up more i is = is ∙ ap (λ z. a ++ k ∷ z) i

pub outcome_middle : (key val : ℕ) (k m : Entry) (a b c b' new : List Entry) (outcome : Outcome) → Ascends (a ++ k ∷ (b ++ m ∷ c)) → k.key < key → key < m.key → IsOutcome key val b b' outcome → new ≡ a ++ k ∷ (b' ++ m ∷ c) → IsOutcome key val (a ++ k ∷ (b ++ m ∷ c)) new outcome
outcome_middle key val k m a b c b' new outcome up more less i is =
    outcome_right key val k a (b ++ m ∷ c) (b' ++ m ∷ c) new outcome up more (outcome_left key val m b c b' (b' ++ m ∷ c) outcome (ascends_after a k (b ++ m ∷ c) up) less i refl) is

pub outcome_last : (key val : ℕ) (k m : Entry) (a b c c' new : List Entry) (outcome : Outcome) → Ascends (a ++ k ∷ (b ++ m ∷ c)) → k.key < key → m.key < key → IsOutcome key val c c' outcome → new ≡ a ++ k ∷ (b ++ m ∷ c') → IsOutcome key val (a ++ k ∷ (b ++ m ∷ c)) new outcome
outcome_last key val k m a b c c' new outcome up more more' i is =
    outcome_right key val k a (b ++ m ∷ c) (b ++ m ∷ c') new outcome up more (outcome_right key val m b c c' (b ++ m ∷ c') outcome (ascends_after a k (b ++ m ∷ c) up) more' i refl) is

-- at most one entry is added
pub added_few : (outcome : Outcome) → added_by outcome ≤ 1
added_few (Replaced was) = omega arith
added_few _ = omega arith

-- enough boxes for the nodes above a split
pub boxes_below : (split : Split) (above count : ℕ) → OnSplits split (above + 1 < count) → OnSplits split (0 < count)
boxes_below Fits above count enough = tt
boxes_below (Splits k right) above count enough = omega (arith, enough)

pub boxes_left : (split result : Split) (above old new : ℕ) → OnSplits split (above + 1 < old) → IsSpent split result old new → OnSplits result (above < new)
boxes_left split Fits above old new enough spent = tt
boxes_left Fits (Splits k right) above old new enough spent = absurd spent
boxes_left (Splits j part) (Splits k right) above old new enough spent = omega (arith, enough, spent)

-- the depth of a tree, whether or not a part was split off
pub depth_with_split : (d : ℕ) (tree : Tree) (split : Split) → IsTreeWithSplit d tree split → depth tree ≡ d
depth_with_split d tree Fits t = t.1
depth_with_split d tree (Splits k right) t = t.2

pub ruleset growing = (boxes_below, boxes_left, depth_with_split, ascends_front, ascends_after, added_few)

-- a map stays one after an insertion
pub map_put : (key val : ℕ) (old new : Tree) (answer : Option ℕ) → IsMap old → IsTree new → IsPut key val (entries old) (entries new) answer → key < 2 ^ 32 → IsMap new
map_put key val old new answer s tree i small = map_with key val old new s tree i.is small
