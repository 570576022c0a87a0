-- The keys and the answer of an insertion.
use Rattle.std.proofs.Common.{◌≡◌, ℕ, ◌+◌, ◌<◌, ◌^◌, List, ◌∷◌, ◌++◌, Bool, true, false, not, refl, ap, sym, ◌∙◌, arith}
use Rattle.tree_nodes.specs.declared.node.Tree.{Tree}
use Rattle.key_sets.specs.Keys.{StrictlyAscends, has, with_key}
use Rattle.tree_nodes.specs.Nodes.{keys, depth, IsTree, IsSet, IsTreeWithSplit}
use Rattle.tree_nodes.specs.Code.Insertions.{IsInserted, IsOutcome, OnSplits, IsSpent}
use Rattle.tree_nodes.specs.declared.node.Split.{Split}
use Rattle.tree_nodes.specs.declared.node.Split.TheVariants.{Fits, Splits}
use Rattle.tree_nodes.specs.declared.insert.Outcome.{Outcome}
use Rattle.tree_nodes.specs.declared.insert.Outcome.TheVariants.{Found, Added}
use Rattle.key_sets.proofs.KeyLemmas.Ascending.{ascends_front, ascends_after}
use Rattle.tree_nodes.proofs.TreeLemmas.Adding.{added_left, added_right, found_left, found_right}
use Rattle.key_sets.proofs.KeyLemmas.Beside.{with_present}
use Rattle.tree_nodes.proofs.TreeLemmas.Trees.{set_with}

pub inserted_keys : (key : ℕ) (old new : List ℕ) (added : Bool) → StrictlyAscends old → IsInserted key old new added → new ≡ with_key key old
inserted_keys key old new true up i = i.is
inserted_keys key old new false up i = i.same ∙ sym (with_present key old up i.present)

pub inserted_answer : (key : ℕ) (old new : List ℕ) (added : Bool) → IsInserted key old new added → added ≡ not (has key old)
inserted_answer key old new true i = sym (ap not i.absent)
inserted_answer key old new false i = sym (ap not i.present)

pub set_inserted : (key : ℕ) (old new : Tree) (added : Bool) → IsSet old → IsTree new → IsInserted key (keys old) (keys new) added → key < 2 ^ 32 → IsSet new
set_inserted key old new added s tree i small = set_with key old new s tree (inserted_keys key (keys old) (keys new) added s.ascends i) small

-- the outcome of an insertion on one side of a key is the outcome on the whole list
pub outcome_left : (key k : ℕ) (a b a' new : List ℕ) (outcome : Outcome) → StrictlyAscends (a ++ k ∷ b) → key < k → IsOutcome key a a' outcome → new ≡ a' ++ k ∷ b → IsOutcome key (a ++ k ∷ b) new outcome
outcome_left key k a b a' new Found s lt i is = rw is (found_left key k a b a' s lt i)
outcome_left key k a b a' new Added s lt i is = rw is (added_left key k a b a' s lt i)
outcome_left key k a b a' new _ s lt i is = is ∙ ap (λ z. z ++ k ∷ b) i

pub outcome_right : (key k : ℕ) (a b b' new : List ℕ) (outcome : Outcome) → StrictlyAscends (a ++ k ∷ b) → k < key → IsOutcome key b b' outcome → new ≡ a ++ k ∷ b' → IsOutcome key (a ++ k ∷ b) new outcome
outcome_right key k a b b' new Found s gt i is = rw is (found_right key k a b b' s gt i)
outcome_right key k a b b' new Added s gt i is = rw is (added_right key k a b b' s gt i)
outcome_right key k a b b' new _ s gt i is = is ∙ ap (λ z. a ++ k ∷ z) i

pub outcome_middle : (key k m : ℕ) (a b c b' new : List ℕ) (outcome : Outcome) → StrictlyAscends (a ++ k ∷ (b ++ m ∷ c)) → k < key → key < m → IsOutcome key b b' outcome → new ≡ a ++ k ∷ (b' ++ m ∷ c) → IsOutcome key (a ++ k ∷ (b ++ m ∷ c)) new outcome
outcome_middle key k m a b c b' new outcome s gt lt i is =
    outcome_right key k a (b ++ m ∷ c) (b' ++ m ∷ c) new outcome s gt (outcome_left key m b c b' (b' ++ m ∷ c) outcome (ascends_after a k (b ++ m ∷ c) s) lt i refl) is

pub outcome_last : (key k m : ℕ) (a b c c' new : List ℕ) (outcome : Outcome) → StrictlyAscends (a ++ k ∷ (b ++ m ∷ c)) → k < key → m < key → IsOutcome key c c' outcome → new ≡ a ++ k ∷ (b ++ m ∷ c') → IsOutcome key (a ++ k ∷ (b ++ m ∷ c)) new outcome
outcome_last key k m a b c c' new outcome s gt gt' i is =
    outcome_right key k a (b ++ m ∷ c) (b ++ m ∷ c') new outcome s gt (outcome_right key m b c c' (b ++ m ∷ c') outcome (ascends_after a k (b ++ m ∷ c) s) gt' i refl) is

-- enough boxes for the nodes above a split
pub boxes_below : (split : Split) (above count : ℕ) → OnSplits split (above + 1 < count) → OnSplits split (0 < count)
boxes_below Fits above count enough = tt
boxes_below (Splits k right) above count enough = omega (arith, enough)

pub boxes_left : (split result : Split) (above old new : ℕ) → OnSplits split (above + 1 < old) → IsSpent split result old new → OnSplits result (above < new)
boxes_left split Fits above old new enough spent = tt
boxes_left Fits (Splits k right) above old new enough spent = absurd spent
boxes_left (Splits j part) (Splits k right) above old new enough spent = omega (arith, enough, spent)

-- the depth of a tree, whether or not a part was split off
pub depth_with_split : (d : ℕ) (tree : Tree) (split : Split) → IsTreeWithSplit d tree split → depth tree ≡ d
depth_with_split d tree Fits t = t.1
depth_with_split d tree (Splits k right) t = t.2

pub ruleset growing = (boxes_below, boxes_left, depth_with_split, ascends_front, ascends_after)
