-- Removal on one side of an entry in a list, and at a place.
use Rattle.std.proofs.Common.{◌≡◌, ℕ, ◌<◌, List, [], ◌∷◌, ◌++◌, take, drop, ◌==◌, Bool, true, false, if◌then◌else◌, Some, None, refl, sym, ap, ◌∙◌}
use Rattle.std.specs.List.{remove}
use Rattle.std.specs.declared.option.Option.{Option}
use Rattle.rank_nodes.specs.declared.entry.Entry.{Entry}
use Rattle.rank_nodes.specs.declared.node.Tree.{Tree}
use Rattle.rank_nodes.specs.Maps.{Ascends, value_at, without_entry}
use Rattle.rank_nodes.specs.Nodes.{entries, IsTree, IsMap}
use Rattle.rank_nodes.specs.Code.Removals.{IsTaken}
use Rattle.rank_nodes.specs.Code.Splits.{IsSplit}
use Rattle.rank_nodes.proofs.EntryLemmas.Ascending.{ascends_front, ascends_after}
use Rattle.rank_nodes.proofs.EntryLemmas.Beside.{without_left, without_right, without_here, value_left, value_right, value_here}
use Rattle.rank_nodes.proofs.EntryLemmas.Places.{without_at}
use Rattle.rank_nodes.proofs.TreeLemmas.Trees.{map_without}

pub taken_left : (key : ℕ) (k : Entry) (a b a' new : List Entry) (was : Option ℕ) → Ascends (a ++ k ∷ b) → key < k.key → IsTaken key a a' was → new ≡ a' ++ k ∷ b → IsTaken key (a ++ k ∷ b) new was
taken_left key k a b a' new was up less i is = record {
  is = is ∙ ap (λ z. z ++ k ∷ b) i.is ∙ sym (without_left key k a b less up);
  answer_is = i.answer_is ∙ sym (value_left key k a b less up);
}

pub taken_right : (key : ℕ) (k : Entry) (a b b' new : List Entry) (was : Option ℕ) → Ascends (a ++ k ∷ b) → k.key < key → IsTaken key b b' was → new ≡ a ++ k ∷ b' → IsTaken key (a ++ k ∷ b) new was
taken_right key k a b b' new was up more i is = record {
  is = is ∙ ap (λ z. a ++ k ∷ z) i.is ∙ sym (without_right key k a b more up);
  answer_is = i.answer_is ∙ sym (value_right key k a b more up);
}

pub taken_middle : (key : ℕ) (k m : Entry) (a b c b' new : List Entry) (was : Option ℕ) → Ascends (a ++ k ∷ (b ++ m ∷ c)) → k.key < key → key < m.key → IsTaken key b b' was → new ≡ a ++ k ∷ (b' ++ m ∷ c) → IsTaken key (a ++ k ∷ (b ++ m ∷ c)) new was
taken_middle key k m a b c b' new was up more less i is = taken_right key k a (b ++ m ∷ c) (b' ++ m ∷ c) new was up more (taken_left key m b c b' (b' ++ m ∷ c) was (ascends_after a k (b ++ m ∷ c) up) less i refl) is

pub taken_last : (key : ℕ) (k m : Entry) (a b c c' new : List Entry) (was : Option ℕ) → Ascends (a ++ k ∷ (b ++ m ∷ c)) → k.key < key → m.key < key → IsTaken key c c' was → new ≡ a ++ k ∷ (b ++ m ∷ c') → IsTaken key (a ++ k ∷ (b ++ m ∷ c)) new was
taken_last key k m a b c c' new was up more more' i is = taken_right key k a (b ++ m ∷ c) (b ++ m ∷ c') new was up more (taken_right key m b c c' (b ++ m ∷ c') was (ascends_after a k (b ++ m ∷ c) up) more' i refl) is

pub taken_here : (key : ℕ) (k : Entry) (a b new : List Entry) → Ascends (a ++ k ∷ b) → key ≡ k.key → new ≡ a ++ b → IsTaken key (a ++ k ∷ b) new (Some k.val)
taken_here key k a b new up e is = record { is = is ∙ sym (without_here key k a b e up); answer_is = sym (value_here key k a b e up) }

pub taken_high : (key : ℕ) (k m : Entry) (a b c new : List Entry) → Ascends (a ++ k ∷ (b ++ m ∷ c)) → k.key < key → key ≡ m.key → new ≡ a ++ k ∷ (b ++ c) → IsTaken key (a ++ k ∷ (b ++ m ∷ c)) new (Some m.val)
taken_high key k m a b c new up more e is = taken_right key k a (b ++ m ∷ c) (b ++ c) new (Some m.val) up more (taken_here key m b c (b ++ c) (ascends_after a k (b ++ m ∷ c) up) e refl) is

pub without_absent : (key : ℕ) (xs : List Entry) → value_at key xs ≡ None → without_entry key xs ≡ xs
without_absent key [] none = refl
without_absent key (x ∷ xs) none = step (key == x.key) none (without_absent key xs) where
  step : (same : Bool) → (if same then Some x.val else value_at key xs) ≡ None → (value_at key xs ≡ None → without_entry key xs ≡ xs) → (if same then xs else x ∷ without_entry key xs) ≡ x ∷ xs
  step true none rest = absurd (cc)
  step false none rest = ap (λ zs. x ∷ zs) (rest none)

-- removing a key from a leaf at its place
pub taken_at : (key at was : ℕ) (xs new : List Entry) → Ascends xs → IsSplit key xs (take at xs) (drop at xs) → value_at key xs ≡ Some was → new ≡ remove xs at → IsTaken key xs new (Some was)
taken_at key at was xs new up cut there is = record { is = is ∙ sym (without_at key at was xs up cut there); answer_is = sym there }

pub taken_none : (key : ℕ) (xs new : List Entry) → value_at key xs ≡ None → new ≡ xs → IsTaken key xs new None
taken_none key xs new none is = record { is = is ∙ sym (without_absent key xs none); answer_is = sym none }

pub ruleset sides_ascend = (ascends_front, ascends_after)

-- a map stays one after a removal
pub map_taken : (key : ℕ) (old new : Tree) (was : Option ℕ) → IsMap old → IsTree new → IsTaken key (entries old) (entries new) was → IsMap new
map_taken key old new was s tree i = map_without key old new s tree i.is
