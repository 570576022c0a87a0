-- Removal on one side of a key in a list, and at a place.
use Rattle.std.proofs.Common.{◌≡◌, ℕ, ◌<◌, ◌≤◌, List, [], ◌∷◌, ◌++◌, length, take, drop, Bool, true, false, ◌||◌, ◌==◌, if◌then◌else◌, refl, sym, ap, ◌∙◌, arith}
use Rattle.std.specs.List.{remove}
use Rattle.tree_nodes.specs.declared.node.Tree.{Tree}
use Rattle.key_sets.specs.Keys.{StrictlyAscends, has, without_key}
use Rattle.tree_nodes.specs.Code.Removals.{IsTaken, IsRemoved}
use Rattle.tree_nodes.specs.Nodes.{keys}
use Rattle.key_sets.specs.Splits.{IsSplit}
use Rattle.key_sets.proofs.KeyLemmas.Ascending.{ascends_front, ascends_after}
use Rattle.key_sets.proofs.KeyLemmas.Beside.{without_left, without_right, without_here, has_left, has_right, has_here}
use Rattle.key_sets.proofs.KeyLemmas.Places.{without_at, within_present, key_present}

pub taken_left : (key k : ℕ) (a b a' new : List ℕ) (found : Bool) → StrictlyAscends (a ++ k ∷ b) → key < k → IsTaken key a a' found → new ≡ a' ++ k ∷ b → IsTaken key (a ++ k ∷ b) new found
taken_left key k a b a' new found s lt i is = record {
  is = is ∙ ap (λ z. z ++ k ∷ b) i.is ∙ sym (without_left key k a b lt s);
  answer = i.answer ∙ sym (has_left key k a b lt s);
}

pub taken_right : (key k : ℕ) (a b b' new : List ℕ) (found : Bool) → StrictlyAscends (a ++ k ∷ b) → k < key → IsTaken key b b' found → new ≡ a ++ k ∷ b' → IsTaken key (a ++ k ∷ b) new found
taken_right key k a b b' new found s lt i is = record {
  is = is ∙ ap (λ z. a ++ k ∷ z) i.is ∙ sym (without_right key k a b lt s);
  answer = i.answer ∙ sym (has_right key k a b lt s);
}

pub taken_middle : (key k m : ℕ) (a b c b' new : List ℕ) (found : Bool) → StrictlyAscends (a ++ k ∷ (b ++ m ∷ c)) → k < key → key < m → IsTaken key b b' found → new ≡ a ++ k ∷ (b' ++ m ∷ c) → IsTaken key (a ++ k ∷ (b ++ m ∷ c)) new found
taken_middle key k m a b c b' new found s gt lt i is = taken_right key k a (b ++ m ∷ c) (b' ++ m ∷ c) new found s gt (taken_left key m b c b' (b' ++ m ∷ c) found (ascends_after a k (b ++ m ∷ c) s) lt i refl) is

pub taken_last : (key k m : ℕ) (a b c c' new : List ℕ) (found : Bool) → StrictlyAscends (a ++ k ∷ (b ++ m ∷ c)) → k < key → m < key → IsTaken key c c' found → new ≡ a ++ k ∷ (b ++ m ∷ c') → IsTaken key (a ++ k ∷ (b ++ m ∷ c)) new found
taken_last key k m a b c c' new found s gt gt' i is = taken_right key k a (b ++ m ∷ c) (b ++ m ∷ c') new found s gt (taken_right key m b c c' (b ++ m ∷ c') found (ascends_after a k (b ++ m ∷ c) s) gt' i refl) is

pub taken_here : (key k : ℕ) (a b new : List ℕ) → StrictlyAscends (a ++ k ∷ b) → key ≡ k → new ≡ a ++ b → IsTaken key (a ++ k ∷ b) new true
taken_here key k a b new s e is = record { is = is ∙ sym (without_here key k a b e s); answer = sym (has_here key k a b e) }

pub taken_high : (key k m : ℕ) (a b c new : List ℕ) → StrictlyAscends (a ++ k ∷ (b ++ m ∷ c)) → k < key → key ≡ m → new ≡ a ++ k ∷ (b ++ c) → IsTaken key (a ++ k ∷ (b ++ m ∷ c)) new true
taken_high key k m a b c new s gt e is = taken_right key k a (b ++ m ∷ c) (b ++ c) new true s gt (taken_here key m b c (b ++ c) (ascends_after a k (b ++ m ∷ c) s) e refl) is

pub without_absent : (key : ℕ) (xs : List ℕ) → has key xs ≡ false → without_key key xs ≡ xs
without_absent key [] none = refl
without_absent key (x ∷ xs) none = insertion (key == x) none (without_absent key xs) where
  insertion : (same : Bool) → (same || has key xs) ≡ false → (has key xs ≡ false → without_key key xs ≡ xs) → (if same then xs else x ∷ without_key key xs) ≡ x ∷ xs
  insertion true none rest = absurd (cc)
  insertion false none rest = ap (λ zs. x ∷ zs) (rest none)

-- removing a leaf's key at its place
pub taken_at : (key at : ℕ) (xs : List ℕ) → StrictlyAscends xs → IsSplit key xs (take at xs) (drop at xs) → has key xs ≡ true → remove xs at ≡ without_key key xs
taken_at key at xs up cut there = sym (without_at key at xs up (within_present key at xs cut there) (key_present key at xs up cut there))

length_without : (key : ℕ) (xs : List ℕ) → length (without_key key xs) ≤ length xs
length_without key [] = omega arith
length_without key (x ∷ xs) = insertion (key == x) (length_without key xs) where
  insertion : (same : Bool) → length (without_key key xs) ≤ length xs → length (if same then xs else x ∷ without_key key xs) ≤ length (x ∷ xs)
  insertion true rest = omega arith
  insertion false rest = omega arith

pub fits_without : (key limit : ℕ) (old new : List ℕ) → new ≡ without_key key old → length old ≤ limit → length new ≤ limit
fits_without key limit old new is fits = rw is (omega (arith, fits, length_without key old))

-- the keys and the answer of a removal from a tree
pub removed_keys : (key : ℕ) (old new : Tree) (found : Bool) → IsRemoved key old new found → keys new ≡ without_key key (keys old)
removed_keys key old new found removed = removed.is

pub removed_found : (key : ℕ) (old new : Tree) (found : Bool) → IsRemoved key old new found → found ≡ has key (keys old)
removed_found key old new found removed = removed.answer

pub ruleset sides_ascend = (ascends_front, ascends_after)

pub ruleset removing_at = (within_present, taken_at, without_absent)
