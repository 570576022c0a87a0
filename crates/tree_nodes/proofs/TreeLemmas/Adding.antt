-- Insertion on one side of a key in a list, and at a place.
use Rattle.std.proofs.Common.{◌≡◌, ℕ, ◌<◌, List, ◌∷◌, ◌++◌, take, drop, false, sym, ap, ◌∙◌}
use Rattle.std.specs.List.{insert}
use Rattle.key_sets.specs.Keys.{StrictlyAscends, has}
use Rattle.tree_nodes.specs.Code.Insertions.{IsAdded, IsFound}
use Rattle.key_sets.specs.Splits.{IsSplit}
use Rattle.key_sets.proofs.KeyLemmas.Places.{with_at}
use Rattle.key_sets.proofs.KeyLemmas.Beside.{with_left, with_right, has_left, has_right}

pub added_left : (key k : ℕ) (a b a' : List ℕ) → StrictlyAscends (a ++ k ∷ b) → key < k → IsAdded key a a' → IsAdded key (a ++ k ∷ b) (a' ++ k ∷ b)
added_left key k a b a' s lt i = record {
  is = ap (λ z. z ++ k ∷ b) i.is ∙ sym (with_left key k a b lt);
  absent = has_left key k a b lt s ∙ i.absent;
}

pub added_right : (key k : ℕ) (a b b' : List ℕ) → StrictlyAscends (a ++ k ∷ b) → k < key → IsAdded key b b' → IsAdded key (a ++ k ∷ b) (a ++ k ∷ b')
added_right key k a b b' s lt i = record {
  is = ap (λ z. a ++ k ∷ z) i.is ∙ sym (with_right key k a b lt s);
  absent = has_right key k a b lt s ∙ i.absent;
}

pub found_left : (key k : ℕ) (a b a' : List ℕ) → StrictlyAscends (a ++ k ∷ b) → key < k → IsFound key a a' → IsFound key (a ++ k ∷ b) (a' ++ k ∷ b)
found_left key k a b a' s lt i = record {
  same = ap (λ z. z ++ k ∷ b) i.same;
  present = has_left key k a b lt s ∙ i.present;
}

pub found_right : (key k : ℕ) (a b b' : List ℕ) → StrictlyAscends (a ++ k ∷ b) → k < key → IsFound key b b' → IsFound key (a ++ k ∷ b) (a ++ k ∷ b')
found_right key k a b b' s lt i = record {
  same = ap (λ z. a ++ k ∷ z) i.same;
  present = has_right key k a b lt s ∙ i.present;
}

-- inserting an absent key at its place adds it
pub added_at : (key at : ℕ) (xs new : List ℕ) → IsSplit key xs (take at xs) (drop at xs) → has key xs ≡ false → new ≡ insert xs at key → IsAdded key xs new
added_at key at xs new cut none is = record { is = is ∙ sym (with_at key at xs cut none); absent = none }
