-- Strictly ascending lists of keys of 32 bits.
use Rattle.std.proofs.Common.{◌≡◌, ℕ, ◌<◌, ◌≤◌, ◌^◌, Bool, List, ◌++◌, length, subst, arith}
use Rattle.key_sets.specs.Keys.{StrictlyAscends, with_key, without_key, AllBelow}
use Rattle.tree_forest.specs.Forests.{IsKeySet}
use Rattle.key_sets.specs.Splits.{IsSplit}
use Rattle.tree_nodes.specs.Code.Insertions.{IsInserted}
use Rattle.key_sets.proofs.KeyLemmas.Ascending.{all_map, all_append, all_front, all_back, all_with, all_without, ascends_front, ascends_back, ascends_both, ascends_with, ascends_without, length_in_range}
use Rattle.tree_nodes.proofs.TreeLemmas.Inserting.{inserted_keys}

-- an equal list
pub key_set_as : (old new : List ℕ) → IsKeySet old → new ≡ old → IsKeySet new
key_set_as old new s is = record { ascends = rw is s.ascends; small = rw is s.small }

-- with one key added
pub key_set_with : (key : ℕ) (old new : List ℕ) → IsKeySet old → new ≡ with_key key old → key < 2 ^ 32 → IsKeySet new
key_set_with key old new s is small = record {
  ascends = rw is (ascends_with key old s.ascends);
  small = rw is (all_with (λ k. k < 2 ^ 32) key old small s.small);
}

-- with one key removed
pub key_set_without : (key : ℕ) (old new : List ℕ) → IsKeySet old → new ≡ without_key key old → IsKeySet new
key_set_without key old new s is = record {
  ascends = rw is (ascends_without key old s.ascends);
  small = rw is (all_without (λ k. k < 2 ^ 32) key old s.small);
}

-- the parts of a concatenation
pub key_set_front : (low high : List ℕ) → IsKeySet (low ++ high) → IsKeySet low
key_set_front low high s = record { ascends = ascends_front low high s.ascends; small = all_front (λ k. k < 2 ^ 32) low high s.small }

pub key_set_back : (low high : List ℕ) → IsKeySet (low ++ high) → IsKeySet high
key_set_back low high s = record { ascends = ascends_back low high s.ascends; small = all_back (λ k. k < 2 ^ 32) low high s.small }

-- the sides of a cut
pub key_set_low : (key : ℕ) (whole low high : List ℕ) → IsKeySet whole → IsSplit key whole low high → IsKeySet low
key_set_low key whole low high s cut = key_set_front low high (subst IsKeySet cut.is s)

pub key_set_high : (key : ℕ) (whole low high : List ℕ) → IsKeySet whole → IsSplit key whole low high → IsKeySet high
key_set_high key whole low high s cut = key_set_back low high (subst IsKeySet cut.is s)

-- the concatenation of two, where one is below the other
pub key_set_both : (low high both : List ℕ) → IsKeySet low → IsKeySet high → both ≡ low ++ high → AllBelow low high → IsKeySet both
key_set_both low high both s t is below = record {
  ascends = rw is (ascends_both low high s.ascends t.ascends below);
  small = rw is (all_append (λ k. k < 2 ^ 32) low high s.small t.small);
}

-- a part in the middle
pub ascends_inside : (low set high : List ℕ) → IsKeySet (low ++ (set ++ high)) → StrictlyAscends set
ascends_inside low set high s = ascends_front set high (ascends_back low (set ++ high) s.ascends)

-- after an insertion, whether or not the key is new
pub key_set_inserted : (key : ℕ) (old new : List ℕ) (added : Bool) → IsKeySet old → IsInserted key old new added → key < 2 ^ 32 → IsKeySet new
key_set_inserted key old new added s i small = key_set_with key old new s (inserted_keys key old new added s.ascends i) small

-- there are at most 2 ^ 32 keys
pub key_set_length : (set : List ℕ) → IsKeySet set → length set ≤ 2 ^ 32
key_set_length set s = omega (arith, length_in_range (2 ^ 32) 0 set s.ascends (all_map (λ k. k < 2 ^ 32) (λ k. 0 ≤ k) (λ k h. omega arith) set s.small) s.small (omega arith))

-- `AllBelow`, carried over to equal lists
pub all_below_as : (low low' high high' : List ℕ) → low' ≡ low → high' ≡ high → AllBelow low high → AllBelow low' high'
all_below_as low low' high high' e e' below = rw (e, e') below
