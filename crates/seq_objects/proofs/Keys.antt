-- The operations of the library's ordered set on its keys agree with those of the serial set.
use Rattle.std.proofs.Common.{◌≡◌, ℕ, List, [], ◌∷◌, ◌==◌, slice_get, refl, arith}
use Rattle.std.specs.List.{list_any, filter}
use Rattle.std.specs.Ordering.{nat_cmp, is_eq}
use Rattle.std.specs.BTreeMap.{is_at}
use Rattle.std.specs.BTreeMap.Range.{range_contains}
use Rattle.std.specs.BTreeSet.{insert_key}
use Rattle.std.specs.Set.{remove_key}
use Rattle.std.specs.declared.ops.Bound.TheVariants.{Excluded, Unbounded}
use Rattle.std.proofs.lemmas.Bool.Decides.{nat_tests}
use Rattle.seq_objects.specs.Objects.{has, with_key, without_key, least_above}

pub same_test : (m n : ℕ) → is_eq (nat_cmp m n) ≡ (m == n)
same_test m n = grind (arith, nat_tests)

pub same_has : (key : ℕ) (keys : List ℕ) → list_any (is_at (nat_cmp key)) keys ≡ has key keys
same_has key [] = refl
same_has key (k ∷ keys) = rw (same_test key k, same_has key keys) refl

pub same_with_key : (key : ℕ) (keys : List ℕ) → insert_key nat_cmp keys key ≡ with_key key keys
same_with_key key [] = refl
same_with_key key (k ∷ keys) = let rest = same_with_key key keys in grind (arith, nat_tests)

pub same_without_key : (key : ℕ) (keys : List ℕ) → remove_key (is_at (nat_cmp key)) keys ≡ without_key key keys
same_without_key key [] = refl
same_without_key key (k ∷ keys) = rw (same_test key k, same_without_key key keys) refl

pub first_above : (key : ℕ) (keys : List ℕ) → slice_get (filter (range_contains nat_cmp (Excluded key) Unbounded) keys) 0 ≡ least_above key keys
first_above key [] = refl
first_above key (k ∷ keys) = let rest = first_above key keys in grind (arith, nat_tests)
