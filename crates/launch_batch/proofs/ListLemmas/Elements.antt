-- Properties of the elements of lists, and of their images under a map.
use Rattle.std.proofs.Common.{ℕ, ◌≡◌, ◌≢◌, List, [], ◌∷◌, ◌++◌, map, refl, sym, ap}
use Rattle.launch_batch.proofs.Words.{AllByRecursion}
use Rattle.seq_objects.proofs.Elements.{each_so}

-- from the elements to their images
pub each_mapped : {A B : Type 0} (f : A → B) (P : A → Type 0) (Q : B → Type 0) → ((a : A) → P a → Q (f a)) → (xs : List A) → AllByRecursion P xs → AllByRecursion Q (map f xs)
each_mapped f P Q g [] h = tt
each_mapped f P Q g (x ∷ xs) h = (g x h.0, each_mapped f P Q g xs h.1)

-- having no number in common is symmetric
pub apart_turned : (xs ys : List ℕ) → AllByRecursion (λ x. AllByRecursion (λ y. x ≢ y) ys) xs → AllByRecursion (λ y. AllByRecursion (λ x. y ≢ x) xs) ys
apart_turned xs [] h = tt
apart_turned xs (y ∷ ys) h = (
  each_so (λ x. AllByRecursion (λ z. x ≢ z) (y ∷ ys)) (λ x. y ≢ x) (λ x all same. all.0 (sym same)) xs h,
  apart_turned xs ys (each_so (λ x. AllByRecursion (λ z. x ≢ z) (y ∷ ys)) (λ x. AllByRecursion (λ z. x ≢ z) ys) (λ x all. all.1) xs h),
)

pub map_append : {A B : Type 0} (f : A → B) (xs ys : List A) → map f (xs ++ ys) ≡ map f xs ++ map f ys
map_append f [] ys = refl
map_append f (x ∷ xs) ys = ap (λ l. f x ∷ l) (map_append f xs ys)
