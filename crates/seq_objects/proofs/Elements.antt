-- Properties of all elements of a list, of all its pairs, and of distinct numbers.
use Rattle.std.proofs.Common.{ℕ, ◌≢◌, List, [], ◌∷◌, ◌++◌, map, subst}
use Rattle.std.specs.Prelude.{Contains}
use Rattle.std.specs.List.{AllByRecursion}
use Rattle.std.proofs.lemmas.List.Elements.{All-from_recursion}
use Rattle.seq_objects.specs.Pairs.{AllPairsByRecursion, AreDistinct}

-- what holds of all elements of two lists holds of all elements of their concatenation
pub each_append : {A : Type 0} (P : A → Type 0) (xs ys : List A) → AllByRecursion P xs → AllByRecursion P ys → AllByRecursion P (xs ++ ys)
each_append P [] ys h g = g
each_append P (x ∷ xs) ys h g = (h.0, each_append P xs ys h.1 g)

-- the converse
pub each_front : {A : Type 0} (P : A → Type 0) (xs ys : List A) → AllByRecursion P (xs ++ ys) → AllByRecursion P xs × AllByRecursion P ys
each_front P [] ys h = (tt, h)
each_front P (x ∷ xs) ys h = let more = each_front P xs ys h.1 in ((h.0, more.0), more.1)

pub each_left : {A : Type 0} (P : A → Type 0) (xs ys : List A) → AllByRecursion P (xs ++ ys) → AllByRecursion P xs
each_left P xs ys h = (each_front P xs ys h).0

pub each_right : {A : Type 0} (P : A → Type 0) (xs ys : List A) → AllByRecursion P (xs ++ ys) → AllByRecursion P ys
each_right P xs ys h = (each_front P xs ys h).1

-- one more element
pub each_push : {A : Type 0} (P : A → Type 0) (xs : List A) (x : A) → AllByRecursion P xs → P x → AllByRecursion P (xs ++ x ∷ [])
each_push P xs x h g = each_append P xs (x ∷ []) h (g, tt)

-- an implication lifts to all elements
pub each_so : {A : Type 0} (P Q : A → Type 0) → ((a : A) → P a → Q a) → (xs : List A) → AllByRecursion P xs → AllByRecursion Q xs
each_so P Q f [] h = tt
each_so P Q f (x ∷ xs) h = (f x h.0, each_so P Q f xs h.1)

-- two properties of all elements
pub each_both : {A : Type 0} (P Q : A → Type 0) (xs : List A) → AllByRecursion P xs → AllByRecursion Q xs → AllByRecursion (λ a. P a × Q a) xs
each_both P Q [] h g = tt
each_both P Q (x ∷ xs) h g = ((h.0, g.0), each_both P Q xs h.1 g.1)

-- what the images of all elements have
pub each_mapped : {A : Type 0} (f : A → ℕ) (P : A → Type 0) (Q : ℕ → Type 0) → ((a : A) → P a → Q (f a)) → (xs : List A) → AllByRecursion P xs → AllByRecursion Q (map f xs)
each_mapped f P Q g [] h = tt
each_mapped f P Q g (x ∷ xs) h = (g x h.0, each_mapped f P Q g xs h.1)

-- what all elements of an image have
pub each_unmapped : {A B : Type 0} (f : A → B) (Q : B → Type 0) (xs : List A) → AllByRecursion Q (map f xs) → AllByRecursion (λ a. Q (f a)) xs
each_unmapped f Q [] h = tt
each_unmapped f Q (x ∷ xs) h = (h.0, each_unmapped f Q xs h.1)

-- an element that the list contains
pub each_at : {A : Type 0} (P : A → Type 0) (xs : List A) (x : A) → AllByRecursion P xs → Contains xs x → P x
each_at P xs x h c = subst P c.2 (All-from_recursion P xs h c.0 x c.1)

-- all pairs of an image
pub pairs_unmapped : {A B : Type 0} (f : A → B) (R : B → B → Type 0) (xs : List A) → AllPairsByRecursion R (map f xs) → AllPairsByRecursion (λ a b. R (f a) (f b)) xs
pairs_unmapped f R [] h = tt
pairs_unmapped f R (x ∷ xs) h = (each_unmapped f (R (f x)) xs h.0, pairs_unmapped f R xs h.1)

-- two lists that are distinct together are so each, the first
pub distinct_front : (xs ys : List ℕ) → AreDistinct (xs ++ ys) → AreDistinct xs
distinct_front [] ys h = tt
distinct_front (x ∷ xs) ys h = ((each_front (λ y. x ≢ y) xs ys h.0).0, distinct_front xs ys h.1)

-- and the second
pub distinct_back : (xs ys : List ℕ) → AreDistinct (xs ++ ys) → AreDistinct ys
distinct_back [] ys h = h
distinct_back (x ∷ xs) ys h = distinct_back xs ys h.1

-- two lists of distinct numbers without a common one are distinct together
pub distinct_append : (xs ys : List ℕ) → AreDistinct xs → AreDistinct ys → AllByRecursion (λ x. AllByRecursion (λ y. x ≢ y) ys) xs → AreDistinct (xs ++ ys)
distinct_append [] ys h g apart = g
distinct_append (x ∷ xs) ys h g apart = (each_append (λ y. x ≢ y) xs ys h.0 apart.0, distinct_append xs ys h.1 g apart.1)
