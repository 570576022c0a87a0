-- What holds of the elements of a list, by their places.
use Rattle.std.proofs.Common.{List, [], ◌∷◌, ◌++◌, refl, arith}
use Rattle.std.specs.Prelude.{Contains}
use Rattle.std.specs.List.{AllByRecursion}
use Rattle.std.proofs.lemmas.List.Elements.{Contains-append_right}
use Rattle.seq_objects.specs.Pairs.{AllPairsByRecursion}
use Rattle.seq_objects.proofs.Elements.{each_append}

pub each_contained : {A : Type 0} (P : A → Type 0) (xs : List A) → ((x : A) → Contains xs x → P x) → AllByRecursion P xs
each_contained P [] h = tt
each_contained P (x ∷ xs) h = (h x (0, omega arith, refl), each_contained P xs (λ y c. h y (Contains-append_right (x ∷ []) xs y c)))

pub pairs_append : {A : Type 0} (R : A → A → Type 0) (xs ys : List A) → AllPairsByRecursion R xs → AllPairsByRecursion R ys
    → AllByRecursion (λ x. AllByRecursion (R x) ys) xs → AllPairsByRecursion R (xs ++ ys)
pairs_append R [] ys h g across = g
pairs_append R (x ∷ xs) ys h g across = (each_append (R x) xs ys h.0 across.0, pairs_append R xs ys h.1 g across.1)

pub pairs_contained : {A : Type 0} (R : A → A → Type 0) (xs : List A) → ((a b : A) → Contains xs a → Contains xs b → R a b) → AllPairsByRecursion R xs
pairs_contained R [] h = tt
pairs_contained R (x ∷ xs) h = (
  each_contained (R x) xs (λ b c. h x b (0, omega arith, refl) (Contains-append_right (x ∷ []) xs b c)),
  pairs_contained R xs (λ a b ca cb. h a b (Contains-append_right (x ∷ []) xs a ca) (Contains-append_right (x ∷ []) xs b cb)),
)
