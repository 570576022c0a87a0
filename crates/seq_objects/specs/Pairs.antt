-- Relations between all pairs of elements of a list, and lists without repeats.
use Rattle.std.specs.Prelude.{◌≢◌, ℕ, List, [], ◌∷◌, Contains}
use Rattle.std.specs.List.{AllByRecursion}

-- the relation holds between each element and each later one
abbrev pub AllPairsByRecursion : {X : Type 0} → (X → X → Type 0) → List X → Type 0
AllPairsByRecursion R [] = Unit {0}
AllPairsByRecursion R (x ∷ xs) = AllByRecursion (λ y. R x y) xs × AllPairsByRecursion R xs

-- no number occurs twice
abbrev pub AreDistinct : List ℕ → Type 0
AreDistinct numbers = AllPairsByRecursion (λ m n. m ≢ n) numbers

-- the list contains exactly the numbers that pass, each once
pub record IsEnumerationOf (Passes : ℕ → Type 0) (numbers : List ℕ) : Type 0 where
  pub distinct : AreDistinct numbers
  pub only : AllByRecursion Passes numbers
  pub each : (n : ℕ) → Passes n → Contains numbers n
