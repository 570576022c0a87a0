-- Runs: the longest front of a text whose bytes belong to a set.
use Rattle.std.specs.Prelude.{◌≡◌, ℕ, Bool, true, false, List, [], ◌∷◌, ⊤}
use Rattle.std.specs.List.{AllByRecursion}

-- all bytes belong to the set
abbrev pub AllBelong : (ℕ → Bool) → List ℕ → Type 0
AllBelong belongs text = AllByRecursion (λ byte. belongs byte ≡ true) text

-- the text is empty or begins with a byte that does not belong to the set
abbrev pub BeginsOutside : (ℕ → Bool) → List ℕ → Type 0
BeginsOutside belongs [] = ⊤
BeginsOutside belongs (byte ∷ text) = belongs byte ≡ false
