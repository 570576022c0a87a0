-- Parts of a text that end at line ends.
use Rattle.std.specs.Prelude.{ℕ, ◌≡◌, ◌-◌, ◌≤◌, ◌⊎◌, List, [], ◌∷◌, length, slice_index_or}
use Rattle.word_counts.specs.declared.parts.Part.{Part}

-- a line ends before this place, or the text begins or ends there
abbrev pub IsLineEnd : List ℕ → ℕ → Type 0
IsLineEnd text place = (place ≡ 0) ⊎ ((place ≡ length text) ⊎ (slice_index_or text (place - 1) 0 ≡ 10))

-- one part for each caller: the parts stand one after another, from the place a to the place b, and each ends at a line
-- end
abbrev pub AreParts : {C : Type 0} → (Part → C) → List ℕ → ℕ → ℕ → List Part → List C → Type 0
AreParts f text a b [] [] = a ≡ b
AreParts f text a b [] (c ∷ callers) = ⊥
AreParts f text a b (part ∷ parts) [] = ⊥
AreParts f text a b (part ∷ parts) (c ∷ callers) = (part.from ≡ a) × (a ≤ part.to) × IsLineEnd text part.to × (f part ≡ c) × AreParts f text part.to b parts callers
