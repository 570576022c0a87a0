-- Association lists with numbers as keys. Of two entries with one key, the first counts.
use Rattle.std.specs.Prelude.{ℕ, ◌≡◌, ◌==◌, List, [], ◌∷◌, Option, None, Some, if◌then◌else◌}

module _ {A : Type 0} where
  -- the value of the first entry with key `n`, if there is one
  abbrev pub entry_at : ℕ → List (ℕ × A) → Option A
  entry_at n [] = None
  entry_at n (e ∷ es) = if e.0 == n then Some e.1 else entry_at n es

  -- without the first entry with key `n`
  abbrev pub without : ℕ → List (ℕ × A) → List (ℕ × A)
  without n [] = []
  without n (e ∷ es) = if e.0 == n then es else e ∷ without n es

  -- no key occurs twice
  abbrev pub AreApart : List (ℕ × A) → Type 0
  AreApart [] = Unit {0}
  AreApart (e ∷ es) = (entry_at e.0 es ≡ None) × AreApart es
