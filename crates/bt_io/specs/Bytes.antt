-- What reading a whole file and writing all bytes guarantee. `None` stands for bytes that contracts do not know.
use Rattle.std.specs.Prelude.{◌≡◌, ◌≤◌, ℕ, List, ◌++◌, length, ⊤, Option, None, Some}
use Rattle.std.specs.Io.KnownBytes.{Consumes, Appends}

-- if the bytes held under a name are known, exactly these are left to read
abbrev pub IsTold : Option (List ℕ) → Option (List ℕ) → Type 0
IsTold None left = ⊤
IsTold (Some bytes) left = left ≡ Some bytes

-- if the file's bytes are known, `bytes` is all of them
abbrev pub IsWhole : Option (List ℕ) → List ℕ → Type 0
IsWhole None bytes = ⊤
IsWhole (Some told) bytes = bytes ≡ told

-- a front of exactly `count` bytes was consumed
abbrev pub ConsumesCount : Option (List ℕ) → Option (List ℕ) → ℕ → Type 0
ConsumesCount old new count = (front : List ℕ) × Consumes old new front × (length front ≡ count)

-- a front of at most `most` bytes was consumed
abbrev pub ConsumesAtMost : Option (List ℕ) → Option (List ℕ) → ℕ → Type 0
ConsumesAtMost old new most = (front : List ℕ) × Consumes old new front × (length front ≤ most)

-- some front of `bytes`, possibly empty or all of it, was appended
abbrev pub AppendsFront : Option (List ℕ) → Option (List ℕ) → List ℕ → Type 0
AppendsFront old new bytes = (front rest : List ℕ) × (bytes ≡ front ++ rest) × Appends old new front
