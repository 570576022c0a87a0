-- What reading a whole file guarantees.
use Rattle.std.specs.Prelude.{ℕ, ◌<◌, ◌≤◌, List, length, Option, IfSome}
use Rattle.bt_io.specs.Bytes.{IsWhole}
use Rattle.bt_io.specs.declared.shelf.ReadErr.{ReadErr}
use Rattle.bt_io.specs.declared.shelf.ReadErr.TheVariants.{Failed, TooLong, Memory}

-- These are the file's bytes: at most `most` of them, and exactly those that the shelf holds, where known.
pub record WasRead (most : ℕ) (held : Option (List ℕ)) (bytes : List ℕ) : Type 0 where
  pub whole : IsWhole held bytes
  pub short : length bytes ≤ most

-- what each error implies: a failed call, a held file (where known) longer than `most`, or nothing when out of memory
abbrev pub StopsReading : ReadErr → ℕ → Option (List ℕ) → Type 0 → Type 0
StopsReading Failed most held ReadsFailed = ReadsFailed
StopsReading TooLong most held ReadsFailed = IfSome held (λ bytes. most < length bytes)
StopsReading Memory most held ReadsFailed = Unit {0}
