-- The in-memory shelf and sink, as contracts see them.
use Rattle.std.specs.Prelude.{ℕ, ◌-◌, List, [], ◌∷◌, ◌++◌, ◌==◌, length, take, drop, map, Option, None, Some, Result, Ok, Err, is_ok, if◌then◌else◌, string_bytes}
use Rattle.std.specs.Option.{option_map}
use Rattle.std.specs.Str.{bytes_eq}
use Rattle.std.specs.declared.vec.Vec.{Vec}
use Rattle.std.specs.declared.string.String.{String}
use Rattle.std.specs.declared.alloc.Global.{Global}
use Rattle.bt_io.specs.Causes.{saturating_succ}

-- a file: its name and its bytes
pub record File : Type 0 where
  pub name : List ℕ
  pub bytes : List ℕ

-- the bytes of the first file called `name`
abbrev pub file_named : List File → List ℕ → Option (List ℕ)
file_named [] name = None
file_named (file ∷ files) name = if bytes_eq file.name name then Some file.bytes else file_named files name

-- the files that the code stores as pairs of a name and its bytes
abbrev pub files_in : List (String Global × Vec ℕ Global) → List File
files_in pairs = map (λ pair. record { name = string_bytes pair.0; bytes = pair.1.items }) pairs

-- An in-memory shelf: its `files`; `cut`, the most bytes of one read; `fails`, the numbers of the calls that fail, from
-- 0; `calls`, the number of calls so far; `left`, the unread bytes of the chosen file; `faults`, the failed calls.
pub record MemoryShelf : Type 0 where
  pub files : List File
  pub cut : ℕ
  pub fails : List ℕ
  pub calls : ℕ
  pub left : Option (List ℕ)
  pub faults : ℕ

-- the unread bytes after a read: a success drops the bytes read, a failure none
abbrev pub left_after : {E : Type 0} → Option (List ℕ) → Result ℕ E → Option (List ℕ)
left_after left (Ok count) = option_map (drop count) left
left_after left (Err e) = left

-- An in-memory sink: `taken`, the bytes so far; `room`, the most bytes in all; `cut`, the most bytes of one write;
-- `fails`, the numbers of the writes that fail, from 0; `calls`, the number of writes so far; `faults`, those failed.
pub record MemorySink : Type 0 where
  pub taken : List ℕ
  pub room : ℕ
  pub cut : ℕ
  pub fails : List ℕ
  pub calls : ℕ
  pub faults : ℕ

-- how many more bytes are sure to be taken: the unused room if no write is planned to fail, otherwise 0
abbrev pub room_left_of : MemorySink → ℕ
room_left_of sink = if length sink.fails == 0 then sink.room - length sink.taken else 0

-- the bytes taken after a write: a success appends the front of the piece, a failure nothing
abbrev pub taken_after : {E : Type 0} → List ℕ → List ℕ → Result ℕ E → List ℕ
taken_after taken piece (Ok count) = taken ++ take count piece
taken_after taken piece (Err e) = taken

-- the fault count after a call: a failure raises it, saturating
abbrev pub faults_after : {T E : Type 0} → ℕ → Result T E → ℕ
faults_after faults result = if is_ok result then faults else saturating_succ faults
