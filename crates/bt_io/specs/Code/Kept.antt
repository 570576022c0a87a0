-- The representation of the in-memory shelf and sink.
use Rattle.std.specs.Prelude.{ℕ, ◌<◌, ◌≤◌, List, [], drop, slice_get, Option, vec_len, vec_capacity}
use Rattle.std.specs.Option.{option_map, option_map_or}
use Rattle.std.specs.declared.vec.Vec.{Vec}
use Rattle.std.specs.declared.alloc.Global.{Global}
use Rattle.bt_io.specs.Memory.{File}

-- the bytes of the file at index `place`, or none if there is no such file
abbrev pub bytes_at : List File → ℕ → List ℕ
bytes_at files place = option_map_or (λ file. file.bytes) (slice_get files place) []

-- the bytes of the chosen file from offset `at`; `None` if no file is chosen
abbrev pub left_of : List File → Option ℕ → ℕ → Option (List ℕ)
left_of files chosen at = option_map (λ place. drop at (bytes_at files place)) chosen

-- at most `room` bytes are stored, the capacity is at least `room`, and a write may take at least one byte
pub record HasRoom (bytes : Vec ℕ Global) (room cut : ℕ) : Type 0 where
  pub some : 0 < cut
  pub within : vec_len bytes ≤ room
  pub reserved : room ≤ vec_capacity bytes
