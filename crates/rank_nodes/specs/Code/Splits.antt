-- A list of entries cut at a key.
use Rattle.std.specs.Prelude.{◌≡◌, ℕ, List, ◌++◌}
use Rattle.keyed_pieces.specs.Keyed.{AreBelow, AreFrom}
use Rattle.rank_nodes.specs.declared.entry.Entry.{Entry}
use Rattle.rank_nodes.specs.Maps.{key_of}

-- `whole` is `low`, whose keys are below `key`, followed by `high`, whose keys are not
pub record IsSplit (key : ℕ) (whole low high : List Entry) : Type 0 where
  pub is : whole ≡ low ++ high
  pub below : AreBelow key_of key low
  pub above : AreFrom key_of key high
