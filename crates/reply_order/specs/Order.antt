-- Replies in the order of the calls.
use Rattle.std.specs.Prelude.{◌≡◌, ℕ, ◌<◌, List, length, zip, slice_index, slice_index_or, IsPermutation}
use Rattle.std.specs.List.{range_with_len}

-- Of replies that came in some order, with the place of each, `ordered` has each at its place: the reply at index k stands
-- at index `places[k]`. So the places 0, 1, .. with the ordered replies are the places with their replies, mixed.
pub record AreInOrder {R : Type 0} (places : List ℕ) (replies ordered : List R) : Type 0 where
  pub count : length ordered ≡ length replies
  pub each : (k : ℕ) (d : R) → k < length places → slice_index_or ordered (slice_index places k) d ≡ slice_index_or replies k d
  pub mixed : IsPermutation (zip (range_with_len 0 (length places)) ordered) (zip places replies)
