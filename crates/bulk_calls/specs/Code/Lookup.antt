-- A key looked up among the starts of ranges, which stand at 15 places.
use Rattle.std.specs.Prelude.{◌≡◌, ℕ, ◌+◌, ◌<◌, ◌≤◌, List, length, slice_index}

-- the starts in front, and 2^32 - 1 at all places behind them
pub record IsFilled (starts places : List ℕ) : Type 0 where
  pub front : (i : ℕ) → i < length starts → slice_index places i ≡ slice_index starts i
  pub behind : (i : ℕ) → length starts ≤ i → i < 15 → slice_index places i ≡ 4294967295

-- no number is above a later one
abbrev pub Rises : List ℕ → Type 0
Rises places = (i j : ℕ) → i ≤ j → j < 15 → slice_index places i ≤ slice_index places j

-- the first number above the key stands at one of the `width` places from `low` on, where place 15 stands for none
pub record IsBetween (key : ℕ) (places : List ℕ) (low width : ℕ) : Type 0 where
  pub below : (i : ℕ) → i < low → slice_index places i ≤ key
  pub above : (i : ℕ) → low + width ≤ i + 1 → i < 15 → key < slice_index places i
