-- The rule of rooms. A stripe's room is the capacity of its vector, in items.
use Rattle.std.specs.Prelude.{◌≡◌, ℕ, ◌*◌, ◌<◌, ◌≤◌, ◌^◌, ◌⊎◌, List, slice_index}
use Rattle.batched_stack.specs.Stripes.{stripe_length}

-- the room must change: the length exceeds it, or the room is above 16 and the length is below an eighth of it
abbrev pub NeedsRoom : ℕ → ℕ → Type 0
NeedsRoom room len = (room < len) ⊎ ((16 < room) × (8 * len < room))

-- The new room for a length: the least of 16, 32, 64 and so on that is at least twice the length.
pub record IsRoomFor (len new : ℕ) : Type 0 where
  pub power : (c : ℕ) × (new ≡ 16 * 2 ^ c)
  pub enough : 2 * len ≤ new
  pub least : (new ≡ 16) ⊎ (new < 4 * len)

-- the room after a piece that leaves `len` items: a new one where the rule asks for it, else the same
abbrev pub IsNext : ℕ → ℕ → ℕ → Type 0
IsNext room len new =
    (NeedsRoom room len × IsRoomFor len new) ⊎ ((NeedsRoom room len → ⊥) × (new ≡ room))

-- each of the 16 new rooms is the next after the old one, where the stack now has n items
abbrev pub AreNext : List ℕ → ℕ → List ℕ → Type 0
AreNext rooms n new =
    (j : ℕ) → j < 16 → IsNext (slice_index rooms j) (stripe_length j n) (slice_index new j)
