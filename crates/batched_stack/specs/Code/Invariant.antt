-- The invariant of a stack, and its first stripes.
use Rattle.std.specs.Prelude.{◌≡◌, ℕ, ◌<◌, List, [], replicate, slice_index}
use Rattle.batched_stack.specs.declared.stripe.Stripe.{Stripe}
use Rattle.batched_stack.specs.Stripes.{stripe_length}
use Rattle.batched_stack.specs.Lists.{lists, rooms_in}
use Rattle.batched_stack.specs.Rooms.{NeedsRoom}
use Rattle.batched_stack.specs.Code.Begin.{AreStripes}

-- the stripes have the lengths of `count` items, `numbers` are their rooms, and by the rule none needs another room
pub record StackInvariant (all : List Stripe) (numbers : List ℕ) (count : ℕ) : Type 0 where
  pub stripes : AreStripes all count
  pub rooms : numbers ≡ rooms_in all
  pub settled : (j : ℕ) → j < 16 → NeedsRoom (slice_index numbers j) (stripe_length j count) → ⊥

-- 16 empty stripes, each with the room 16
pub record AreEmpty (stripes : List Stripe) : Type 0 where
  pub items : lists stripes ≡ replicate 16 []
  pub rooms : rooms_in stripes ≡ replicate 16 16
