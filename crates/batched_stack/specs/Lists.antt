-- The items and the rooms of a list of stripes.
use Rattle.std.specs.Prelude.{ℕ, List, map}
use Rattle.batched_stack.specs.declared.stripe.Stripe.{Stripe}

-- the items of each stripe
abbrev pub lists : List Stripe → List (List ℕ)
lists stripes = map (λ stripe. stripe.items.items) stripes

-- the room of each stripe
abbrev pub rooms_in : List Stripe → List ℕ
rooms_in stripes = map (λ stripe. stripe.room) stripes
