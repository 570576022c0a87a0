-- The stripes and pieces that cutting makes.
use Rattle.std.specs.Prelude.{◌≡◌, ℕ, ◌+◌, ◌<◌, List, [], length, slice_index, slice_index_or}
use Rattle.batched_stack.specs.declared.stripe.Stripe.{Stripe}
use Rattle.batched_stack.specs.declared.piece.Piece.{Piece}
use Rattle.batched_stack.specs.Stripes.{stripe_length}
use Rattle.batched_stack.specs.Lists.{lists, rooms_in}
use Rattle.batched_stack.specs.Pieces.{pushes_to, pops_from}

-- 16 stripes, each as long as its share of n items
pub record AreStripes (stripes : List Stripe) (n : ℕ) : Type 0 where
  pub sixteen : length stripes ≡ 16
  pub lengths : (j : ℕ) → j < 16 → length (slice_index_or (lists stripes) j []) ≡ stripe_length j n

-- the piece has the stripe of its number, with that stripe's pushes and pops; n items stand before the batch
pub record IsCutOf (stripes : List Stripe) (n : ℕ) (puts : List ℕ) (takes : ℕ) (piece : Piece) : Type 0 where
  pub items : piece.stripe.items.items ≡ slice_index_or (lists stripes) piece.number []
  pub room : piece.stripe.room ≡ slice_index (rooms_in stripes) piece.number
  pub pushes : piece.pushes.items ≡ pushes_to piece.number n puts
  pub pops : piece.pops ≡ pops_from piece.number (n + length puts) takes

-- the piece has stripe j, with these pushes and this number of pops
pub record IsTaken (stripes : List Stripe) (j : ℕ) (puts : List ℕ) (takes : ℕ) (piece : Piece) : Type 0 where
  pub number : piece.number ≡ j
  pub items : piece.stripe.items.items ≡ slice_index_or (lists stripes) j []
  pub room : piece.stripe.room ≡ slice_index (rooms_in stripes) j
  pub pushes : piece.pushes.items ≡ puts
  pub pops : piece.pops ≡ takes

-- stripe j has the same items and the same room in both lists
pub record IsSame (old new : List Stripe) (j : ℕ) : Type 0 where
  pub items : slice_index_or (lists new) j [] ≡ slice_index_or (lists old) j []
  pub room : slice_index (rooms_in new) j ≡ slice_index (rooms_in old) j
