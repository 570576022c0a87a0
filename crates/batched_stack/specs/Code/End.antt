-- The stripes and the replies that the end makes of the outs.
use Rattle.std.specs.Prelude.{◌≡◌, ℕ, ◌-◌, ◌/◌, ◌%◌, ◌<◌, List, [], ◌∷◌, ◌++◌, length, map, replicate, slice_index, slice_index_or, slice_set}
use Rattle.std.specs.List.{range_with_len}
use Rattle.seq_objects.specs.declared.reply.Reply.{Reply}
use Rattle.seq_objects.specs.declared.reply.Reply.TheVariants as reply
use Rattle.batched_stack.specs.declared.piece.Served.{Served}
use Rattle.batched_stack.specs.Stripes.{stripe_length}

-- the list, with `part out` in place of the element at each out's number
abbrev pub with_outs : {X : Type 0} → (Served → X) → List X → List Served → List X
with_outs part xs [] = xs
with_outs part xs (out ∷ outs) = with_outs part (slice_set xs out.number (part out)) outs

-- each stripe has popped as many items as it has among the items from `left` to `total` - 1
abbrev pub HavePopped : List (List ℕ) → ℕ → ℕ → Type 0
HavePopped popped total left =
    (j : ℕ) → j < 16
    → length (slice_index_or popped j []) ≡ stripe_length j total - stripe_length j left

-- the item at place p of `total`, looked up among the popped ones, of which each stripe has its newest first
abbrev pub popped_item : List (List ℕ) → ℕ → ℕ → ℕ
popped_item popped total p =
    slice_index (slice_index_or popped (p % 16) []) (stripe_length (p % 16) total - 1 - p / 16)

-- the replies to the first `count` pops, which find an item: the first takes the last of `total` items
abbrev pub number_replies : List (List ℕ) → ℕ → ℕ → List Reply
number_replies popped total count =
    map (λ i. reply.Number (popped_item popped total (total - 1 - i))) (range_with_len 0 count)

-- the replies to the pushes, then to the pops that find an item, then to the others
abbrev pub stack_replies : List (List ℕ) → ℕ → ℕ → ℕ → ℕ → List Reply
stack_replies popped total left pushes pops =
    replicate pushes reply.Unit
    ++ (number_replies popped total (total - left) ++ replicate (pops - (total - left)) reply.Empty)
