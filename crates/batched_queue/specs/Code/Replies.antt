-- The replies of a batch, from the items that its pieces took.
use Rattle.std.specs.Prelude.{◌≡◌, ℕ, ◌+◌, ◌-◌, ◌/◌, ◌%◌, ◌<◌, List, [], ◌++◌, length, map, replicate, slice_index, slice_index_or}
use Rattle.std.specs.List.{range_with_len}
use Rattle.seq_objects.specs.declared.reply.Reply.{Reply}
use Rattle.seq_objects.specs.declared.reply.Reply.TheVariants as reply
use Rattle.batched_queue.specs.Code.Stripes.{count_in}

-- of each stripe its share of the first `found` items was taken
abbrev pub HaveTaken : List (List ℕ) → ℕ → ℕ → Type 0
HaveTaken taken first found =
    (j : ℕ) → j < 16 → length (slice_index_or taken j []) ≡ count_in first j found

-- the item that get i takes
abbrev pub taken_item : List (List ℕ) → ℕ → ℕ → ℕ
taken_item taken first i = slice_index (slice_index_or taken ((first + i) % 16) []) (i / 16)

-- the replies to the gets that find an item
abbrev pub number_replies : List (List ℕ) → ℕ → ℕ → List Reply
number_replies taken first found = map (λ i. reply.Number (taken_item taken first i)) (range_with_len 0 found)

-- the replies to the puts, to the gets that find an item, and to the other gets
abbrev pub batch_replies : List (List ℕ) → ℕ → ℕ → ℕ → ℕ → List Reply
batch_replies taken first found puts gets =
    replicate puts reply.Unit ++ (number_replies taken first found ++ replicate (gets - found) reply.Empty)
