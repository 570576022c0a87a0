-- The replies and the final number, computed from the outs of the pieces and a starting number.
use Rattle.std.specs.Prelude.{ℕ, ◌+◌, ◌<◌, ◌^◌, List, [], ◌∷◌, ◌++◌}
use Rattle.std.specs.List.{AllByRecursion}
use Rattle.seq_objects.specs.declared.reply.Reply.{Reply}
use Rattle.seq_objects.specs.declared.reply.Reply.TheVariants.{Number}
use Rattle.batched_counter.specs.declared.piece.Served.{Served}

-- the replies to a piece's calls, where `base` is the number before the piece
abbrev pub number_replies : ℕ → List ℕ → List Reply
number_replies base [] = []
number_replies base (prefix ∷ prefixes) = Number (base + prefix) ∷ number_replies base prefixes

-- the replies to the calls of all pieces, where `base` is the number before the first
abbrev pub all_replies : ℕ → List Served → List Reply
all_replies base [] = []
all_replies base (out ∷ outs) =
    number_replies base out.prefixes.items ++ all_replies (base + out.total) outs

-- the number after all pieces
abbrev pub number_after : ℕ → List Served → ℕ
number_after base [] = base
number_after base (out ∷ outs) = number_after (base + out.total) outs

-- every reply and every intermediate number is below 2^64
abbrev pub CanJoin : ℕ → List Served → Type 0
CanJoin base [] = base < 2 ^ 64
CanJoin base (out ∷ outs) =
    AllByRecursion (λ prefix. base + prefix < 2 ^ 64) out.prefixes.items
    × (base + out.total < 2 ^ 64) × CanJoin (base + out.total) outs
