-- The calls on each side of a key, in call order.
use Rattle.std.specs.Prelude.{ℕ, not, nat_lt, List, filter}
use Rattle.seq_objects.specs.declared.call.Call.{Call}
use Rattle.batched_tree.specs.Calls.{key_of}

-- the calls with keys below the given one
abbrev pub calls_below : ℕ → List Call → List Call
calls_below key calls = filter (λ call. nat_lt (key_of call) key) calls

-- the calls with keys at or above the given one
abbrev pub calls_from : ℕ → List Call → List Call
calls_from key calls = filter (λ call. not (nat_lt (key_of call) key)) calls
