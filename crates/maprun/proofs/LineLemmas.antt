-- Lines by replies are the lines of calls that are served one after another.
use Rattle.std.proofs.Common.{◌≡◌, ℕ, ◌+◌, List, [], ◌∷◌, ◌++◌, length, refl, ap, arith}
use Rattle.rank_nodes.specs.declared.entry.Entry.{Entry}
use Rattle.batched_map.specs.Maps.{map_serve, map_replies, operations}
use Rattle.batched_map.specs.declared.call.MapCall.{MapCall}
use Rattle.maprun.specs.Text.{call_line, served_lines}
use Rattle.maprun.specs.Code.{call_lines}

pub lines_served : (batch place : ℕ) (entries : List Entry) (calls : List MapCall)
    → call_lines batch place calls (map_replies entries (operations calls)) ≡ served_lines batch place entries calls
lines_served batch place entries [] = refl
lines_served batch place entries (call ∷ calls) =
    ap (λ lines. call_line batch place call (map_serve entries call.what).1 ++ lines) (lines_served batch (place + 1) (map_serve entries call.what).0 calls)

pub replies_counted : (entries : List Entry) (calls : List MapCall) → length (map_replies entries (operations calls)) ≡ length calls
replies_counted entries [] = refl
replies_counted entries (call ∷ calls) = omega (arith, replies_counted (map_serve entries call.what).0 calls)
