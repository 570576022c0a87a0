-- The pieces of a batch: one for each group of the calls' keys, with a part of the set and of the calls.
use Rattle.std.specs.Prelude.{◌≡◌, ℕ, List, [], ◌∷◌, length, filter, map}
use Rattle.std.specs.declared.option.Option.{Option}
use Rattle.std.specs.Option.{unwrap_or}
use Rattle.seq_objects.specs.declared.call.Call.{Call}
use Rattle.seq_objects.specs.Objects.{Objects, has}
use Rattle.seq_objects.specs.Orders.{StrictlyAscends}
use Rattle.seq_objects.specs.Batches.{AreOneBatch}
use Rattle.seq_objects.specs.Serial.{of_set, after_all}
use Rattle.seq_objects.specs.Pieces.{BatchContext}
use Rattle.batched_tree.specs.declared.piece.Piece.{Piece}
use Rattle.batched_tree.specs.declared.piece.Served.{Served}
use Rattle.batched_tree.specs.declared.piece.Rest.{Rest}
use Rattle.batched_tree.specs.Calls.{MayServe, key_of, distinct_keys}
use Rattle.key_sets.specs.Groups.{AreGroups, least_of, starts_of, is_in, least_beyond, group_of, group_size, group_count}
use Rattle.batched_tree.specs.Replies.{replies_within}

-- the piece of a group: the set's keys from `start` to before `end`, the calls with keys in the group, and the least
-- key of the set beyond that range, if there is one
pub record IsPiece (set : List ℕ) (calls : List Call) (group : List ℕ) (start : ℕ) (end : Option ℕ) (piece : Piece) : Type 0 where
  pub keys_are : piece.forest.keys ≡ filter (is_in start end) set
  pub calls_are : piece.calls.items ≡ filter (λ call. has (key_of call) group) calls
  pub beyond_is : piece.beyond ≡ least_beyond end set

-- there is one piece for each group, in order. The first range begins at `start`, each other at its group's least key;
-- each range ends before the least key of the next group, and the last has no end
abbrev pub ArePieces : List ℕ → List Call → ℕ → List (List ℕ) → List Piece → Type 0
ArePieces set calls start [] pieces = pieces ≡ []
ArePieces set calls start (group ∷ groups) [] = ⊥
ArePieces set calls start (group ∷ groups) (piece ∷ pieces) =
    IsPiece set calls group start (least_of groups) piece
    × ArePieces set calls (unwrap_or (least_of groups) 0) groups pieces

-- each group but the last has a sixteenth of the calls' distinct keys, rounded up; the first range begins at 0
pub record Cut (set : List ℕ) (calls : List Call) (ins : List Piece) : Type 0 where
  pub groups : List (List ℕ)
  pub groups_are : AreGroups (group_size (length (distinct_keys calls))) (distinct_keys calls) groups
  pub pieces : ArePieces set calls 0 groups ins

-- the number of groups of the calls' distinct keys: their number divided by the size of a group, rounded up
abbrev pub piece_count : Objects → List Call → ℕ
piece_count objects calls = group_count (length (distinct_keys calls))

-- the out has the keys after the calls, and the replies to them, in which `beyond` may answer for a missing next key
pub record Meets (piece : Piece) (served : Served) : Type 0 where
  pub keys : served.forest.keys ≡ (after_all (of_set piece.forest.keys) piece.calls.items).set
  pub replies : served.replies.items ≡ replies_within piece.beyond (of_set piece.forest.keys) piece.calls.items

-- the rest keeps the group of each call of a batch that can be served, whose pieces are a `Cut` of it; the set's keys
-- strictly ascend
pub record IsContextOf (rest : Rest) (o : BatchContext (List ℕ) Piece) : Type 0 where
  pub ascends : StrictlyAscends o.before
  pub batch : AreOneBatch o.calls
  pub may : MayServe o.before o.calls
  pub cut : Cut o.before o.calls o.ins
  pub groups : rest.groups.items ≡ map (λ call. group_of (key_of call) (starts_of cut.groups)) o.calls
