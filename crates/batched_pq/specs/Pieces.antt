-- The pieces of a batch, one for each shard.
use Rattle.std.specs.Prelude.{◌≡◌, ℕ, ◌+◌, ◌≤◌, ◌⊎◌, List, [], ◌∷◌, ◌++◌, length}
use Rattle.seq_objects.specs.declared.call.Call.{Call}
use Rattle.seq_objects.specs.Objects.{Objects}
use Rattle.seq_objects.specs.Orders.{Ascends, copies}
use Rattle.seq_objects.specs.Batches.{AreOneBatch}
use Rattle.seq_objects.specs.Pieces.{BatchContext}
use Rattle.batched_pq.specs.declared.piece.Piece.{Piece}
use Rattle.batched_pq.specs.declared.piece.Rest.{Rest}
use Rattle.batched_pq.specs.Shards.{ShardView, all_of, bag_of, NoneExceeds}
use Rattle.batched_pq.specs.Calls.{MayServe, inserts_of, takes_of, inserts_for}

-- the shard of each piece
abbrev pub shards_in : List Piece → List ShardView
shards_in [] = []
shards_in (piece ∷ pieces) = piece.shard ∷ shards_in pieces

-- the pieces of the shards from `shard` to 7: each has its share of the inserts, and the number of takes of the batch
abbrev pub ArePieces : ℕ → List ℕ → ℕ → List Piece → Type 0
ArePieces shard inserts takes [] = shard ≡ 8
ArePieces shard inserts takes (piece ∷ pieces) =
    (piece.inserts.items ≡ inserts_for shard 0 inserts) × (piece.takes ≡ takes)
    × ArePieces (shard + 1) inserts takes pieces

-- there is a piece for each of the eight shards, and the shards together hold the items of the bag
pub record Cut (bag : List ℕ) (calls : List Call) (ins : List Piece) : Type 0 where
  pub pieces : ArePieces 0 (inserts_of calls) (takes_of calls) ins
  pub holds : bag_of (shards_in ins) ≡ bag

-- the number of shards, whatever the calls
abbrev pub piece_count : Objects → List Call → ℕ
piece_count objects calls = 8

-- the out holds the items of the shard and the inserts; its front ascends, none of the front's items exceeds one of the
-- rest, and the front suffices for the takes unless the rest is empty
pub record Meets (piece : Piece) (out : ShardView) : Type 0 where
  pub items : (n : ℕ) → copies n (all_of out) ≡ copies n (all_of piece.shard ++ piece.inserts.items)
  pub ascends : Ascends out.front
  pub least : NoneExceeds out.front out.rest
  pub enough : (piece.takes ≤ length out.front) ⊎ (out.rest ≡ [])

-- the rest keeps the numbers of inserts and takes of one batch, whose pieces are a `Cut` of it
pub record IsContextOf (rest : Rest) (o : BatchContext (List ℕ) Piece) : Type 0 where
  pub batch : AreOneBatch o.calls
  pub may : MayServe o.before o.calls
  pub inserts : rest.inserts ≡ length (inserts_of o.calls)
  pub takes : rest.takes ≡ takes_of o.calls
  pub cut : Cut o.before o.calls o.ins
