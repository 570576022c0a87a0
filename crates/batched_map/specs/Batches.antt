-- The calls of one batch, and batches one after another.
use Rattle.std.specs.Prelude.{◌≡◌, ℕ, suc, ◌<◌, ◌≤◌, ◌⊎◌, Bool, true, false, not, nat_le, if◌then◌else◌, List, [], ◌∷◌, ◌++◌, length, map, filter, ⊤}
use Rattle.seq_objects.specs.Pairs.{AllPairsByRecursion, AreDistinct}
use Rattle.seq_objects.specs.declared.reply.Reply.{Reply}
use Rattle.rank_nodes.specs.declared.entry.Entry.{Entry}
use Rattle.batched_map.specs.declared.call.MapOp.{MapOp}
use Rattle.batched_map.specs.declared.call.MapCall.{MapCall}
use Rattle.batched_map.specs.Maps.{map_after, map_replies, is_query, op_key, operations}
use Rattle.limits.specs.declared.TheConstants.{MOST_WORKERS}

-- an update comes before another where its key is less, or the key is the same and the worker less
abbrev pub IsBeforeByKey : ℕ → ℕ → ℕ → ℕ → Type 0
IsBeforeByKey key worker key' worker' = (key < key') ⊎ ((key ≡ key') × (worker < worker'))

-- the order of two calls, by whether each is a query: queries by worker, and then updates by key, then worker
abbrev pub ComesFirstOf : Bool → Bool → MapCall → MapCall → Type 0
ComesFirstOf true true first second = first.worker < second.worker
ComesFirstOf true false first second = ⊤
ComesFirstOf false true first second = ⊥
ComesFirstOf false false first second = IsBeforeByKey (op_key first.what) first.worker (op_key second.what) second.worker

-- the first call is served before the second
abbrev pub ComesFirst : MapCall → MapCall → Type 0
ComesFirst first second = ComesFirstOf (is_query first.what) (is_query second.what) first second

-- the calls are those of one batch: at most `MOST_WORKERS`, in batch order, of distinct workers
pub record AreMapBatch (calls : List MapCall) : Type 0 where
  pub few : length calls ≤ MOST_WORKERS
  pub order : AllPairsByRecursion ComesFirst calls
  pub workers : AreDistinct (map (λ call. call.worker) calls)

-- operations as the calls of the workers `worker`, `worker` + 1, ..
abbrev pub numbered : ℕ → List MapOp → List MapCall
numbered worker [] = []
numbered worker (operation ∷ operations) =
    record { worker = worker; what = operation } ∷ numbered (suc worker) operations

-- a call put among others, before the first whose key is greater
abbrev pub put_by_key : MapCall → List MapCall → List MapCall
put_by_key call [] = call ∷ []
put_by_key call (c ∷ calls) =
    if nat_le (op_key c.what) (op_key call.what) then c ∷ put_by_key call calls else call ∷ c ∷ calls

-- calls put by key among others, one after another
abbrev pub by_key : List MapCall → List MapCall → List MapCall
by_key sorted [] = sorted
by_key sorted (call ∷ calls) = by_key (put_by_key call sorted) calls

-- those of the calls that are queries, and those that are updates
abbrev pub queries : List MapCall → List MapCall
queries calls = filter (λ call. is_query call.what) calls

abbrev pub updates : List MapCall → List MapCall
updates calls = filter (λ call. not (is_query call.what)) calls

-- a batch of the operations of workers 0, 1, .. : the queries by worker, and then the updates by key, then worker
abbrev pub in_batch_order : List MapOp → List MapCall
in_batch_order operations = queries (numbered 0 operations) ++ by_key [] (updates (numbered 0 operations))

-- the map after batches
abbrev pub after_batches : List Entry → List (List MapCall) → List Entry
after_batches entries [] = entries
after_batches entries (calls ∷ batches) = after_batches (map_after entries (operations calls)) batches

-- the replies to the calls of all batches
abbrev pub replies_to_batches : List Entry → List (List MapCall) → List Reply
replies_to_batches entries [] = []
replies_to_batches entries (calls ∷ batches) =
    map_replies entries (operations calls) ++ replies_to_batches (map_after entries (operations calls)) batches

-- the operations of all batches
abbrev pub operations_of : List (List MapCall) → List MapOp
operations_of [] = []
operations_of (calls ∷ batches) = operations calls ++ operations_of batches
