-- Operations one after another: queries change nothing.
use Rattle.std.proofs.Common.{◌≡◌, ℕ, Bool, true, false, List, [], ◌∷◌, ◌++◌, map, refl, ap, ◌∙◌, sym}
use Rattle.std.specs.List.{AllByRecursion}
use Rattle.seq_objects.specs.Pairs.{AllPairsByRecursion}
use Rattle.keyed_pieces.specs.Keyed.{replies_to_each}
use Rattle.rank_nodes.specs.declared.entry.Entry.{Entry}
use Rattle.seq_objects.specs.declared.reply.Reply.{Reply}
use Rattle.batched_map.specs.declared.call.MapOp.{MapOp}
use Rattle.batched_map.specs.declared.call.MapOp.TheVariants.{Put, Del}
use Rattle.batched_map.specs.declared.call.MapCall.{MapCall}
use Rattle.batched_map.specs.Maps.{after, reply_to, map_after, map_replies, is_query, operations}
use Rattle.batched_map.specs.Batches.{ComesFirst, ComesFirstOf, after_batches, replies_to_batches, operations_of}
use Rattle.batched_map.specs.Code.Ranges.{reply_in}
use Rattle.batched_map.proofs.Keyed.{old_value}

abbrev pub AreQueries : List MapOp → Type 0
AreQueries ops = AllByRecursion (λ op. is_query op ≡ true) ops

abbrev pub AreUpdates : List MapOp → Type 0
AreUpdates ops = AllByRecursion (λ op. is_query op ≡ false) ops

-- a query leaves the map as it is
unchanged : (entries : List Entry) (op : MapOp) → is_query op ≡ true → after entries op ≡ entries
unchanged entries (Put key val) is = cc
unchanged entries (Del key) is = cc
unchanged entries _ is = refl

pub after_queries : (entries : List Entry) (queries updates : List MapOp) → AreQueries queries
    → map_after entries (queries ++ updates) ≡ map_after entries updates
after_queries entries [] updates all = refl
after_queries entries (op ∷ queries) updates all =
    ap (λ left. map_after left (queries ++ updates)) (unchanged entries op all.0) ∙ after_queries entries queries updates all.1

pub replies_to_queries : (reply : List Entry → MapOp → Reply) (entries : List Entry) (queries updates : List MapOp) → AreQueries queries
    → replies_to_each after reply entries (queries ++ updates) ≡ map (reply entries) queries ++ replies_to_each after reply entries updates
replies_to_queries reply entries [] updates all = refl
replies_to_queries reply entries (op ∷ queries) updates all =
    ap (λ left. reply entries op ∷ replies_to_each after reply left (queries ++ updates)) (unchanged entries op all.0)
    ∙ ap (λ replies. reply entries op ∷ replies) (replies_to_queries reply entries queries updates all.1)

-- an update replies the old value of its key, in a range as in the whole
pub old_in_range : (before : ℕ) (entries : List Entry) (op : MapOp) → is_query op ≡ false → reply_in before entries op ≡ old_value entries op
old_in_range before entries (Put key val) is = refl
old_in_range before entries (Del key) is = refl
old_in_range before entries _ is = cc

pub old_in_whole : (entries : List Entry) (op : MapOp) → is_query op ≡ false → reply_to entries op ≡ old_value entries op
old_in_whole entries (Put key val) is = refl
old_in_whole entries (Del key) is = refl
old_in_whole entries _ is = cc

pub replies_to_updates : (reply : List Entry → MapOp → Reply) → ((entries : List Entry) (op : MapOp) → is_query op ≡ false → reply entries op ≡ old_value entries op)
    → (entries : List Entry) (updates : List MapOp) → AreUpdates updates
    → replies_to_each after reply entries updates ≡ replies_to_each after old_value entries updates
replies_to_updates reply is entries [] all = refl
replies_to_updates reply is entries (op ∷ updates) all =
    ap (λ first. first ∷ replies_to_each after reply (after entries op) updates) (is entries op all.0)
    ∙ ap (λ replies. old_value entries op ∷ replies) (replies_to_updates reply is (after entries op) updates all.1)

-- a batch is its queries, and then its updates
pub record InParts (ops : List MapOp) : Type 0 where
  pub queries : List MapOp
  pub updates : List MapOp
  pub are : ops ≡ queries ++ updates
  pub all_queries : AreQueries queries
  pub all_updates : AreUpdates updates

not_a_query : (t : Bool) (first second : MapCall) → ComesFirstOf false t first second → t ≡ false
not_a_query true first second impossible = absurd impossible
not_a_query false first second so = refl

all_later : (first : MapCall) (calls : List MapCall) → is_query first.what ≡ false → AllByRecursion (ComesFirst first) calls → AreUpdates (operations calls)
all_later first [] is all = tt
all_later first (call ∷ calls) is all = (not_a_query (is_query call.what) first call (rw is at all.0), all_later first calls is all.1)

pub in_parts : (calls : List MapCall) → AllPairsByRecursion ComesFirst calls → InParts (operations calls)
in_parts [] order = record { queries = []; updates = []; are = refl; all_queries = tt; all_updates = tt }
in_parts (call ∷ calls) order = step (is_query call.what) refl (in_parts calls order.1) where
  step : (t : Bool) → is_query call.what ≡ t → InParts (operations calls) → InParts (operations (call ∷ calls))
  step true is rest =
      record {
        queries = call.what ∷ rest.queries;
        updates = rest.updates;
        are = ap (λ ops. call.what ∷ ops) rest.are;
        all_queries = (is, rest.all_queries);
        all_updates = rest.all_updates;
      }
  step false is rest =
      record { queries = []; updates = operations (call ∷ calls); are = refl; all_queries = tt; all_updates = (is, all_later call calls is order.0) }

-- serving batch by batch is serving all their calls
after_append : (entries : List Entry) (ops ops' : List MapOp) → map_after entries (ops ++ ops') ≡ map_after (map_after entries ops) ops'
after_append entries [] ops' = refl
after_append entries (op ∷ ops) ops' = after_append (after entries op) ops ops'

replies_append : (entries : List Entry) (ops ops' : List MapOp) → map_replies entries (ops ++ ops') ≡ map_replies entries ops ++ map_replies (map_after entries ops) ops'
replies_append entries [] ops' = refl
replies_append entries (op ∷ ops) ops' = ap (λ replies. reply_to entries op ∷ replies) (replies_append (after entries op) ops ops')

pub after_is : (entries : List Entry) (batches : List (List MapCall)) → after_batches entries batches ≡ map_after entries (operations_of batches)
after_is entries [] = refl
after_is entries (calls ∷ batches) =
    after_is (map_after entries (operations calls)) batches ∙ sym (after_append entries (operations calls) (operations_of batches))

pub replies_are : (entries : List Entry) (batches : List (List MapCall)) → replies_to_batches entries batches ≡ map_replies entries (operations_of batches)
replies_are entries [] = refl
replies_are entries (calls ∷ batches) =
    ap (λ replies. map_replies entries (operations calls) ++ replies) (replies_are (map_after entries (operations calls)) batches)
    ∙ sym (replies_append entries (operations calls) (operations_of batches))
