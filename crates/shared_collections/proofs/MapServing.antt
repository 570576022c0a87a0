-- A batch of the map, as operations of its serial object.
use Rattle.std.proofs.Common.{◌≡◌, ℕ, zero, suc, ◌<◌, ◌^◌, ◌==◌, nat_lt, if◌then◌else◌, Bool, true, false, List, [], ◌∷◌, map, length, Option, Some, None, refl, sym, ap, ◌∙◌, subst, add-one, arith}
use Rattle.std.specs.Prelude.{IsPermutation}
use Rattle.std.specs.List.{AllByRecursion, range_with_len}
use Rattle.seq_objects.specs.Objects.{number_or_empty}
use Rattle.seq_objects.specs.declared.reply.Reply.{Reply}
use Rattle.rank_nodes.specs.declared.entry.Entry.{Entry}
use Rattle.rank_nodes.specs.Maps.{value_at, with_entry, without_entry, key_at}
use Rattle.batched_map.specs.declared.call.MapOp.{MapOp}
use Rattle.batched_map.specs.declared.call.MapOp.TheVariants as op
use Rattle.batched_map.specs.declared.call.MapCall.{MapCall}
use Rattle.batched_map.specs.Maps.{after, reply_to, map_after, map_replies, operations}
use Rattle.batched_map.specs.Batches.{numbered, in_batch_order}
use Rattle.batched_map.proofs.OneBatch.{permutes}
use Rattle.shared_calls.specs.Serial.{replies_to_all, after_all}
use Rattle.shared_calls.proofs.Batches.{every_shuffled}
use Rattle.shared_collections.specs.declared.ranked.RankedOp.{RankedOp}
use Rattle.shared_collections.specs.declared.ranked.RankedOp.TheVariants.{Put, Get, Rank, Nth}
use Rattle.shared_collections.specs.declared.ranked.RankedReply.TheVariants.{Value, Key}
use Rattle.shared_collections.specs.Maps.{ranked_map, entries_after, map_reply}
use Rattle.shared_collections.specs.Code.Numbers.{AreSmall, IsSmall, number_in}
use Rattle.shared_collections.specs.Code.Maps.{asked_of, op_of, own_reply, own_replies, IsSmallOp, AreSmallEntries, IsSmallReply, AreSmallReplies}
use Rattle.shared_collections.proofs.Serving.{AreListed}

abbrev pub worker : MapCall → ℕ
worker call = call.worker

abbrev pub what : MapCall → RankedOp
what call = op_of call.what

-- an operation and its reply
number_back : (o : Option ℕ) → number_in (number_or_empty o) ≡ o
number_back None = refl
number_back (Some number) = refl

own_is : (entries : List Entry) (asked : MapOp) → own_reply asked (reply_to entries asked) ≡ map_reply entries (op_of asked)
own_is entries (op.Put key val) = ap Value (number_back (value_at key entries))
own_is entries (op.Del key) = ap Value (number_back (value_at key entries))
own_is entries (op.Get key) = ap Value (number_back (value_at key entries))
own_is entries (op.Rank key) = refl
own_is entries (op.Nth index) = ap Key (number_back (key_at index entries))

after_is : (entries : List Entry) (asked : MapOp) → after entries asked ≡ entries_after entries (op_of asked)
after_is entries (op.Put key val) = refl
after_is entries _ = refl

-- the replies to calls, and the entries after them
pub replies_are : (entries : List Entry) (calls : List MapCall) → own_replies calls (map_replies entries (operations calls)) ≡ replies_to_all ranked_map entries (map what calls)
replies_are entries [] = refl
replies_are entries (call ∷ calls) =
    let here = own_is entries call.what in
    let rest = replies_are (after entries call.what) calls ∙ ap (λ s. replies_to_all ranked_map s (map what calls)) (after_is entries call.what) in
    ap (λ r. r ∷ own_replies calls (map_replies (after entries call.what) (operations calls))) here ∙ ap (λ l. map_reply entries (what call) ∷ l) rest

pub entries_are : (entries : List Entry) (calls : List MapCall) → map_after entries (operations calls) ≡ after_all ranked_map entries (map what calls)
entries_are entries [] = refl
entries_are entries (call ∷ calls) =
    entries_are (after entries call.what) calls ∙ ap (λ s. after_all ranked_map s (map what calls)) (after_is entries call.what)

-- there are as many replies as calls
pub as_many : (entries : List Entry) (calls : List MapCall) → length (map_replies entries (operations calls)) ≡ length calls
as_many entries [] = refl
as_many entries (call ∷ calls) = ap suc (as_many (after entries call.what) calls)

pub as_many_own : (calls : List MapCall) (replies : List Reply) → length replies ≡ length calls → length (own_replies calls replies) ≡ length (map worker calls)
as_many_own [] [] is = refl
as_many_own [] (reply ∷ replies) is = absurd (omega (arith, is))
as_many_own (call ∷ calls) [] is = absurd (omega (arith, is))
as_many_own (call ∷ calls) (reply ∷ replies) is = ap suc (as_many_own calls replies (omega (arith, is)))

-- the calls as they are numbered, and in batch order
places_from : (n : ℕ) (asked : List MapOp) → map worker (numbered n asked) ≡ range_with_len n (length (numbered n asked))
places_from n [] = refl
places_from n (op ∷ asked) = ap (λ l. n ∷ l) (rw add-one (places_from (suc n) asked))

op_back : (op : RankedOp) → op_of (asked_of op) ≡ op
op_back (Put key value) = refl
op_back _ = refl

ops_from : (n : ℕ) (ops : List RankedOp) → map what (numbered n (map asked_of ops)) ≡ ops
ops_from n [] = refl
ops_from n (op ∷ ops) = ap (λ o. o ∷ map what (numbered (suc n) (map asked_of ops))) (op_back op) ∙ ap (λ l. op ∷ l) (ops_from (suc n) ops)

pub listed : (ops : List RankedOp) → AreListed worker what (numbered 0 (map asked_of ops)) ops
listed ops = record { places = places_from 0 (map asked_of ops); ops_are = ops_from 0 ops }

pub mixed : (asked : List MapOp) → IsPermutation (numbered 0 asked) (in_batch_order asked)
mixed asked = permutes asked

-- keys and values below 2^32 stay so
small_cons : (x : ℕ) (xs : List ℕ) → x < 2 ^ 32 → AreSmall xs → AreSmall (x ∷ xs)
small_cons x xs less small zero = less
small_cons x xs less small (suc k) = small k

entry_cons : (e : Entry) (entries : List Entry) → e.key < 2 ^ 32 → e.val < 2 ^ 32 → AreSmallEntries entries → AreSmallEntries (e ∷ entries)
entry_cons e entries key val small = (small_cons e.key (map (λ e. e.key) entries) key small.0, small_cons e.val (map (λ e. e.val) entries) val small.1)

behind : (e : Entry) (entries : List Entry) → AreSmallEntries (e ∷ entries) → AreSmallEntries entries
behind e entries small = (λ k. small.0 (suc k), λ k. small.1 (suc k))

with_small : (key val : ℕ) (entries : List Entry) → key < 2 ^ 32 → val < 2 ^ 32 → AreSmallEntries entries → AreSmallEntries (with_entry key val entries)
with_small key val [] k v small = entry_cons (record { key = key; val = val }) [] k v small
with_small key val (e ∷ entries) k v small = step (nat_lt key e.key) (key == e.key) (with_small key val entries k v (behind e entries small)) where
  step : (t u : Bool) → AreSmallEntries (with_entry key val entries)
      → AreSmallEntries (if t then record { key = key; val = val } ∷ e ∷ entries else (if u then record { key = key; val = val } ∷ entries else e ∷ with_entry key val entries))
  step true u rest = entry_cons (record { key = key; val = val }) (e ∷ entries) k v small
  step false true rest = entry_cons (record { key = key; val = val }) entries k v (behind e entries small)
  step false false rest = entry_cons e (with_entry key val entries) (small.0 0) (small.1 0) rest

without_small : (key : ℕ) (entries : List Entry) → AreSmallEntries entries → AreSmallEntries (without_entry key entries)
without_small key [] small = small
without_small key (e ∷ entries) small = step (key == e.key) (without_small key entries (behind e entries small)) where
  step : (t : Bool) → AreSmallEntries (without_entry key entries) → AreSmallEntries (if t then entries else e ∷ without_entry key entries)
  step true rest = behind e entries small
  step false rest = entry_cons e (without_entry key entries) (small.0 0) (small.1 0) rest

value_small : (key : ℕ) (entries : List Entry) → AreSmallEntries entries → IsSmall (value_at key entries)
value_small key [] small = tt
value_small key (e ∷ entries) small = step (key == e.key) (value_small key entries (behind e entries small)) where
  step : (t : Bool) → IsSmall (value_at key entries) → IsSmall (if t then Some e.val else value_at key entries)
  step true rest = small.1 0
  step false rest = rest

key_small : (index : ℕ) (entries : List Entry) → AreSmallEntries entries → IsSmall (key_at index entries)
key_small index [] small = tt
key_small zero (e ∷ entries) small = small.0 0
key_small (suc index) (e ∷ entries) small = key_small index entries (behind e entries small)

number_small : (o : Option ℕ) → IsSmall o → IsSmall (number_in (number_or_empty o))
number_small o small = subst IsSmall (sym (number_back o)) small

after_small : (entries : List Entry) (asked : MapOp) → AreSmallEntries entries → IsSmallOp asked → AreSmallEntries (after entries asked)
after_small entries (op.Put key val) small own = with_small key val entries own.0 own.1 small
after_small entries (op.Del key) small own = without_small key entries small
after_small entries _ small own = small

reply_small : (entries : List Entry) (asked : MapOp) → AreSmallEntries entries → IsSmallReply asked (reply_to entries asked)
reply_small entries (op.Put key val) small = number_small (value_at key entries) (value_small key entries small)
reply_small entries (op.Del key) small = number_small (value_at key entries) (value_small key entries small)
reply_small entries (op.Get key) small = number_small (value_at key entries) (value_small key entries small)
reply_small entries (op.Rank key) small = tt
reply_small entries (op.Nth index) small = number_small (key_at index entries) (key_small index entries small)

all_after_small : (entries : List Entry) (calls : List MapCall) → AreSmallEntries entries → AllByRecursion (λ (c : MapCall). IsSmallOp c.what) calls
    → AreSmallEntries (map_after entries (operations calls))
all_after_small entries [] small all = small
all_after_small entries (call ∷ calls) small all = all_after_small (after entries call.what) calls (after_small entries call.what small all.0) all.1

all_replies_small : (entries : List Entry) (calls : List MapCall) → AreSmallEntries entries → AllByRecursion (λ (c : MapCall). IsSmallOp c.what) calls
    → AreSmallReplies calls (map_replies entries (operations calls))
all_replies_small entries [] small all = tt
all_replies_small entries (call ∷ calls) small all =
    (reply_small entries call.what small, all_replies_small (after entries call.what) calls (after_small entries call.what small all.0) all.1)

numbered_small : (n : ℕ) (asked : List MapOp) → AllByRecursion IsSmallOp asked → AllByRecursion (λ (c : MapCall). IsSmallOp c.what) (numbered n asked)
numbered_small n [] all = tt
numbered_small n (op ∷ asked) all = (all.0, numbered_small (suc n) asked all.1)

in_order_small : (asked : List MapOp) → AllByRecursion IsSmallOp asked → AllByRecursion (λ (c : MapCall). IsSmallOp c.what) (in_batch_order asked)
in_order_small asked all = every_shuffled (λ (c : MapCall). IsSmallOp c.what) (numbered 0 asked) (in_batch_order asked) (mixed asked) (numbered_small 0 asked all)

pub entries_small : (entries : List Entry) (asked : List MapOp) → AreSmallEntries entries → AllByRecursion IsSmallOp asked
    → AreSmallEntries (map_after entries (operations (in_batch_order asked)))
entries_small entries asked small all = all_after_small entries (in_batch_order asked) small (in_order_small asked all)

pub replies_small : (entries : List Entry) (asked : List MapOp) → AreSmallEntries entries → AllByRecursion IsSmallOp asked
    → AreSmallReplies (in_batch_order asked) (map_replies entries (operations (in_batch_order asked)))
replies_small entries asked small all = all_replies_small entries (in_batch_order asked) small (in_order_small asked all)
