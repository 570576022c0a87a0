-- A batch of the set, as operations of its serial object.
use Rattle.std.proofs.Common.{◌≡◌, ℕ, suc, Bool, true, false, List, [], ◌∷◌, map, length, refl, sym, ap, subst, ◌∙◌, add-one}
use Rattle.std.specs.Prelude.{IsPermutation}
use Rattle.std.specs.List.{range_with_len}
use Rattle.std.proofs.lemmas.List.{length-map}
use Rattle.std.proofs.lemmas.List.Sorted.{IsPermutation-filter_both}
use Rattle.bulk_calls.specs.Views.{BulkView, CallView}
use Rattle.bulk_calls.specs.Bulk.{bulk_after, bulk_replies, operations}
use Rattle.bulk_calls.specs.Batches.{numbered, is_of_kind, in_batch_order}
use Rattle.shared_calls.specs.Serial.{replies_to_all, after_all, IsServedInSomeOrder}
use Rattle.shared_calls.proofs.Lists.{replies_length}
use Rattle.shared_collections.specs.Bulks.{bulk_set, keys_after, bulk_reply}
use Rattle.reply_order.specs.Order.{AreInOrder}
use Rattle.shared_collections.proofs.Serving.{AreListed, places_mixed, in_some_order}

abbrev pub worker : CallView → ℕ
worker call = call.worker

abbrev pub what : CallView → BulkView
what call = call.what

-- the replies to operations, and the keys after them
replies_are : (set : List ℕ) (ops : List BulkView) → bulk_replies set ops ≡ replies_to_all bulk_set set ops
replies_are set [] = refl
replies_are set (op ∷ ops) = ap (λ l. bulk_reply set op ∷ l) (replies_are (keys_after set op) ops)

keys_are : (set : List ℕ) (ops : List BulkView) → bulk_after set ops ≡ after_all bulk_set set ops
keys_are set [] = refl
keys_are set (op ∷ ops) = keys_are (keys_after set op) ops

-- there are as many replies as calls
pub as_many : (set : List ℕ) (calls : List CallView) → length (bulk_replies set (operations calls)) ≡ length calls
as_many set calls =
    ap length (replies_are set (operations calls)) ∙ (replies_length bulk_set set (operations calls) ∙ length-map calls what)

-- the calls as they are numbered, and in batch order
places_from : (n : ℕ) (ops : List BulkView) → map worker (numbered n ops) ≡ range_with_len n (length (numbered n ops))
places_from n [] = refl
places_from n (op ∷ ops) = ap (λ l. n ∷ l) (rw add-one (places_from (suc n) ops))

ops_from : (n : ℕ) (ops : List BulkView) → map what (numbered n ops) ≡ ops
ops_from n [] = refl
ops_from n (op ∷ ops) = ap (λ l. op ∷ l) (ops_from (suc n) ops)

listed : (ops : List BulkView) → AreListed worker what (numbered 0 ops) ops
listed ops = record { places = places_from 0 ops; ops_are = ops_from 0 ops }

mixed : (ops : List BulkView) → IsPermutation (numbered 0 ops) (in_batch_order ops)
mixed ops = IsPermutation-filter_both (is_of_kind true) (is_of_kind false) (λ call. refl) (numbered 0 ops)

-- the places of a batch's calls are those of its operations, mixed
pub places_are : (ops : List BulkView) (calls : List CallView) → calls ≡ in_batch_order ops
    → IsPermutation (range_with_len 0 (length (map worker calls))) (map worker calls)
places_are ops calls is =
    subst (λ xs. IsPermutation (range_with_len 0 (length (map worker xs))) (map worker xs)) (sym is) (places_mixed worker what (numbered 0 ops) (in_batch_order ops) ops (listed ops) (mixed ops))

-- replies to the calls one after another, in the order of the operations
pub ordered : (set : List ℕ) (ops : List BulkView) (calls : List CallView) (replies own : List (List Bool)) → calls ≡ in_batch_order ops
    → replies ≡ bulk_replies set (operations calls) → AreInOrder (map worker calls) replies own
    → IsServedInSomeOrder bulk_set set ops own (bulk_after set (operations calls))
ordered set ops calls replies own is are order =
    in_some_order worker what bulk_set set (bulk_after set (operations calls)) (numbered 0 ops) calls ops replies own
    (listed ops) (subst (IsPermutation (numbered 0 ops)) (sym is) (mixed ops))
    (are ∙ replies_are set (operations calls)) (keys_are set (operations calls)) order
