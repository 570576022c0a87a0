-- A batch of the queue, as operations of its serial object.
use Rattle.std.proofs.Common.{◌≡◌, ℕ, zero, suc, ◌<◌, ◌^◌, true, false, List, [], ◌∷◌, ◌++◌, map, length, Option, Some, None, refl, sym, ap, ◌∙◌, lit<, add-one, append-nil, append_assoc}
use Rattle.std.specs.Prelude.{IsPermutation}
use Rattle.std.specs.List.{AllByRecursion, range_with_len}
use Rattle.std.proofs.lemmas.List.{length-map}
use Rattle.std.proofs.lemmas.List.Sorted.{IsPermutation-filter_both}
use Rattle.batched_queue.specs.declared.call.FifoCall.{FifoCall}
use Rattle.batched_queue.specs.Fifo.{fifo_after, fifo_replies, operations}
use Rattle.batched_queue.specs.Batches.{numbered, is_of_kind, in_batch_order}
use Rattle.shared_calls.specs.declared.view.Entry.{Entry}
use Rattle.shared_calls.specs.Serial.{replies_to_all, after_all}
use Rattle.shared_calls.specs.Logs.{IsSerial, state_after}
use Rattle.shared_calls.specs.Callers.{IsServed}
use Rattle.shared_calls.proofs.Batches.{every_shuffled}
use Rattle.shared_calls.proofs.Lists.{replies_length}
use Rattle.shared_collections.specs.declared.fifo.FifoOp.{FifoOp}
use Rattle.shared_collections.specs.declared.fifo.FifoOp.TheVariants.{Put, Get}
use Rattle.shared_collections.specs.declared.fifo.FifoReply.{FifoReply}
use Rattle.shared_collections.specs.declared.fifo.FifoReply.TheVariants.{Done, Got}
use Rattle.shared_collections.specs.Fifos.{fifo, fifo_reply, items_put, items_got}
use Rattle.shared_collections.specs.Code.Fifos.{item_in, op_of, own_reply}
use Rattle.shared_collections.specs.Code.Numbers.{AreSmall, IsSmall, number_in}
use Rattle.shared_collections.proofs.Replies.{served_reply}
use Rattle.shared_collections.proofs.Serving.{AreListed}

abbrev pub worker : FifoCall → ℕ
worker call = call.worker

abbrev pub what : FifoCall → FifoOp
what call = op_of call.item

-- the replies to the items asked, and the items after them
replies_asked : (items : List ℕ) (asked : List (Option ℕ)) → map own_reply (fifo_replies items asked) ≡ replies_to_all fifo items (map op_of asked)
replies_asked items [] = refl
replies_asked items (Some item ∷ asked) = ap (λ l. Done ∷ l) (replies_asked (items ++ item ∷ []) asked)
replies_asked [] (None ∷ asked) = ap (λ l. Got None ∷ l) (replies_asked [] asked)
replies_asked (oldest ∷ items) (None ∷ asked) = ap (λ l. Got (Some oldest) ∷ l) (replies_asked items asked)

items_asked : (items : List ℕ) (asked : List (Option ℕ)) → fifo_after items asked ≡ after_all fifo items (map op_of asked)
items_asked items [] = refl
items_asked items (Some item ∷ asked) = items_asked (items ++ item ∷ []) asked
items_asked [] (None ∷ asked) = items_asked [] asked
items_asked (oldest ∷ items) (None ∷ asked) = items_asked items asked

whats : (calls : List FifoCall) → map op_of (operations calls) ≡ map what calls
whats [] = refl
whats (call ∷ calls) = ap (λ l. what call ∷ l) (whats calls)

-- the same of calls
pub replies_are : (items : List ℕ) (calls : List FifoCall) → map own_reply (fifo_replies items (operations calls)) ≡ replies_to_all fifo items (map what calls)
replies_are items calls = replies_asked items (operations calls) ∙ ap (replies_to_all fifo items) (whats calls)

pub items_are : (items : List ℕ) (calls : List FifoCall) → fifo_after items (operations calls) ≡ after_all fifo items (map what calls)
items_are items calls = items_asked items (operations calls) ∙ ap (after_all fifo items) (whats calls)

-- the calls as they are numbered, and in batch order
places_from : (n : ℕ) (asked : List (Option ℕ)) → map worker (numbered n asked) ≡ range_with_len n (length (numbered n asked))
places_from n [] = refl
places_from n (item ∷ asked) = ap (λ l. n ∷ l) (rw add-one (places_from (suc n) asked))

ops_from : (n : ℕ) (ops : List FifoOp) → map what (numbered n (map item_in ops)) ≡ ops
ops_from n [] = refl
ops_from n (Put item ∷ ops) = ap (λ l. Put item ∷ l) (ops_from (suc n) ops)
ops_from n (Get ∷ ops) = ap (λ l. Get ∷ l) (ops_from (suc n) ops)

pub listed : (ops : List FifoOp) → AreListed worker what (numbered 0 (map item_in ops)) ops
listed ops = record { places = places_from 0 (map item_in ops); ops_are = ops_from 0 ops }

pub mixed : (asked : List (Option ℕ)) → IsPermutation (numbered 0 asked) (in_batch_order asked)
mixed asked = IsPermutation-filter_both (is_of_kind true) (is_of_kind false) (λ call. refl) (numbered 0 asked)

-- numbers below 2^32 stay so
put_fits : (items : List ℕ) (item : ℕ) → AreSmall items → item < 2 ^ 32 → AreSmall (items ++ item ∷ [])
put_fits [] item fit less zero = less
put_fits [] item fit less (suc k) = lit< tt
put_fits (x ∷ items) item fit less zero = fit 0
put_fits (x ∷ items) item fit less (suc k) = put_fits items item (λ j. fit (suc j)) less k

items_asked_fit : (items : List ℕ) (asked : List (Option ℕ)) → AreSmall items → AllByRecursion IsSmall asked → AreSmall (fifo_after items asked)
items_asked_fit items [] fit all = fit
items_asked_fit items (Some item ∷ asked) fit all = items_asked_fit (items ++ item ∷ []) asked (put_fits items item fit all.0) all.1
items_asked_fit [] (None ∷ asked) fit all = items_asked_fit [] asked fit all.1
items_asked_fit (oldest ∷ items) (None ∷ asked) fit all = items_asked_fit items asked (λ k. fit (suc k)) all.1

replies_asked_fit : (items : List ℕ) (asked : List (Option ℕ)) → AreSmall items → AllByRecursion IsSmall asked → AllByRecursion (λ reply. IsSmall (number_in reply)) (fifo_replies items asked)
replies_asked_fit items [] fit all = tt
replies_asked_fit items (Some item ∷ asked) fit all = (tt, replies_asked_fit (items ++ item ∷ []) asked (put_fits items item fit all.0) all.1)
replies_asked_fit [] (None ∷ asked) fit all = (tt, replies_asked_fit [] asked fit all.1)
replies_asked_fit (oldest ∷ items) (None ∷ asked) fit all = (fit 0, replies_asked_fit items asked (λ k. fit (suc k)) all.1)

numbered_fit : (n : ℕ) (asked : List (Option ℕ)) → AllByRecursion IsSmall asked → AllByRecursion (λ (c : FifoCall). IsSmall c.item) (numbered n asked)
numbered_fit n [] all = tt
numbered_fit n (item ∷ asked) all = (all.0, numbered_fit (suc n) asked all.1)

operations_fit : (calls : List FifoCall) → AllByRecursion (λ (c : FifoCall). IsSmall c.item) calls → AllByRecursion IsSmall (operations calls)
operations_fit [] all = tt
operations_fit (call ∷ calls) all = (all.0, operations_fit calls all.1)

in_order_fit : (asked : List (Option ℕ)) → AllByRecursion IsSmall asked → AllByRecursion IsSmall (operations (in_batch_order asked))
in_order_fit asked all =
    operations_fit (in_batch_order asked) (every_shuffled (λ (c : FifoCall). IsSmall c.item) (numbered 0 asked) (in_batch_order asked) (mixed asked) (numbered_fit 0 asked all))

pub items_fit : (items : List ℕ) (asked : List (Option ℕ)) → AreSmall items → AllByRecursion IsSmall asked → AreSmall (fifo_after items (operations (in_batch_order asked)))
items_fit items asked fit all = items_asked_fit items (operations (in_batch_order asked)) fit (in_order_fit asked all)

pub replies_fit : (items : List ℕ) (asked : List (Option ℕ)) → AreSmall items → AllByRecursion IsSmall asked
    → AllByRecursion (λ reply. IsSmall (number_in reply)) (fifo_replies items (operations (in_batch_order asked)))
replies_fit items asked fit all = replies_asked_fit items (operations (in_batch_order asked)) fit (in_order_fit asked all)

-- what a call of each kind is answered
pub put_is_done : (n : ℕ) (made seen : List (Entry FifoOp FifoReply)) (item : ℕ) (reply : FifoReply) (made_now seen_now : List (Entry FifoOp FifoReply))
    → IsServed fifo n made seen (Put item) reply made_now seen_now → reply ≡ Done
put_is_done n made seen item reply made_now seen_now served = (served_reply fifo n made seen (Put item) reply made_now seen_now served).1

pub get_is_not_done : (n : ℕ) (made seen : List (Entry FifoOp FifoReply)) (made_now seen_now : List (Entry FifoOp FifoReply))
    → IsServed fifo n made seen Get Done made_now seen_now → ⊥
get_is_not_done n made seen made_now seen_now served = let from = served_reply fifo n made seen Get Done made_now seen_now served in never from.0 from.1 where
  never : (items : List ℕ) → Done ≡ fifo_reply items Get → ⊥
  never [] is = cc
  never (oldest ∷ items) is = cc

-- there are as many replies as calls
pub as_many : (items : List ℕ) (calls : List FifoCall) → length (map own_reply (fifo_replies items (operations calls))) ≡ length (map worker calls)
as_many items calls = ap length (replies_are items calls) ∙ (replies_length fifo items (map what calls) ∙ (length-map calls what ∙ sym (length-map calls worker)))

-- the items got, followed by those left, are those of the queue, followed by those put
got_and_left : (items : List ℕ) (ops : List FifoOp) → items_got (replies_to_all fifo items ops) ++ after_all fifo items ops ≡ items ++ items_put ops
got_and_left items [] = sym (append-nil items)
got_and_left items (Put item ∷ ops) = got_and_left (items ++ item ∷ []) ops ∙ append_assoc items (item ∷ []) (items_put ops)
got_and_left [] (Get ∷ ops) = got_and_left [] ops
got_and_left (oldest ∷ items) (Get ∷ ops) = ap (λ l. oldest ∷ l) (got_and_left items ops)

pub leave_in_order : (log : List (Entry FifoOp FifoReply)) → IsSerial fifo log → items_got (map (λ e. e.reply) log) ++ state_after fifo log ≡ items_put (map (λ e. e.op) log)
leave_in_order log serial = ap (λ l. items_got l ++ state_after fifo log) serial ∙ got_and_left [] (map (λ e. e.op) log)
