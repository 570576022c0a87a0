-- A whole batch: served stripes are those of the queue that serves its calls one after another.
use Rattle.std.proofs.Common.{◌≡◌, ℕ, ◌+◌, ◌-◌, ◌/◌, ◌%◌, ◌<◌, ◌≤◌, min, List, [], ◌∷◌, ◌++◌, append_assoc, length, map, take, drop, get_or, replicate, None, ap, sym, ◌∙◌, arith, length-append, length-drop}
use Rattle.std.specs.declared.alloc.Global.{Global}
use Rattle.std.specs.declared.collections.VecDeque.{VecDeque}
use Rattle.std.proofs.lemmas.List.{length-map, get_or-map, length-take-le}
use Rattle.std.proofs.lemmas.List.FromFn.{fill_by_all, map-range_with_len_more}
use Rattle.seq_objects.specs.declared.reply.Reply.{Reply}
use Rattle.seq_objects.specs.declared.reply.Reply.TheVariants as reply
use Rattle.seq_objects.specs.Pieces.{AllMeet}
use Rattle.batched_queue.specs.declared.call.FifoCall.{FifoCall}
use Rattle.batched_queue.specs.declared.piece.Piece.{Piece}
use Rattle.batched_queue.specs.declared.piece.Served.{Served}
use Rattle.batched_queue.specs.Code.Pieces.{Meets, IsCut, with_outs}
use Rattle.batched_queue.specs.Fifo.{fifo_after, fifo_replies, operations, numbers_put}
use Rattle.batched_queue.specs.Code.Stripes.{lists, items_of, every, stripe, count_in, QueueInvariant}
use Rattle.batched_queue.specs.Code.Replies.{HaveTaken, taken_item, number_replies, batch_replies}
use Rattle.batched_queue.proofs.Shares.{place_round, stripe_length, stripe_append, stripe_drop, stripe_take, item_at, items_length, stripe_of_items, items_from}
use Rattle.batched_queue.proofs.Serial.{after_puts, after_gets, replies_to_puts, replies_to_gets, ArePutsAndGets}
use Rattle.batched_queue.proofs.Cutting.{IsServed, all_served}

-- a batch over a queue: its stripes before, its puts and gets, and what the pieces left and took
pub record IsService (stripes : List (List ℕ)) (first count : ℕ) (puts : List ℕ) (gets : ℕ) (left taken : List (List ℕ)) : Type 0 where
  pub kept : QueueInvariant stripes first count
  pub sixteen : length left ≡ 16
  pub served : (j : ℕ) → j < 16 → IsServed stripes first count puts (min gets (count + length puts)) left taken j

found_within : (stripes : List (List ℕ)) (first count gets : ℕ) (puts : List ℕ)
    → min gets (count + length puts) ≤ length (items_of stripes first count ++ puts)
found_within stripes first count gets puts =
    rw (length-append (items_of stripes first count) puts, items_length stripes first count) (omega arith)

-- stripe j with its puts is stripe j of all items
with_puts : (stripes : List (List ℕ)) (first count : ℕ) (puts : List ℕ) (j : ℕ) → QueueInvariant stripes first count → j < 16
    → get_or stripes j [] ++ stripe (first + count) j puts ≡ stripe first j (items_of stripes first count ++ puts)
with_puts stripes first count puts j kept low =
    ap (λ s. s ++ stripe (first + count) j puts) (sym (stripe_of_items stripes first count j low (kept.shares j low)))
    ∙ ap (λ n. stripe first j (items_of stripes first count) ++ stripe (first + n) j puts) (sym (items_length stripes first count))
    ∙ stripe_append first j (items_of stripes first count) puts low

-- what is left, and what was taken
left_stripe : (stripes : List (List ℕ)) (first count : ℕ) (puts : List ℕ) (gets : ℕ) (left taken : List (List ℕ))
    → IsService stripes first count puts gets left taken → (j : ℕ) → j < 16
    → get_or left j [] ≡ stripe ((first + min gets (count + length puts)) % 16) j (drop (min gets (count + length puts)) (items_of stripes first count ++ puts))
left_stripe stripes first count puts gets left taken service j low =
    let found = min gets (count + length puts) in
    let all = items_of stripes first count ++ puts in
    (service.served j low).items
    ∙ ap (drop (count_in first j found)) (with_puts stripes first count puts j service.kept low)
    ∙ stripe_drop first j found all low (found_within stripes first count gets puts)
    ∙ ap (λ place. every place (drop found all)) (sym (place_round j (first + found)))

taken_stripe : (stripes : List (List ℕ)) (first count : ℕ) (puts : List ℕ) (gets : ℕ) (left taken : List (List ℕ))
    → IsService stripes first count puts gets left taken → (j : ℕ) → j < 16
    → get_or taken j [] ≡ stripe first j (take (min gets (count + length puts)) (items_of stripes first count ++ puts))
taken_stripe stripes first count puts gets left taken service j low =
    let found = min gets (count + length puts) in
    let all = items_of stripes first count ++ puts in
    (service.served j low).taken
    ∙ ap (take (count_in first j found)) (with_puts stripes first count puts j service.kept low)
    ∙ stripe_take first j found all (found_within stripes first count gets puts)

left_length : (stripes : List (List ℕ)) (first count : ℕ) (puts : List ℕ) (gets : ℕ)
    → length (drop (min gets (count + length puts)) (items_of stripes first count ++ puts)) ≡ count + length puts - min gets (count + length puts)
left_length stripes first count puts gets =
    length-drop (min gets (count + length puts)) (items_of stripes first count ++ puts)
    ∙ ap (λ n. n - min gets (count + length puts)) (length-append (items_of stripes first count) puts ∙ ap (λ n. n + length puts) (items_length stripes first count))

-- the queue afterwards keeps its invariant
pub keeps : (stripes : List (List ℕ)) (first count : ℕ) (puts : List ℕ) (gets : ℕ) (left taken : List (List ℕ))
    → IsService stripes first count puts gets left taken
    → QueueInvariant left ((first + min gets (count + length puts)) % 16) (count + length puts - min gets (count + length puts))
keeps stripes first count puts gets left taken service =
    let found = min gets (count + length puts) in
    let rest = drop found (items_of stripes first count ++ puts) in
    record {
      sixteen = service.sixteen;
      low = omega arith;
      shares = λ j low.
          ap length (left_stripe stripes first count puts gets left taken service j low)
          ∙ stripe_length ((first + found) % 16) j rest
          ∙ ap (count_in ((first + found) % 16) j) (left_length stripes first count puts gets);
    }

-- of each stripe its share was taken
pub have_taken : (stripes : List (List ℕ)) (first count : ℕ) (puts : List ℕ) (gets : ℕ) (left taken : List (List ℕ))
    → IsService stripes first count puts gets left taken → HaveTaken taken first (min gets (count + length puts))
have_taken stripes first count puts gets left taken service j low =
    let found = min gets (count + length puts) in
    let all = items_of stripes first count ++ puts in
    ap length (taken_stripe stripes first count puts gets left taken service j low)
    ∙ stripe_length first j (take found all)
    ∙ ap (count_in first j) (length-take-le found all (found_within stripes first count gets puts))

-- the items afterwards
pub items_are : (stripes : List (List ℕ)) (first count : ℕ) (calls : List FifoCall) (left taken : List (List ℕ))
    → ArePutsAndGets (length calls) (operations calls)
    → IsService stripes first count (numbers_put (operations calls)) (length calls - length (numbers_put (operations calls))) left taken
    → items_of left ((first + min (length calls - length (numbers_put (operations calls))) (count + length (numbers_put (operations calls)))) % 16) (count + length (numbers_put (operations calls)) - min (length calls - length (numbers_put (operations calls))) (count + length (numbers_put (operations calls))))
    ≡ fifo_after (items_of stripes first count) (operations calls)
items_are stripes first count calls left taken order service =
    let puts = numbers_put (operations calls) in
    let gets = length calls - length puts in
    let items = items_of stripes first count in
    let found = min gets (count + length puts) in
    let rest = drop found (items ++ puts) in
    ap (λ n. items_of left ((first + found) % 16) n) (sym (left_length stripes first count puts gets))
    ∙ items_from left ((first + found) % 16) rest (left_stripe stripes first count puts gets left taken service)
    ∙ sym (ap (fifo_after items) order.is ∙ after_puts items puts (replicate gets None) ∙ after_gets gets (items ++ puts)
    ∙ ap (λ n. drop (min gets n) (items ++ puts)) (length-append items puts ∙ ap (λ n. n + length puts) (items_length stripes first count)))

taken_is : (stripes : List (List ℕ)) (first count : ℕ) (puts : List ℕ) (gets : ℕ) (left taken : List (List ℕ))
    → IsService stripes first count puts gets left taken → (i : ℕ)
    → taken_item taken first i ≡ get_or (take (min gets (count + length puts)) (items_of stripes first count ++ puts)) i 0
taken_is stripes first count puts gets left taken service i =
    let front = take (min gets (count + length puts)) (items_of stripes first count ++ puts) in
    ap (λ s. get_or s (i / 16) 0) (taken_stripe stripes first count puts gets left taken service ((first + i) % 16) (omega arith))
    ∙ item_at first i front

numbers_are : (stripes : List (List ℕ)) (first count : ℕ) (puts : List ℕ) (gets : ℕ) (left taken : List (List ℕ))
    → IsService stripes first count puts gets left taken
    → map (λ item. reply.Number item) (take (min gets (count + length puts)) (items_of stripes first count ++ puts)) ≡ number_replies taken first (min gets (count + length puts))
numbers_are stripes first count puts gets left taken service =
    let found = min gets (count + length puts) in
    let front = take found (items_of stripes first count ++ puts) in
    let long : length front ≡ found = length-take-le found (items_of stripes first count ++ puts) (found_within stripes first count gets puts) in
    fill_by_all (λ i. reply.Number (taken_item taken first i)) (map (λ item. reply.Number item) front) found reply.Unit (length-map front (λ item. reply.Number item) ∙ long)
    (λ k less. get_or-map (λ item. reply.Number item) front k 0 reply.Unit (rw long less) ∙ ap (λ item. reply.Number item) (sym (taken_is stripes first count puts gets left taken service k)))

-- the replies
pub replies_are : (stripes : List (List ℕ)) (first count : ℕ) (calls : List FifoCall) (left taken : List (List ℕ))
    → ArePutsAndGets (length calls) (operations calls)
    → IsService stripes first count (numbers_put (operations calls)) (length calls - length (numbers_put (operations calls))) left taken
    → batch_replies taken first (min (length calls - length (numbers_put (operations calls))) (count + length (numbers_put (operations calls)))) (length (numbers_put (operations calls))) (length calls - length (numbers_put (operations calls)))
    ≡ fifo_replies (items_of stripes first count) (operations calls)
replies_are stripes first count calls left taken order service =
    let puts = numbers_put (operations calls) in
    let gets = length calls - length puts in
    let items = items_of stripes first count in
    let found = min gets (count + length puts) in
    let total : length (items ++ puts) ≡ count + length puts = length-append items puts ∙ ap (λ n. n + length puts) (items_length stripes first count) in
    sym (ap (fifo_replies items) order.is ∙ replies_to_puts items puts (replicate gets None)
    ∙ ap (λ replies. replicate (length puts) reply.Unit ++ replies)
    (replies_to_gets gets (items ++ puts)
    ∙ ap (λ n. map (λ item. reply.Number item) (take (min gets n) (items ++ puts)) ++ replicate (gets - min gets n) reply.Empty) total
    ∙ ap (λ numbers. numbers ++ replicate (gets - found) reply.Empty) (numbers_are stripes first count puts gets left taken service)))

-- one reply more
pub one_reply_more : (taken : List (List ℕ)) (first i : ℕ) (before : List Reply)
    → (before ++ number_replies taken first i) ++ reply.Number (taken_item taken first i) ∷ [] ≡ before ++ number_replies taken first (i + 1)
one_reply_more taken first i before =
    append_assoc before (number_replies taken first i) (reply.Number (taken_item taken first i) ∷ [])
    ∙ ap (λ rs. before ++ rs) (sym (map-range_with_len_more (λ i. reply.Number (taken_item taken first i)) 0 i i (omega arith)))

-- the outcome of a batch that is served in pieces, where it puts `added` items and `found` of its gets find one
pub record ComesTo (stripes : List (List ℕ)) (first count : ℕ) (calls : List FifoCall) (added found : ℕ) (left took : List (List ℕ)) : Type 0 where
  pub keeps : QueueInvariant left ((first + found) % 16) (count + added - found)
  pub taken : HaveTaken took first found
  pub items : items_of left ((first + found) % 16) (count + added - found) ≡ fifo_after (items_of stripes first count) (operations calls)
  pub replies : batch_replies took first found added (length calls - added) ≡ fifo_replies (items_of stripes first count) (operations calls)

pub comes_to : (stripes : List (List ℕ)) (first count : ℕ) (calls : List FifoCall) (puts : List ℕ) (added found : ℕ) (rest left : List (VecDeque ℕ Global)) (pieces : List Piece) (outs : List Served) (taken : List (List ℕ))
    → QueueInvariant stripes first count → ArePutsAndGets (length calls) (operations calls)
    → puts ≡ numbers_put (operations calls) → added ≡ length puts → found ≡ min (length calls - added) (count + added)
    → IsCut stripes first count puts found (lists rest) pieces → AllMeet Meets pieces outs → length rest ≡ 16 → length left ≡ 16
    → lists left ≡ with_outs (λ out. out.items.items) (lists rest) outs → taken ≡ with_outs (λ out. out.taken.items) (replicate 16 []) outs
    → ComesTo stripes first count calls added found (lists left) taken
comes_to stripes first count calls puts added found rest left pieces outs taken kept order is_puts is_added is_found cut meet sixteen sixteen' is_left is_taken =
    let put = numbers_put (operations calls) in
    let gets = length calls - length put in
    let long : added ≡ length put = is_added ∙ ap length is_puts in
    let finds : found ≡ min gets (count + length put) = is_found ∙ ap (λ n. min (length calls - n) (count + n)) long in
    let service : IsService stripes first count put gets (lists left) taken = record {
      kept = kept;
      sixteen = length-map left (λ s. s.items) ∙ sixteen';
      served = λ j low. rw (← finds, is_left, is_taken) (all_served stripes first count put found (lists rest) pieces outs (rw is_puts at cut) meet (length-map rest (λ s. s.items) ∙ sixteen) j low);
    } in
    record {
      keeps = rw (long, finds) (keeps stripes first count put gets (lists left) taken service);
      taken = rw finds (have_taken stripes first count put gets (lists left) taken service);
      items = rw (long, finds) (items_are stripes first count calls (lists left) taken order service);
      replies = rw (long, finds) (replies_are stripes first count calls (lists left) taken order service);
    }
