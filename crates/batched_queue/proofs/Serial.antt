-- Puts, and then gets, on one list; and batches one after another.
use Rattle.std.proofs.Common.{◌≡◌, ℕ, zero, suc, ◌-◌, ◌≤◌, min, List, [], ◌∷◌, ◌++◌, length, map, take, drop, replicate, Option, Some, None, refl, ap, sym, ◌∙◌, arith, append_assoc, append-nil}
use Rattle.std.specs.List.{AllByRecursion}
use Rattle.seq_objects.specs.Pairs.{AllPairsByRecursion}
use Rattle.seq_objects.specs.declared.reply.Reply.TheVariants as reply
use Rattle.batched_queue.specs.declared.call.FifoCall.{FifoCall}
use Rattle.batched_queue.specs.Fifo.{fifo, fifo_after, fifo_replies, operations, numbers_put, numbers_got}
use Rattle.batched_queue.specs.Batches.{ComesFirst, after_batches, replies_to_batches, operations_of}

pub after_puts : (queue puts : List ℕ) (rest : List (Option ℕ)) → fifo_after queue (map (λ item. Some item) puts ++ rest) ≡ fifo_after (queue ++ puts) rest
after_puts queue [] rest = rw (append-nil queue) refl
after_puts queue (item ∷ puts) rest = after_puts (queue ++ item ∷ []) puts rest ∙ ap (λ q. fifo_after q rest) (append_assoc queue (item ∷ []) puts)

pub after_gets : (gets : ℕ) (queue : List ℕ) → fifo_after queue (replicate gets None) ≡ drop (min gets (length queue)) queue
after_gets zero queue = let e : min 0 (length queue) ≡ 0 = omega arith in rw e refl
after_gets (suc gets) [] =
    let e : min gets 0 ≡ 0 = omega arith in
    let e' : min (suc gets) 0 ≡ 0 = omega arith in
    rw e' (rw e at (after_gets gets []))
after_gets (suc gets) (item ∷ queue) =
    let e : min (suc gets) (suc (length queue)) ≡ suc (min gets (length queue)) = omega arith in
    rw e (after_gets gets queue)

pub replies_to_puts : (queue puts : List ℕ) (rest : List (Option ℕ))
    → fifo_replies queue (map (λ item. Some item) puts ++ rest) ≡ replicate (length puts) reply.Unit ++ fifo_replies (queue ++ puts) rest
replies_to_puts queue [] rest = rw (append-nil queue) refl
replies_to_puts queue (item ∷ puts) rest = ap (λ replies. reply.Unit ∷ replies) (replies_to_puts (queue ++ item ∷ []) puts rest ∙ ap (λ q. replicate (length puts) reply.Unit ++ fifo_replies q rest) (append_assoc queue (item ∷ []) puts))

pub replies_to_gets : (gets : ℕ) (queue : List ℕ)
    → fifo_replies queue (replicate gets None) ≡ map (λ item. reply.Number item) (take (min gets (length queue)) queue) ++ replicate (gets - min gets (length queue)) reply.Empty
replies_to_gets zero queue = let e : min 0 (length queue) ≡ 0 = omega arith in rw e refl
replies_to_gets (suc gets) [] =
    let e : min gets 0 ≡ 0 = omega arith in
    let e' : min (suc gets) 0 ≡ 0 = omega arith in
    let none : gets - 0 ≡ gets = omega arith in
    let none' : suc gets - 0 ≡ suc gets = omega arith in
    rw (e', none') (ap (λ rest. reply.Empty ∷ rest) (rw (e, none) at (replies_to_gets gets [])))
replies_to_gets (suc gets) (item ∷ queue) =
    let e : min (suc gets) (suc (length queue)) ≡ suc (min gets (length queue)) = omega arith in
    let e' : suc gets - suc (min gets (length queue)) ≡ gets - min gets (length queue) = omega arith in
    rw (e, e') (ap (λ rest. reply.Number item ∷ rest) (replies_to_gets gets queue))

-- in a batch there are puts, and then gets
abbrev InOrder : FifoCall → FifoCall → Type 0
InOrder first second = ComesFirst first.item first.worker second.item second.worker

abbrev IsBehindGet : ℕ → FifoCall → Type 0
IsBehindGet worker call = ComesFirst None worker call.item call.worker

all_gets : (worker : ℕ) (calls : List FifoCall) → AllByRecursion (IsBehindGet worker) calls
    → (operations calls ≡ replicate (length calls) None) × (numbers_put (operations calls) ≡ [])
all_gets worker [] all = (refl, refl)
all_gets worker (call ∷ calls) all = one call.item all.0 (all_gets worker calls all.1) where
  one : (item : Option ℕ) → ComesFirst None worker item call.worker
      → (operations calls ≡ replicate (length calls) None) × (numbers_put (operations calls) ≡ [])
      → (item ∷ operations calls ≡ None ∷ replicate (length calls) None) × (numbers_put (item ∷ operations calls) ≡ [])
  one None first rest = (ap (λ l. None ∷ l) rest.0, rest.1)
  one (Some item) first rest = absurd first

-- the operations of a batch are its puts, and then its gets
pub record ArePutsAndGets (n : ℕ) (asked : List (Option ℕ)) : Type 0 where
  pub is : asked ≡ map (λ item. Some item) (numbers_put asked) ++ replicate (n - length (numbers_put asked)) None
  pub few : length (numbers_put asked) ≤ n

pub puts_and_gets : (calls : List FifoCall) → AllPairsByRecursion InOrder calls → ArePutsAndGets (length calls) (operations calls)
puts_and_gets [] all = record { is = refl; few = omega arith }
puts_and_gets (call ∷ calls) all = one call.item all.0 (puts_and_gets calls all.1) where
  one : (item : Option ℕ) → AllByRecursion (λ later. ComesFirst item call.worker later.item later.worker) calls
      → ArePutsAndGets (length calls) (operations calls)
      → ArePutsAndGets (suc (length calls)) (item ∷ operations calls)
  one (Some item) first rest =
      let e : suc (length calls) - suc (length (numbers_put (operations calls))) ≡ length calls - length (numbers_put (operations calls)) = omega arith in
      record {
        is = rw e (ap (λ l. Some item ∷ l) rest.is);
        few = omega (arith, rest.few);
      }
  one None first _ =
      let rest = all_gets call.worker calls first in
      let e : suc (length calls) - 0 ≡ suc (length calls) = omega arith in
      record {
        is = rw (rest.1, e) (ap (λ l. None ∷ l) rest.0);
        few = rw rest.1 (omega arith);
      }

-- operations after others
pub after_append : (queue : List ℕ) (xs ys : List (Option ℕ)) → fifo_after queue (xs ++ ys) ≡ fifo_after (fifo_after queue xs) ys
after_append queue [] ys = refl
after_append queue (x ∷ xs) ys = after_append (fifo queue x).0 xs ys

pub replies_append : (queue : List ℕ) (xs ys : List (Option ℕ))
    → fifo_replies queue (xs ++ ys) ≡ fifo_replies queue xs ++ fifo_replies (fifo_after queue xs) ys
replies_append queue [] ys = refl
replies_append queue (x ∷ xs) ys = ap (λ rest. (fifo queue x).1 ∷ rest) (replies_append (fifo queue x).0 xs ys)

pub after_is : (queue : List ℕ) (batches : List (List FifoCall)) → after_batches queue batches ≡ fifo_after queue (operations_of batches)
after_is queue [] = refl
after_is queue (calls ∷ batches) = after_is (fifo_after queue (operations calls)) batches ∙ sym (after_append queue (operations calls) (operations_of batches))

pub replies_are : (queue : List ℕ) (batches : List (List FifoCall)) → replies_to_batches queue batches ≡ fifo_replies queue (operations_of batches)
replies_are queue [] = refl
replies_are queue (calls ∷ batches) =
    ap (λ rest. fifo_replies queue (operations calls) ++ rest) (replies_are (fifo_after queue (operations calls)) batches)
    ∙ sym (replies_append queue (operations calls) (operations_of batches))

-- no number is lost, and the numbers leave in the order in which they came
pub got_and_left : (queue : List ℕ) (xs : List (Option ℕ)) → numbers_got (fifo_replies queue xs) ++ fifo_after queue xs ≡ queue ++ numbers_put xs
got_and_left queue [] = sym (append-nil queue)
got_and_left queue (Some item ∷ xs) = got_and_left (queue ++ item ∷ []) xs ∙ append_assoc queue (item ∷ []) (numbers_put xs)
got_and_left [] (None ∷ xs) = got_and_left [] xs
got_and_left (item ∷ queue) (None ∷ xs) = ap (λ l. item ∷ l) (got_and_left queue xs)
