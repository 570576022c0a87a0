-- Replies put at the places of the calls of one number.
use Rattle.std.proofs.Common.{ℕ, ◌≡◌, ◌==◌, ◌+◌, ◌≤◌, Bool, true, false, cond, if◌then◌else◌, List, [], ◌∷◌, ◌++◌, length, drop, slice_index_or, slice_set, refl, ap, sym, ◌∙◌, arith, append_assoc, length-append}
use Rattle.std.specs.List.{AllByRecursion}
use Rattle.std.proofs.lemmas.List.{drop_all}
use Rattle.std.proofs.lemmas.Bool.Decides.{nat_tests}
use Rattle.seq_objects.specs.declared.call.Call.{Call}
use Rattle.seq_objects.specs.declared.reply.Reply.{Reply}
use Rattle.seq_objects.specs.Objects.{number_of}
use Rattle.seq_objects.specs.Batches.{calls_at}
use Rattle.seq_objects.specs.Stores.{replies_at}
use Rattle.object_rows.specs.declared.dealt.Dealt.{Dealt}
use Rattle.object_rows.specs.Code.Dealt.{dealt_at, put_at}
use Rattle.object_rows.specs.Code.Replies.{with_own}

pub length_own : (number : ℕ) (calls : List Call) (replies own : List Reply) → length replies ≡ length calls → length (with_own number calls replies own) ≡ length calls
length_own number [] replies own count = count
length_own number (call ∷ calls) [] own count = absurd (omega (arith, count))
length_own number (call ∷ calls) (reply ∷ replies) own count =
    step (number_of call.op == number) (length_own number calls replies (drop 1 own) (omega (arith, count))) (length_own number calls replies own (omega (arith, count))) where
      step : (b : Bool) → length (with_own number calls replies (drop 1 own)) ≡ length calls → length (with_own number calls replies own) ≡ length calls
          → length (if b then slice_index_or own 0 reply ∷ with_own number calls replies (drop 1 own) else reply ∷ with_own number calls replies own) ≡ length (call ∷ calls)
      step true rest rest' = omega (arith, rest)
      step false rest rest' = omega (arith, rest')

-- the number's calls have the replies that were put there
pub own_put : (number : ℕ) (calls : List Call) (replies own : List Reply) → length replies ≡ length calls → length own ≡ length (calls_at number calls)
    → replies_at number calls (with_own number calls replies own) ≡ own
own_put number [] replies [] count many = refl
own_put number [] replies (o ∷ own) count many = absurd (omega (arith, many))
own_put number (call ∷ calls) [] own count many = absurd (omega (arith, count))
own_put number (call ∷ calls) (reply ∷ replies) own count many = step (number_of call.op == number) refl (λ own many. own_put number calls replies own (omega (arith, count)) many) own many where
  step : (b : Bool) → (number_of call.op == number) ≡ b
      → ((own : List Reply) → length own ≡ length (calls_at number calls) → replies_at number calls (with_own number calls replies own) ≡ own)
      → (own : List Reply) → length own ≡ length (cond b (call ∷ calls_at number calls) (calls_at number calls))
      → replies_at number (call ∷ calls) (cond b (slice_index_or own 0 reply ∷ with_own number calls replies (drop 1 own)) (reply ∷ with_own number calls replies own)) ≡ own
  step true is rest [] many = absurd (omega (arith, many))
  step true is rest (o ∷ own) many = rw is (ap (λ l. o ∷ l) (rest own (omega (arith, many))))
  step false is rest own many = rw is (rest own many)

-- where all calls are of the number, it has all replies
pub replies_of_one : (number : ℕ) (calls : List Call) (replies : List Reply) → AllByRecursion (λ call. number_of call.op ≡ number) calls → length replies ≡ length calls
    → replies_at number calls replies ≡ replies
replies_of_one number [] [] each count = refl
replies_of_one number [] (reply ∷ replies) each count = absurd (omega (arith, count))
replies_of_one number (call ∷ calls) [] each count = absurd (omega (arith, count))
replies_of_one number (call ∷ calls) (reply ∷ replies) each count = step (number_of call.op == number) refl each.0 (replies_of_one number calls replies each.1 (omega (arith, count))) where
  step : (b : Bool) → (number_of call.op == number) ≡ b → number_of call.op ≡ number → replies_at number calls replies ≡ replies
      → cond b (reply ∷ replies_at number calls replies) (replies_at number calls replies) ≡ reply ∷ replies
  step true is same rest = ap (λ l. reply ∷ l) rest
  step false is same rest = absurd (grind (arith, nat_tests))

-- all other calls keep theirs
pub others_kept : (number other : ℕ) (calls : List Call) (replies own : List Reply) → (other == number) ≡ false
    → replies_at other calls (with_own number calls replies own) ≡ replies_at other calls replies
others_kept number other [] replies own differ = refl
others_kept number other (call ∷ calls) [] own differ = refl
others_kept number other (call ∷ calls) (reply ∷ replies) own differ = step (number_of call.op == number) (number_of call.op == other) refl refl (λ own. others_kept number other calls replies own differ) where
  step : (b d : Bool) → (number_of call.op == number) ≡ b → (number_of call.op == other) ≡ d
      → ((own : List Reply) → replies_at other calls (with_own number calls replies own) ≡ replies_at other calls replies)
      → replies_at other (call ∷ calls) (cond b (slice_index_or own 0 reply ∷ with_own number calls replies (drop 1 own)) (reply ∷ with_own number calls replies own))
      ≡ cond d (reply ∷ replies_at other calls replies) (replies_at other calls replies)
  step true true is is' rest = absurd (grind (arith, nat_tests))
  step true false is is' rest = rw is' (rest (drop 1 own))
  step false true is is' rest = rw is' (ap (λ l. reply ∷ l) (rest own))
  step false false is is' rest = rw is' (rest own)

-- the replies put at the places of the calls that are dealt to a number
set_there : (front later : List Reply) (was now : Reply) → slice_set (front ++ was ∷ later) (length front) now ≡ (front ++ now ∷ []) ++ later
set_there [] later was now = refl
set_there (reply ∷ front) later was now = ap (λ l. reply ∷ l) (set_there front later was now)

put_from : (number first : ℕ) (calls : List Call) (front replies own : List Reply) → first ≡ length front → length replies ≡ length calls → length own ≡ length (calls_at number calls)
    → put_at (dealt_at number first calls) own (front ++ replies) ≡ front ++ with_own number calls replies own
put_from number first [] front replies own at count many = refl
put_from number first (call ∷ calls) front [] own at count many = absurd (omega (arith, count))
put_from number first (call ∷ calls) front (reply ∷ replies) own at count many =
    step (number_of call.op == number) own many (λ now own many. put_from number (first + 1) calls (front ++ now ∷ []) replies own (let long = length-append front (now ∷ []) in omega (arith, at, long)) (omega (arith, count)) many) where
      step : (b : Bool) (own : List Reply) → length own ≡ length (cond b (call ∷ calls_at number calls) (calls_at number calls))
          → ((now : Reply) (own : List Reply) → length own ≡ length (calls_at number calls) → put_at (dealt_at number (first + 1) calls) own ((front ++ now ∷ []) ++ replies) ≡ (front ++ now ∷ []) ++ with_own number calls replies own)
          → put_at (cond b (record { place = first; call = call } ∷ dealt_at number (first + 1) calls) (dealt_at number (first + 1) calls)) own (front ++ reply ∷ replies)
          ≡ front ++ cond b (slice_index_or own 0 reply ∷ with_own number calls replies (drop 1 own)) (reply ∷ with_own number calls replies own)
      step true [] many rest = absurd (omega (arith, many))
      step true (now ∷ own) many rest =
          ap (λ l. put_at (dealt_at number (first + 1) calls) own l) (ap (λ n. slice_set (front ++ reply ∷ replies) n now) at ∙ set_there front replies reply now)
          ∙ rest now own (omega (arith, many)) ∙ append_assoc front (now ∷ []) (with_own number calls replies own)
      step false own many rest =
          ap (λ l. put_at (dealt_at number (first + 1) calls) own l) (sym (append_assoc front (reply ∷ []) replies))
          ∙ rest reply own many ∙ append_assoc front (reply ∷ []) (with_own number calls replies own)

pub put_own : (number : ℕ) (calls : List Call) (replies own : List Reply) → length replies ≡ length calls → length own ≡ length (calls_at number calls)
    → put_at (dealt_at number 0 calls) own replies ≡ with_own number calls replies own
put_own number calls replies own count many = put_from number 0 calls [] replies own refl count many

-- one more reply
pub put_step : (first index : ℕ) (dealt : List Dealt) (one : Dealt) (own : List Reply) (reply : Reply) (replies : List Reply)
    → drop (first + index) dealt ≡ one ∷ drop (first + index + 1) dealt → drop index own ≡ reply ∷ drop (index + 1) own
    → put_at (drop (first + (index + 1)) dealt) (drop (index + 1) own) (slice_set replies one.place reply) ≡ put_at (drop (first + index) dealt) (drop index own) replies
put_step first index dealt one own reply replies dealt_are own_are =
    let next : first + (index + 1) ≡ first + index + 1 = omega arith in
    rw (dealt_are, own_are, next) refl

pub put_end : (index : ℕ) (dealt : List Dealt) (own replies : List Reply) → length own ≤ index → put_at dealt (drop index own) replies ≡ replies
put_end index dealt own replies end = ap (λ l. put_at dealt l replies) (drop_all index own end) ∙ none dealt where
  none : (dealt : List Dealt) → put_at dealt [] replies ≡ replies
  none [] = refl
  none (one ∷ dealt) = refl
