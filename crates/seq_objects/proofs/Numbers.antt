-- The objects of each number serve their own calls.
use Rattle.std.proofs.Common.{ℕ, ◌≡◌, ◌+◌, ◌==◌, ◌<◌, Bool, true, false, cond, List, [], ◌∷◌, length, refl, ap, ◌∙◌, arith}
use Rattle.std.specs.List.{AllByRecursion}
use Rattle.std.proofs.lemmas.Bool.Decides.{nat_tests}
use Rattle.seq_objects.specs.declared.op.Op.{Op}
use Rattle.seq_objects.specs.declared.call.Call.{Call}
use Rattle.seq_objects.specs.declared.reply.Reply.{Reply}
use Rattle.seq_objects.specs.Objects.{opening, after, reply_to, number_of}
use Rattle.seq_objects.specs.Batches.{calls_at}
use Rattle.seq_objects.specs.Serial.{after_all, replies_to_all}
use Rattle.seq_objects.specs.Stores.{Store, opening_store, store_after, store_reply, store_after_all, store_replies, replies_at}

pub same_number : (m n : ℕ) → (m == n) ≡ true → m ≡ n
same_number m n is = grind (arith, nat_tests)

-- the calls of a number are of this number
pub are_at : (number : ℕ) (calls : List Call) → AllByRecursion (λ call. number_of call.op ≡ number) (calls_at number calls)
are_at number [] = tt
are_at number (call ∷ calls) = step (number_of call.op == number) refl (are_at number calls) where
  step : (b : Bool) → (number_of call.op == number) ≡ b → AllByRecursion (λ call. number_of call.op ≡ number) (calls_at number calls)
      → AllByRecursion (λ call. number_of call.op ≡ number) (cond b (call ∷ calls_at number calls) (calls_at number calls))
  step true is rest = (same_number (number_of call.op) number is, rest)
  step false is rest = rest

-- a single operation: of this number here, of another one in the next lemma
own_next : (number : ℕ) (store : Store) (op : Op) → (number_of op == number) ≡ true → (store_after store op number ≡ after (store number) op) × (store_reply store op ≡ reply_to (store number) op)
own_next number store op own = let same = same_number (number_of op) number own in rw same (grind (arith, nat_tests), refl)

other_next : (number : ℕ) (store : Store) (op : Op) → (number_of op == number) ≡ false → store_after store op number ≡ store number
other_next number store op other = grind (arith, nat_tests)

-- of the replies to all calls, those to the calls of one number are the ones that its objects give to them alone
pub own_replies : (number : ℕ) (store : Store) (calls : List Call) → replies_at number calls (store_replies store calls) ≡ replies_to_all (store number) (calls_at number calls)
own_replies number store [] = refl
own_replies number store (call ∷ calls) = step (number_of call.op == number) refl (own_replies number (store_after store call.op) calls) where
  rest : List Reply
  rest = replies_at number calls (store_replies (store_after store call.op) calls)

  step : (b : Bool) → (number_of call.op == number) ≡ b → rest ≡ replies_to_all (store_after store call.op number) (calls_at number calls)
      → cond b (store_reply store call.op ∷ rest) rest ≡ replies_to_all (store number) (cond b (call ∷ calls_at number calls) (calls_at number calls))
  step true own is = let next = own_next number store call.op own in rw (is, next.0, next.1) refl
  step false other is = rw (is, other_next number store call.op other) refl

-- after all calls, the objects of a number are as after its own calls alone
pub own_content : (number : ℕ) (store : Store) (calls : List Call) → store_after_all store calls number ≡ after_all (store number) (calls_at number calls)
own_content number store [] = refl
own_content number store (call ∷ calls) = step (number_of call.op == number) refl (own_content number (store_after store call.op) calls) where
  step : (b : Bool) → (number_of call.op == number) ≡ b → store_after_all store (call ∷ calls) number ≡ after_all (store_after store call.op number) (calls_at number calls)
      → store_after_all store (call ∷ calls) number ≡ after_all (store number) (cond b (call ∷ calls_at number calls) (calls_at number calls))
  step true own is = is ∙ ap (λ o. after_all o (calls_at number calls)) (own_next number store call.op own).0
  step false other is = is ∙ ap (λ o. after_all o (calls_at number calls)) (other_next number store call.op other)

pub others_stay : (number : ℕ) (store : Store) (calls : List Call) → calls_at number calls ≡ [] → store_after_all store calls number ≡ store number
others_stay number store calls none = own_content number store calls ∙ ap (λ own. after_all (store number) own) none

-- a bound on the numbers of the calls
abbrev bound : List Call → ℕ
bound [] = 0
bound (call ∷ calls) = number_of call.op + bound calls

none_above : (calls : List Call) (number : ℕ) → bound calls < number → calls_at number calls ≡ []
none_above [] number above = refl
none_above (call ∷ calls) number above = step (number_of call.op == number) refl (none_above calls number (omega (arith, above))) where
  step : (b : Bool) → (number_of call.op == number) ≡ b → calls_at number calls ≡ [] → cond b (call ∷ calls_at number calls) (calls_at number calls) ≡ []
  step true is none = let same = same_number (number_of call.op) number is in absurd (omega (arith, above, same))
  step false is none = none

pub most_are_opening : (calls : List Call) → (most : ℕ) × ((number : ℕ) → most < number → store_after_all opening_store calls number ≡ opening)
most_are_opening calls = (bound calls, λ number above. others_stay number opening_store calls (none_above calls number above))

-- two lists of replies that agree for each number are equal
pub same_replies : (calls : List Call) (replies others : List Reply) → length replies ≡ length calls → length others ≡ length calls
    → ((number : ℕ) → replies_at number calls replies ≡ replies_at number calls others) → replies ≡ others
same_replies [] [] [] count count' same = refl
same_replies [] [] (o ∷ others) count count' same = absurd (omega (arith, count'))
same_replies [] (r ∷ replies) others count count' same = absurd (omega (arith, count))
same_replies (call ∷ calls) [] others count count' same = absurd (omega (arith, count))
same_replies (call ∷ calls) (r ∷ replies) [] count count' same = absurd (omega (arith, count'))
same_replies (call ∷ calls) (r ∷ replies) (o ∷ others) count count' same =
    rw (first, same_replies calls replies others (omega (arith, count)) (omega (arith, count')) rest) refl where
      first_of : (b : Bool) (xs ys : List Reply) → b ≡ true → cond b (r ∷ xs) xs ≡ cond b (o ∷ ys) ys → r ≡ o
      first_of true xs ys own is = cc
      first_of false xs ys own is = absurd cc

      rest_of : (b : Bool) (xs ys : List Reply) → cond b (r ∷ xs) xs ≡ cond b (o ∷ ys) ys → xs ≡ ys
      rest_of true xs ys is = cc
      rest_of false xs ys is = is

      first : r ≡ o
      first = let own = number_of call.op in first_of (own == own) (replies_at own calls replies) (replies_at own calls others) (grind (arith, nat_tests)) (same own)

      rest : (number : ℕ) → replies_at number calls replies ≡ replies_at number calls others
      rest number = rest_of (number_of call.op == number) (replies_at number calls replies) (replies_at number calls others) (same number)
