-- The objects of one kind, of all numbers, serve their own calls.
use Rattle.std.proofs.Common.{ℕ, ◌≡◌, ◌==◌, Bool, true, false, cond, List, [], ◌∷◌, refl, ap, ◌∙◌, arith}
use Rattle.std.proofs.lemmas.Bool.Decides.{nat_tests}
use Rattle.launch_batch.proofs.Words.{Call, Reply, Objects, after, reply_to, number_of, Store, store_after, store_reply, store_after_all, store_replies, Kind, kind_of, same_kind, calls_of, replies_of, alone, store_of_kind}
use Rattle.seq_objects.proofs.Apart.{own_replies, own_content}

module _ (kind : Kind) where
  -- a single call: of this kind here, of another one in the next lemma
  own_after : (o : Objects) (call : Call) → same_kind kind (kind_of call.op) ≡ true → alone kind (after o call.op) ≡ after (alone kind o) call.op
  own_after o call own = rw own at (own_content kind o (call ∷ []))

  own_reply : (o : Objects) (call : Call) → same_kind kind (kind_of call.op) ≡ true → reply_to o call.op ≡ reply_to (alone kind o) call.op
  own_reply o call own =
      let both : reply_to o call.op ∷ [] ≡ reply_to (alone kind o) call.op ∷ [] = rw own at (own_replies kind o (call ∷ [])) in
      cc

  other_after : (o : Objects) (call : Call) → same_kind kind (kind_of call.op) ≡ false → alone kind (after o call.op) ≡ alone kind o
  other_after o call other = rw other at (own_content kind o (call ∷ []))

  own_store : (store : Store) (call : Call) → same_kind kind (kind_of call.op) ≡ true → store_of_kind kind (store_after store call.op) ≡ store_after (store_of_kind kind store) call.op
  own_store store call own = λ i number. at number (number == number_of call.op) i where
    at : (number : ℕ) (b : Bool) → alone kind (cond b (after (store (number_of call.op)) call.op) (store number)) ≡ cond b (after (alone kind (store (number_of call.op))) call.op) (alone kind (store number))
    at number true = own_after (store (number_of call.op)) call own
    at number false = refl

  other_store : (store : Store) (call : Call) → same_kind kind (kind_of call.op) ≡ false → store_of_kind kind (store_after store call.op) ≡ store_of_kind kind store
  other_store store call other = λ i number. at number (number == number_of call.op) refl i where
    at : (number : ℕ) (b : Bool) → (number == number_of call.op) ≡ b → alone kind (cond b (after (store (number_of call.op)) call.op) (store number)) ≡ alone kind (store number)
    at number true is = let one : number_of call.op ≡ number = grind (arith, nat_tests) in other_after (store (number_of call.op)) call other ∙ ap (λ n. alone kind (store n)) one
    at number false is = refl

  -- of the replies to all calls, those to the calls of the kind are the ones that its objects give alone
  pub kind_replies : (store : Store) (calls : List Call) → replies_of kind calls (store_replies store calls) ≡ store_replies (store_of_kind kind store) (calls_of kind calls)
  kind_replies store [] = refl
  kind_replies store (call ∷ calls) = step (same_kind kind (kind_of call.op)) refl (kind_replies (store_after store call.op) calls) where
    rest : List Reply
    rest = replies_of kind calls (store_replies (store_after store call.op) calls)

    step : (b : Bool) → same_kind kind (kind_of call.op) ≡ b → rest ≡ store_replies (store_of_kind kind (store_after store call.op)) (calls_of kind calls)
        → cond b (store_reply store call.op ∷ rest) rest ≡ store_replies (store_of_kind kind store) (cond b (call ∷ calls_of kind calls) (calls_of kind calls))
    step true own is = rw (is, own_store store call own, own_reply (store (number_of call.op)) call own) refl
    step false other is = rw (is, other_store store call other) refl

  -- after all calls, its objects are as after their own calls alone
  pub kind_content : (store : Store) (calls : List Call) (number : ℕ) → alone kind (store_after_all store calls number) ≡ store_after_all (store_of_kind kind store) (calls_of kind calls) number
  kind_content store [] number = refl
  kind_content store (call ∷ calls) number = step (same_kind kind (kind_of call.op)) refl (kind_content (store_after store call.op) calls number) where
    step : (b : Bool) → same_kind kind (kind_of call.op) ≡ b
        → alone kind (store_after_all (store_after store call.op) calls number) ≡ store_after_all (store_of_kind kind (store_after store call.op)) (calls_of kind calls) number
        → alone kind (store_after_all (store_after store call.op) calls number) ≡ store_after_all (store_of_kind kind store) (cond b (call ∷ calls_of kind calls) (calls_of kind calls)) number
    step true own is = is ∙ ap (λ s. store_after_all s (calls_of kind calls) number) (own_store store call own)
    step false other is = is ∙ ap (λ s. store_after_all s (calls_of kind calls) number) (other_store store call other)
