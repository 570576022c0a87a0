-- The objects are independent: an operation on one neither changes the others nor depends on them.
use Rattle.std.proofs.Common.{◌≡◌, Bool, true, false, cond, List, [], ◌∷◌, length, refl, ap, sym, subst, arith, ◌∙◌}
use Rattle.seq_objects.specs.declared.op.Op.{Op}
use Rattle.seq_objects.specs.declared.op.Op.TheVariants.{CounterAdd}
use Rattle.seq_objects.specs.declared.call.Call.{Call}
use Rattle.seq_objects.specs.declared.reply.Reply.{Reply}
use Rattle.seq_objects.specs.Objects.{Objects, after, reply_to}
use Rattle.seq_objects.specs.Verbs.{Counter, Stack, Tree, Queue}
use Rattle.seq_objects.specs.Batches.{Kind, AreOf, kind_of, same_kind, calls_of}
use Rattle.seq_objects.specs.Serial.{after_all, replies_to_all, alone, with_kind, replies_of, after_by_kind}
use Rattle.seq_objects.proofs.Verbs.{same_is, same_self}

reply_alone : (op : Op) (objects : Objects) → reply_to objects op ≡ reply_to (alone (kind_of op) objects) op
reply_alone (CounterAdd number addend) objects = refl
reply_alone _ objects = refl

after_alone : (op : Op) (objects : Objects) → after objects op ≡ with_kind (kind_of op) objects (after (alone (kind_of op) objects) op)
after_alone (CounterAdd number addend) objects = refl
after_alone _ objects = refl

alone_after : (op : Op) (objects : Objects) → alone (kind_of op) (after objects op) ≡ after (alone (kind_of op) objects) op
alone_after (CounterAdd number addend) objects = refl
alone_after _ objects = refl

with_own : (kind : Kind) (objects : Objects) → objects ≡ with_kind kind objects (alone kind objects)
with_own Counter objects = refl
with_own _ objects = refl

with_twice : (kind : Kind) (objects others more : Objects) → with_kind kind (with_kind kind objects others) more ≡ with_kind kind objects more
with_twice Counter objects others more = refl
with_twice _ objects others more = refl

-- the replies to calls of one kind are those that it gives alone
pub replies_alone : (kind : Kind) (objects : Objects) (calls : List Call) → AreOf kind calls → replies_to_all objects calls ≡ replies_to_all (alone kind objects) calls
replies_alone kind objects [] of = refl
replies_alone kind objects (call ∷ calls) of =
    let rest = replies_alone kind (after objects call.op) calls of.1 in
    let reply : reply_to objects call.op ≡ reply_to (alone kind objects) call.op = subst (λ o. reply_to objects call.op ≡ reply_to (alone o objects) call.op) of.0 (reply_alone call.op objects) in
    let next : alone kind (after objects call.op) ≡ after (alone kind objects) call.op = subst (λ o. alone o (after objects call.op) ≡ after (alone o objects) call.op) of.0 (alone_after call.op objects) in
    rw (reply, rest, next) refl

-- calls of one kind change this kind alone, as they do without the others
pub content_alone : (kind : Kind) (objects : Objects) (calls : List Call) → AreOf kind calls → after_all objects calls ≡ with_kind kind objects (after_all (alone kind objects) calls)
content_alone kind objects [] of = with_own kind objects
content_alone kind objects (call ∷ calls) of =
    let rest = content_alone kind (after objects call.op) calls of.1 in
    let changed : after objects call.op ≡ with_kind kind objects (after (alone kind objects) call.op) = subst (λ o. after objects call.op ≡ with_kind o objects (after (alone o objects) call.op)) of.0 (after_alone call.op objects) in
    let next : alone kind (after objects call.op) ≡ after (alone kind objects) call.op = subst (λ o. alone o (after objects call.op) ≡ after (alone o objects) call.op) of.0 (alone_after call.op objects) in
    let last = after_all (after (alone kind objects) call.op) calls in
    rest ∙ ap (λ o. with_kind kind (after objects call.op) (after_all o calls)) next ∙ ap (λ o. with_kind kind o last) changed
    ∙ with_twice kind objects (after (alone kind objects) call.op) last

-- replacing another kind leaves this one unchanged
other_kept : (kind other : Kind) (objects others : Objects) → same_kind kind other ≡ false → alone kind (with_kind other objects others) ≡ alone kind objects
other_kept Counter Counter objects others differ = absurd cc
other_kept Stack Stack objects others differ = absurd cc
other_kept Tree Tree objects others differ = absurd cc
other_kept Queue Queue objects others differ = absurd cc
other_kept _ _ objects others differ = refl

module _ (kind : Kind) where
  -- a single operation: of this kind here, of another one in the next lemma
  own_next : (objects : Objects) (op : Op) → same_kind kind (kind_of op) ≡ true → (alone kind (after objects op) ≡ after (alone kind objects) op) × (reply_to objects op ≡ reply_to (alone kind objects) op)
  own_next objects op own =
      let is = same_is kind (kind_of op) own in
      (subst (λ o. alone o (after objects op) ≡ after (alone o objects) op) is (alone_after op objects), subst (λ o. reply_to objects op ≡ reply_to (alone o objects) op) is (reply_alone op objects))

  other_next : (objects : Objects) (op : Op) → same_kind kind (kind_of op) ≡ false → alone kind (after objects op) ≡ alone kind objects
  other_next objects op other = ap (alone kind) (after_alone op objects) ∙ other_kept kind (kind_of op) objects (after (alone (kind_of op) objects) op) other

  -- of the replies to all calls, those to the calls of one kind are the ones that it gives alone
  pub own_replies : (objects : Objects) (calls : List Call) → replies_of kind calls (replies_to_all objects calls) ≡ replies_to_all (alone kind objects) (calls_of kind calls)
  own_replies objects [] = refl
  own_replies objects (call ∷ calls) = step (same_kind kind (kind_of call.op)) refl (own_replies (after objects call.op) calls) where
    rest : List Reply
    rest = replies_of kind calls (replies_to_all (after objects call.op) calls)

    step : (b : Bool) → same_kind kind (kind_of call.op) ≡ b → rest ≡ replies_to_all (alone kind (after objects call.op)) (calls_of kind calls)
        → cond b (reply_to objects call.op ∷ rest) rest ≡ replies_to_all (alone kind objects) (cond b (call ∷ calls_of kind calls) (calls_of kind calls))
    step true own is = let next = own_next objects call.op own in rw (is, next.0, next.1) refl
    step false other is = rw (is, other_next objects call.op other) refl

  -- after all calls, the kind is as after its own calls alone
  pub own_content : (objects : Objects) (calls : List Call) → alone kind (after_all objects calls) ≡ after_all (alone kind objects) (calls_of kind calls)
  own_content objects [] = refl
  own_content objects (call ∷ calls) = step (same_kind kind (kind_of call.op)) refl (own_content (after objects call.op) calls) where
    step : (b : Bool) → same_kind kind (kind_of call.op) ≡ b → alone kind (after_all (after objects call.op) calls) ≡ after_all (alone kind (after objects call.op)) (calls_of kind calls)
        → alone kind (after_all (after objects call.op) calls) ≡ after_all (alone kind objects) (cond b (call ∷ calls_of kind calls) (calls_of kind calls))
    step true own is = is ∙ ap (λ o. after_all o (calls_of kind calls)) (own_next objects call.op own).0
    step false other is = is ∙ ap (λ o. after_all o (calls_of kind calls)) (other_next objects call.op other)

pub each_content : (objects : Objects) (calls : List Call) → after_all objects calls ≡ after_by_kind objects calls
each_content objects calls =
    rw (sym (own_content Counter objects calls), sym (own_content Stack objects calls), sym (own_content Tree objects calls), sym (own_content Queue objects calls)) refl

-- two lists of replies that agree for each kind are equal
pub same_replies : (calls : List Call) (replies others : List Reply) → length replies ≡ length calls → length others ≡ length calls
    → ((kind : Kind) → replies_of kind calls replies ≡ replies_of kind calls others) → replies ≡ others
same_replies [] [] [] count count' same = refl
same_replies [] [] (o ∷ others) count count' same = absurd (omega (arith, count'))
same_replies [] (r ∷ replies) others count count' same = absurd (omega (arith, count))
same_replies (call ∷ calls) [] others count count' same = absurd (omega (arith, count))
same_replies (call ∷ calls) (r ∷ replies) [] count count' same = absurd (omega (arith, count'))
same_replies (call ∷ calls) (r ∷ replies) (o ∷ others) count count' same =
    rw (first, same_replies calls replies others (omega (arith, count)) (omega (arith, count')) rest) refl where
      first_of : (b : Bool) (xs ys : List Reply) → b ≡ true → cond b (r ∷ xs) xs ≡ cond b (o ∷ ys) ys → r ≡ o
      first_of true xs ys own is = cc
      first_of false xs ys own is = absurd cc

      rest_of : (b : Bool) (xs ys : List Reply) → cond b (r ∷ xs) xs ≡ cond b (o ∷ ys) ys → xs ≡ ys
      rest_of true xs ys is = cc
      rest_of false xs ys is = is

      first : r ≡ o
      first = let own = kind_of call.op in first_of (same_kind own own) (replies_of own calls replies) (replies_of own calls others) (same_self own) (same own)

      rest : (kind : Kind) → replies_of kind calls replies ≡ replies_of kind calls others
      rest kind = rest_of (same_kind kind (kind_of call.op)) (replies_of kind calls replies) (replies_of kind calls others) (same kind)
