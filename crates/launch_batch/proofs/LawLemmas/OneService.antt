-- Calls have at most one batch order, and at most one service.
use Rattle.std.proofs.Common.{◌≡◌, inl, inr, List, [], ◌∷◌, refl, sym, ap, subst, ◌∙◌}
use Rattle.launch_batch.proofs.Words.{AllByRecursion, Call, Reply, Store, store_after, store_reply, AreInBatchOrder, Entry, IsLegalFrom, served_book, call_in, calls_in, IsServiceOf}
use Rattle.seq_objects.proofs.CallOrder.{IsFirst, one_way}
use Rattle.launch_batch.proofs.ListLemmas.Among.{Among, each_among, among_same, same_among}

not_both : (x y : Call) → IsFirst x y → IsFirst y x → ⊥
not_both x y first second = one_way x.op y.op x.worker y.worker first second

-- a later call of one list is a later call of the other
later_too : (x y : Call) (xs ys : List Call) → x ≡ y → AllByRecursion (IsFirst x) xs → ((z : Call) → Among z (x ∷ xs) → Among z (y ∷ ys)) → (z : Call) → Among z xs → Among z ys
later_too x y xs ys same first to z there = elim (to z (inr there)) [
  | inl is ↦ let twice = subst (IsFirst x) (is ∙ sym same) (each_among (IsFirst x) xs z first there) in absurd (not_both x x twice twice)
  | inr more ↦ more
]

-- two lists in batch order with the same calls are equal
one_order : (xs ys : List Call) → AreInBatchOrder xs → AreInBatchOrder ys → ((z : Call) → Among z xs → Among z ys) → ((z : Call) → Among z ys → Among z xs) → xs ≡ ys
one_order [] [] up up' to from = refl
one_order [] (y ∷ ys) up up' to from = absurd (from y (inl refl))
one_order (x ∷ xs) [] up up' to from = absurd (to x (inl refl))
one_order (x ∷ xs) (y ∷ ys) up up' to from = rw (first, one_order xs ys up.1 up'.1 (later_too x y xs ys first up.0 to) (later_too y x ys xs (sym first) up'.0 from)) refl where
  first : x ≡ y
  first = elim (to x (inl refl)) [
    | inl is ↦ is
    | inr later ↦ elim (from y (inl refl)) [
      | inl is ↦ sym is
      | inr later' ↦ absurd (not_both x y (each_among (IsFirst x) xs y up.0 later') (each_among (IsFirst y) ys x up'.0 later))
    ]
  ]

abbrev make : Call → Reply → Entry
make call reply = record { leaf = call.leaf; worker = call.worker; op = call.op; reply = reply }

entry_same : (e f : Entry) → call_in e ≡ call_in f → e.reply ≡ f.reply → e ≡ f
entry_same e f calls replies = ap (λ c. make c e.reply) calls ∙ ap (make (call_in f)) replies

-- the calls and the store before them determine the replies
one_reply_each : (store : Store) (batch other : List Entry) → calls_in batch ≡ calls_in other → IsLegalFrom store batch → IsLegalFrom store other → batch ≡ other
one_reply_each store [] [] same legal legal' = refl
one_reply_each store [] (f ∷ other) same legal legal' = absurd cc
one_reply_each store (e ∷ batch) [] same legal legal' = absurd cc
one_reply_each store (e ∷ batch) (f ∷ other) same legal legal' =
    let same_list : call_in e ∷ calls_in batch ≡ call_in f ∷ calls_in other = same in
    let call : call_in e ≡ call_in f = cc in
    let op = ap (λ (c : Call). c.op) call in
    let reply : e.reply ≡ f.reply = legal.0 ∙ ap (store_reply store) op ∙ sym legal'.0 in
    let later = subst (λ o. IsLegalFrom (store_after store o) batch) op legal.1 in
    let rest = one_reply_each (store_after store f.op) batch other (cc) later legal'.1 in
    ap (λ g. g ∷ batch) (entry_same e f call reply) ∙ ap (λ l. f ∷ l) rest

pub one_service : (book : List (List Entry)) (calls : List Call) (batch other : List Entry) → IsServiceOf book calls batch → IsServiceOf book calls other → batch ≡ other
one_service book calls batch other is is' =
    let order = one_order (calls_in batch) (calls_in other) is.order is'.order
    (λ z there. among_same calls (calls_in other) is'.same z (same_among calls (calls_in batch) is.same z there))
    (λ z there. among_same calls (calls_in batch) is.same z (same_among calls (calls_in other) is'.same z there)) in
    one_reply_each (served_book book) batch other order is.replies is'.replies
