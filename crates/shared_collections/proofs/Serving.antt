-- A batch that is served in an order of its own, whose replies are put back into the order of its operations.
use Rattle.std.proofs.Common.{◌≡◌, ℕ, zero, suc, ◌+◌, ◌<◌, List, [], ◌∷◌, ◌++◌, map, length, get_or, refl, sym, ap, ◌∙◌, subst, arith, append_assoc, length-append}
use Rattle.std.specs.Prelude.{zip, IsPermutation}
use Rattle.std.specs.List.{AllByRecursion, range_with_len}
use Rattle.std.proofs.lemmas.List.{length-map}
use Rattle.std.proofs.lemmas.List.Sorted.{IsPermutation-map, IsPermutation-trans, length_permutation}
use Rattle.shared_calls.specs.Serial.{SerialObject, replies_to_all, after_all, IsServedInSomeOrder}
use Rattle.shared_calls.proofs.Batches.{every_shuffled}
use Rattle.shared_calls.proofs.InOrder.{in_order}
use Rattle.shared_calls.proofs.Lists.{replies_length}
use Rattle.reply_order.specs.Order.{AreInOrder}
use Rattle.reply_order.proofs.Pairing.{paired}

module _ {C O : Type 0} (place : C → ℕ) (what : C → O) where
  -- the call asks the operation at its place
  abbrev pub IsAt : List O → C → Type 0
  IsAt ops c = (d : O) → what c ≡ get_or ops (place c) d

  -- calls whose places are 0, 1, .. ask these operations
  pub record AreListed (calls : List C) (ops : List O) : Type 0 where
    pub places : map place calls ≡ range_with_len 0 (length calls)
    pub ops_are : map what calls ≡ ops

  behind : (front : List O) (x : O) (back : List O) (d : O) → x ≡ get_or (front ++ x ∷ back) (length front) d
  behind [] x back d = refl
  behind (y ∷ front) x back d = behind front x back d

  at_places : (front : List O) (calls : List C) → map place calls ≡ range_with_len (length front) (length calls)
      → AllByRecursion (IsAt (front ++ map what calls)) calls
  at_places front [] is = tt
  at_places front (c ∷ calls) is =
      let here : place c ≡ length front = ap (λ l. get_or l 0 (place c)) is in
      let next : map place calls ≡ range_with_len (length front + 1) (length calls) = cc in
      let long : length (front ++ what c ∷ []) ≡ length front + 1 = length-append front (what c ∷ []) in (
        λ d. behind front (what c) (map what calls) d ∙ ap (λ k. get_or (front ++ what c ∷ map what calls) k d) (sym here),
        subst (λ ops. AllByRecursion (IsAt ops) calls) (append_assoc front (what c ∷ []) (map what calls))
            (at_places (front ++ what c ∷ []) calls (next ∙ ap (λ k. range_with_len k (length calls)) (sym long))),
      )

  at_index : (ops : List O) (calls : List C) (k : ℕ) (d : O) → k < length calls → AllByRecursion (IsAt ops) calls
      → get_or (map what calls) k d ≡ get_or ops (get_or (map place calls) k 0) d
  at_index ops [] k d less all = absurd (omega (arith, less))
  at_index ops (c ∷ calls) zero d less all = all.0 d
  at_index ops (c ∷ calls) (suc k) d less all = at_index ops calls k d (omega (arith, less)) all.1

  -- the places of the calls, in whatever order they are served, are 0, 1, .., mixed
  pub places_mixed : (listed calls : List C) (ops : List O) → AreListed listed ops → IsPermutation listed calls
      → IsPermutation (range_with_len 0 (length (map place calls))) (map place calls)
  places_mixed listed calls ops l p =
      let long : length (map place calls) ≡ length listed = length-map calls place ∙ length_permutation listed calls p in
      subst (λ xs. IsPermutation xs (map place calls)) (l.places ∙ ap (range_with_len 0) (sym long)) (IsPermutation-map place listed calls p)

  -- The calls are served one after another. Their replies, put into the order of the operations, are those of a batch that
  -- was served in some order.
  pub in_some_order : {R : Type 0} (object : SerialObject O R) (before after : object.State) (listed calls : List C) (ops : List O) (replies ordered : List R)
      → AreListed listed ops → IsPermutation listed calls
      → replies ≡ replies_to_all object before (map what calls) → after ≡ after_all object before (map what calls)
      → AreInOrder (map place calls) replies ordered
      → IsServedInSomeOrder object before ops ordered after
  in_some_order {R} object before after listed calls ops replies ordered l p are is order =
      let served = in_order object before after (map what calls) replies are is in
      let count : length calls ≡ length listed = length_permutation listed calls p in
      let places : length (map place calls) ≡ length calls = length-map calls place in
      let whats : length (map what calls) ≡ length calls = length-map calls what in
      let asked : length ops ≡ length listed = ap length (sym l.ops_are) ∙ length-map listed what in
      let long : length replies ≡ length (map what calls) = ap length are ∙ replies_length object before (map what calls) in
      let all : AllByRecursion (IsAt ops) listed = subst (λ xs. AllByRecursion (IsAt xs) listed) l.ops_are (at_places [] listed l.places) in
      let each : AllByRecursion (IsAt ops) calls = every_shuffled (IsAt ops) listed calls p all in record {
        served = served.served;
        order = IsPermutation-trans (zip ops ordered) (zip (map what calls) replies) served.served
            (paired (map place calls) ops (map what calls) replies ordered order (asked ∙ sym count ∙ sym places) (whats ∙ sym places)
            (λ k d less. at_index ops calls k d (omega (arith, less, places)) each))
            served.order;
        count = order.count ∙ long ∙ whats ∙ count ∙ sym asked;
        replies_are = served.replies_are;
        after_is = served.after_is;
      }
