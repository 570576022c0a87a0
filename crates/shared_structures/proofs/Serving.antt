-- A batch that is served in batch order is served in some order.
use Rattle.std.proofs.Common.{◌≡◌, ℕ, ◌<◌, List, [], ◌∷◌, length, map, get_or, refl, sym, ap, ◌∙◌, subst, arith}
use Rattle.std.specs.Prelude.{zip, IsPermutation, slice_index, slice_index_or}
use Rattle.std.specs.List.{AllByRecursion, range_with_len}
use Rattle.std.proofs.lemmas.List.{length-map, get_or-map}
use Rattle.std.proofs.lemmas.List.FromFn.{length-range_with_len}
use Rattle.std.proofs.lemmas.List.Elements.{All-from_recursion, All-get_or}
use Rattle.std.proofs.lemmas.List.Sorted.{IsPermutation-map, IsPermutation-sym}
use Rattle.seq_objects.specs.declared.call.Call.{Call}
use Rattle.seq_objects.specs.declared.op.Op.{Op}
use Rattle.seq_objects.specs.declared.reply.Reply.{Reply}
use Rattle.seq_objects.specs.declared.op.Op.TheVariants.{Push}
use Rattle.seq_objects.specs.Objects.{Objects, after, number_of}
use Rattle.seq_objects.specs.Batches.{AreOfOneNumber}
use Rattle.seq_objects.specs.Serial as calls_of
use Rattle.seq_objects.proofs.Elements.{each_so, each_unmapped}
use Rattle.reply_order.specs.Order.{AreInOrder}
use Rattle.reply_order.proofs.Pairing.{firsts, paired}
use Rattle.shared_calls.specs.Serial.{after_all, replies_to_all, IsServedInSomeOrder}
use Rattle.shared_structures.specs.Code.Batches.{objects, AreCallsOf, IsAsked}
use Rattle.shared_structures.proofs.Ordering.{HasItsOp, each_mixed, calls_length, ops_are_mixed, has_its_op}

-- the operation and the place of a call
abbrev pub op_in : Call → Op
op_in c = c.op

abbrev pub place : Call → ℕ
place c = c.worker

seconds : {X Y : Type 0} (xs : List X) (ys : List Y) → length ys ≡ length xs → map (λ (p : X × Y). p.1) (zip xs ys) ≡ ys
seconds [] [] long = refl
seconds [] (y ∷ ys) long = absurd (omega (arith, long))
seconds (x ∷ xs) [] long = absurd (omega (arith, long))
seconds (x ∷ xs) (y ∷ ys) long = ap (λ l. y ∷ l) (seconds xs ys (omega (arith, long)))

same_replies : (s : Objects) (calls : List Call) → calls_of.replies_to_all s calls ≡ replies_to_all objects s (map op_in calls)
same_replies s [] = refl
same_replies s (c ∷ calls) = ap (λ l. objects.reply s c.op ∷ l) (same_replies (after s c.op) calls)

same_after : (s : Objects) (calls : List Call) → calls_of.after_all s calls ≡ after_all objects s (map op_in calls)
same_after s [] = refl
same_after s (c ∷ calls) = same_after (after s c.op) calls

pub replies_length : (s : Objects) (calls : List Call) → length (calls_of.replies_to_all s calls) ≡ length calls
replies_length s [] = refl
replies_length s (c ∷ calls) = omega (arith, replies_length (after s c.op) calls)

at_places : (ops : List Op) (calls : List Call) → AreCallsOf ops calls → (k : ℕ) (d : Op) → k < length (map place calls)
    → slice_index_or (map op_in calls) k d ≡ slice_index_or ops (slice_index (map place calls) k) d
at_places ops calls are k d less =
    let c : Call = record { worker = 0; leaf = 0; op = d } in
    let below : k < length calls = omega (arith, less, length-map calls place) in
    let has = All-get_or (HasItsOp ops) calls k c below (All-from_recursion (HasItsOp ops) calls (has_its_op ops calls are)) d in
    get_or-map op_in calls k c d below ∙ (has ∙ ap (λ (i : ℕ). get_or ops i d) (sym (get_or-map place calls k c 0 below)))

module _ (s : Objects) (ops : List Op) (calls : List Call) (replies ordered : List Reply) (are : AreCallsOf ops calls)
    (order : AreInOrder (map place calls) replies ordered) (replies_are : replies ≡ calls_of.replies_to_all s calls) where
  many : length replies ≡ length calls
  many = ap length replies_are ∙ replies_length s calls

  -- the replies, mixed
  pub replies_are_mixed : IsPermutation replies ordered
  replies_are_mixed =
      let n = length (map place calls) in
      let second = λ (p : ℕ × Reply). p.1 in
      let long : length ordered ≡ length (range_with_len 0 n) =
      omega (arith, order.count, many, length-map calls place, length-range_with_len 0 n) in
      let short : length replies ≡ length (map place calls) = omega (arith, many, length-map calls place) in
      let mixed = IsPermutation-map second (zip (range_with_len 0 n) ordered) (zip (map place calls) replies) order.mixed in
      IsPermutation-sym ordered replies
      (subst (λ l. IsPermutation l replies) (seconds (range_with_len 0 n) ordered long)
      (subst (λ l. IsPermutation (map second (zip (range_with_len 0 n) ordered)) l) (seconds (map place calls) replies short) mixed))

  pub in_some_order : (now : Objects) → now ≡ calls_of.after_all s calls → IsServedInSomeOrder objects s ops ordered now
  in_some_order now is =
      let served = map op_in calls in
      let short : length replies ≡ length served = omega (arith, many, length-map calls op_in) in
      let first : map (λ (p : Op × Reply). p.0) (zip served replies) ≡ served = firsts served replies short in
      let second : map (λ (p : Op × Reply). p.1) (zip served replies) ≡ replies = seconds served replies short in
      record {
        served = zip served replies;
        order = paired (map place calls) ops served replies ordered order (omega (arith, calls_length ops calls are, length-map calls place))
            (omega (arith, length-map calls op_in, length-map calls place)) (at_places ops calls are);
        count = omega (arith, order.count, many, calls_length ops calls are);
        replies_are = second ∙ (replies_are ∙ (same_replies s calls ∙ ap (replies_to_all objects s) (sym first)));
        after_is = is ∙ (same_after s calls ∙ ap (after_all objects s) (sym first));
      }

asked_number : (op : Op) → IsAsked op → number_of op ≡ 0
asked_number (Push number item) asked = asked.0
asked_number _ asked = grind arith

-- what holds of all operations holds of those of all calls
pub each_call : (P : Op → Type 0) (ops : List Op) (calls : List Call) → AllByRecursion P ops → IsPermutation ops (map op_in calls)
    → AllByRecursion (λ (c : Call). P c.op) calls
each_call P ops calls each mixed = each_unmapped op_in P calls (each_mixed P ops (map op_in calls) mixed each)

pub of_one_number : (ops : List Op) (calls : List Call) → AllByRecursion IsAsked ops → AreCallsOf ops calls → AreOfOneNumber calls
of_one_number ops calls asked are = (
  0,
  each_so (λ (c : Call). IsAsked c.op) (λ (c : Call). number_of c.op ≡ 0) (λ c is. asked_number c.op is) calls
      (each_call IsAsked ops calls asked (ops_are_mixed ops calls are)),
)
