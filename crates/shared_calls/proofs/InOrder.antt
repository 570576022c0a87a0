-- A batch that is served in the order in which it came is served in some order.
use Rattle.std.proofs.Common.{◌≡◌, List, [], ◌∷◌, map, length, sym, ap, ◌∙◌, refl, arith}
use Rattle.std.specs.Prelude.{zip}
use Rattle.std.proofs.lemmas.List.Sorted.{IsPermutation-refl}
use Rattle.shared_calls.specs.Serial.{SerialObject, replies_to_all, after_all, IsServedInSomeOrder}
use Rattle.shared_calls.proofs.Lists.{replies_length}

firsts : {X Y : Type 0} (xs : List X) (ys : List Y) → length ys ≡ length xs → map (λ (p : X × Y). p.0) (zip xs ys) ≡ xs
firsts [] ys long = refl
firsts (x ∷ xs) [] long = absurd (omega (arith, long))
firsts (x ∷ xs) (y ∷ ys) long = ap (λ l. x ∷ l) (firsts xs ys (omega (arith, long)))

seconds : {X Y : Type 0} (xs : List X) (ys : List Y) → length ys ≡ length xs → map (λ (p : X × Y). p.1) (zip xs ys) ≡ ys
seconds [] [] long = refl
seconds [] (y ∷ ys) long = absurd (omega (arith, long))
seconds (x ∷ xs) [] long = absurd (omega (arith, long))
seconds (x ∷ xs) (y ∷ ys) long = ap (λ l. y ∷ l) (seconds xs ys (omega (arith, long)))

pub in_order : {O R : Type 0} (object : SerialObject O R) (before after : object.State) (ops : List O) (replies : List R)
    → replies ≡ replies_to_all object before ops → after ≡ after_all object before ops → IsServedInSomeOrder object before ops replies after
in_order {O} {R} object before after ops replies are is =
    let long : length replies ≡ length ops = ap (λ (l : List R). length l) are ∙ replies_length object before ops in
    let same : map (λ (p : O × R). p.0) (zip ops replies) ≡ ops = firsts ops replies long in record {
      served = zip ops replies;
      order = IsPermutation-refl (zip ops replies);
      count = long;
      replies_are = seconds ops replies long ∙ (are ∙ ap (replies_to_all object before) (sym same));
      after_is = is ∙ ap (after_all object before) (sym same);
    }
