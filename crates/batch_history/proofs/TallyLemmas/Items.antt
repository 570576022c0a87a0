-- The items of stacks and bags: their number and their sum.
use Rattle.std.proofs.Common.{◌≡◌, ℕ, ◌+◌, ◌-◌, ◌<◌, Bool, true, false, if◌then◌else◌, List, [], ◌∷◌, ◌++◌, length, take, drop, get_or, refl, sym, ap, ◌∙◌, arith, length-take-le}
use Rattle.std.specs.Prelude.{nat_le}
use Rattle.std.proofs.lemmas.List.{take-append-drop, drop_more, drop_all}
use Rattle.std.proofs.lemmas.Option.{slice_get-get_or}
use Rattle.seq_objects.specs.Objects.{top, without_top, number_or_empty, with_item, least, without_least}
use Rattle.batch_history.specs.Tally.{number_of}

-- the sum of all
abbrev pub sum_of : List ℕ → ℕ
sum_of [] = 0
sum_of (x ∷ xs) = x + sum_of xs

pub sum_append : (xs ys : List ℕ) → sum_of (xs ++ ys) ≡ sum_of xs + sum_of ys
sum_append [] ys = omega arith
sum_append (x ∷ xs) ys = omega (arith, sum_append xs ys)

pub sum_push : (xs : List ℕ) (x : ℕ) → sum_of (xs ++ x ∷ []) ≡ sum_of xs + x
sum_push xs x = omega (arith, sum_append xs (x ∷ []))

some_top : (xs : List ℕ) → 0 < length xs → number_of (number_or_empty (top xs)) + sum_of (without_top xs) ≡ sum_of xs
some_top xs some =
    let n = length xs - 1 in
    let below : n < length xs = omega (arith, some) in
    let item = get_or xs n 0 in
    let is : number_of (number_or_empty (top xs)) ≡ item = ap (λ o. number_of (number_or_empty o)) (slice_get-get_or xs n 0 below) in
    let past : drop (n + 1) xs ≡ [] = drop_all (n + 1) xs (omega (arith, some)) in
    let split : take n xs ++ item ∷ [] ≡ xs = ap (λ l. take n xs ++ item ∷ l) (sym past) ∙ ap (λ l. take n xs ++ l) (sym (drop_more xs n 0 below)) ∙ take-append-drop n xs in
    omega (arith, is, sum_push (take n xs) item, ap sum_of split)

-- the top and the rest
pub top_sum : (xs : List ℕ) → number_of (number_or_empty (top xs)) + sum_of (without_top xs) ≡ sum_of xs
top_sum [] = refl
top_sum (x ∷ xs) = some_top (x ∷ xs) (omega arith)

pub top_length : (xs : List ℕ) → length (without_top xs) ≡ length xs - 1
top_length xs = length-take-le (length xs - 1) xs (omega arith)

-- inserting an item into a bag
either_sum : (b : Bool) (xs ys : List ℕ) (n : ℕ) → sum_of xs ≡ n → sum_of ys ≡ n → sum_of (if b then xs else ys) ≡ n
either_sum true xs ys n h g = h
either_sum false xs ys n h g = g

either_length : (b : Bool) (xs ys : List ℕ) (n : ℕ) → length xs ≡ n → length ys ≡ n → length (if b then xs else ys) ≡ n
either_length true xs ys n h g = h
either_length false xs ys n h g = g

pub with_sum : (item : ℕ) (bag : List ℕ) → sum_of (with_item item bag) ≡ item + sum_of bag
with_sum item [] = refl
with_sum item (x ∷ bag) = either_sum (nat_le item x) (item ∷ x ∷ bag) (x ∷ with_item item bag) (item + (x + sum_of bag)) refl (omega (arith, with_sum item bag))

pub with_length : (item : ℕ) (bag : List ℕ) → length (with_item item bag) ≡ length bag + 1
with_length item [] = omega arith
with_length item (x ∷ bag) = either_length (nat_le item x) (item ∷ x ∷ bag) (x ∷ with_item item bag) (length (x ∷ bag) + 1) (omega arith) (omega (arith, with_length item bag))

-- the least of a bag and the rest
pub least_sum : (bag : List ℕ) → number_of (number_or_empty (least bag)) + sum_of (without_least bag) ≡ sum_of bag
least_sum [] = refl
least_sum (x ∷ bag) = refl

pub least_length : (bag : List ℕ) → length (without_least bag) ≡ length bag - 1
least_length [] = refl
least_length (x ∷ bag) = omega arith

-- an empty list sums to 0
pub none_sum : (xs : List ℕ) → length xs ≡ 0 → sum_of xs ≡ 0
none_sum [] h = refl
none_sum (x ∷ xs) h = absurd (omega (arith, h))
