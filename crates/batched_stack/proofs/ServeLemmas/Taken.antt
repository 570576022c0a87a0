-- Taking the last items off, and serving the calls of one stripe.
use Rattle.std.proofs.Common.{◌≡◌, ℕ, suc, ◌+◌, ◌-◌, ◌<◌, ◌≤◌, inl, inr, min, List, [], ◌∷◌, ◌++◌, length, take, drop, reverse, get_or, refl, sym, ap, ◌∙◌, append-nil, length-append, drop-cons, arith}
use Rattle.std.proofs.Math.Seq.{take-append-add, drop-append-add}
use Rattle.std.proofs.lemmas.Bool.{cases_order}
use Rattle.std.proofs.lemmas.List.{reverse-append, take-append-le, drop-append-le}
use Rattle.std.proofs.lemmas.Grind.{common_steps}
use Rattle.batched_stack.proofs.Basics.{whole_take, whole_drop}

pub take_one_less : (xs : List ℕ) (count : ℕ) → count < length xs
    → take (length (take (length xs - count) xs) - 1) (take (length xs - count) xs) ≡ take (length xs - (count + 1)) xs
take_one_less xs count less = grind (arith, common_steps)

pub drop_one_more : (xs : List ℕ) (count : ℕ) → count < length xs
    → reverse (drop (length xs - (count + 1)) xs) ≡ reverse (drop (length xs - count) xs) ++ get_or xs (length xs - (count + 1)) 0 ∷ []
drop_one_more xs count less =
    let first = drop-cons xs (length xs - (count + 1)) 0 (omega arith) in
    let next : suc (length xs - (count + 1)) ≡ length xs - count = omega (arith, less) in
    let all : drop (length xs - (count + 1)) xs ≡ get_or xs (length xs - (count + 1)) 0 ∷ drop (length xs - count) xs = rw next at first in
    ap reverse all ∙ reverse-append (get_or xs (length xs - (count + 1)) 0 ∷ []) (drop (length xs - count) xs)

pub last_taken : (xs : List ℕ) (count : ℕ) → count < length xs
    → get_or (take (length xs - count) xs) (length (take (length xs - count) xs) - 1) 0 ≡ get_or xs (length xs - (count + 1)) 0
last_taken xs count less = grind (arith, common_steps)

-- Of a list and more behind it, first the last of those behind are taken, and then the last of the list. This
-- is as many of the list as are left to take, and of those behind.
abbrev pub of_list : List ℕ → ℕ → ℕ
of_list more count = count - min count (length more)

items_few : (xs more : List ℕ) (count : ℕ) → count ≤ length more
    → take (length xs - of_list more count) xs ++ take (length more - min count (length more)) more ≡ take (length (xs ++ more) - count) (xs ++ more)
items_few xs more count few =
    let all : length xs - of_list more count ≡ length xs = omega (arith, few) in
    let some : length more - min count (length more) ≡ length more - count = omega (arith, few) in
    let both : length (xs ++ more) - count ≡ length xs + (length more - count) = rw (length-append xs more) (omega (arith, few)) in
    rw (all, some, both, whole_take xs (length xs) refl) (sym (take-append-add xs more (length more - count)))

items_many : (xs more : List ℕ) (count : ℕ) → length more ≤ count → count ≤ length xs + length more
    → take (length xs - of_list more count) xs ++ take (length more - min count (length more)) more ≡ take (length (xs ++ more) - count) (xs ++ more)
items_many xs more count many few =
    let left : length xs - of_list more count ≡ length xs + length more - count = omega (arith, many, few) in
    let none : length more - min count (length more) ≡ 0 = omega (arith, many) in
    let both : length (xs ++ more) - count ≡ length xs + length more - count = rw (length-append xs more) refl in
    rw (left, none, both, take-append-le (length xs + length more - count) xs more (omega (arith, many, few))) (append-nil (take (length xs + length more - count) xs))

pub taken_items : (xs more : List ℕ) (count : ℕ) → count ≤ length xs + length more
    → take (length xs - of_list more count) xs ++ take (length more - min count (length more)) more ≡ take (length (xs ++ more) - count) (xs ++ more)
taken_items xs more count few = elim (cases_order count (length more)) [
  | inl same ↦ items_few xs more count (omega (arith, same))
  | inr (inl less) ↦ items_few xs more count (omega (arith, less))
  | inr (inr above) ↦ items_many xs more count (omega (arith, above)) few
]

drop_few : (xs more : List ℕ) (count : ℕ) → count ≤ length more
    → drop (length xs - of_list more count) xs ++ drop (length more - min count (length more)) more ≡ drop (length (xs ++ more) - count) (xs ++ more)
drop_few xs more count few =
    let all : length xs - of_list more count ≡ length xs = omega (arith, few) in
    let some : length more - min count (length more) ≡ length more - count = omega (arith, few) in
    let both : length (xs ++ more) - count ≡ length xs + (length more - count) = rw (length-append xs more) (omega (arith, few)) in
    rw (all, some, both, whole_drop xs (length xs) refl) (sym (drop-append-add xs more (length more - count)))

drop_many : (xs more : List ℕ) (count : ℕ) → length more ≤ count → count ≤ length xs + length more
    → drop (length xs - of_list more count) xs ++ drop (length more - min count (length more)) more ≡ drop (length (xs ++ more) - count) (xs ++ more)
drop_many xs more count many few =
    let left : length xs - of_list more count ≡ length xs + length more - count = omega (arith, many, few) in
    let none : length more - min count (length more) ≡ 0 = omega (arith, many) in
    let both : length (xs ++ more) - count ≡ length xs + length more - count = rw (length-append xs more) refl in
    rw (left, none, both) (sym (drop-append-le (length xs + length more - count) xs more (omega (arith, many, few))))

pub taken_popped : (xs more : List ℕ) (count : ℕ) → count ≤ length xs + length more
    → reverse (drop (length more - min count (length more)) more) ++ reverse (drop (length xs - of_list more count) xs) ≡ reverse (drop (length (xs ++ more) - count) (xs ++ more))
taken_popped xs more count few =
    let both : drop (length xs - of_list more count) xs ++ drop (length more - min count (length more)) more ≡ drop (length (xs ++ more) - count) (xs ++ more) = elim (cases_order count (length more)) [
      | inl same ↦ drop_few xs more count (omega (arith, same))
      | inr (inl less) ↦ drop_few xs more count (omega (arith, less))
      | inr (inr above) ↦ drop_many xs more count (omega (arith, above)) few
    ] in
    sym (reverse-append (drop (length xs - of_list more count) xs) (drop (length more - min count (length more)) more)) ∙ ap reverse both
