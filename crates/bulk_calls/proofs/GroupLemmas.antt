-- The number of starts that are at most a key is its group.
use Rattle.std.proofs.Common.{◌≡◌, ℕ, zero, suc, ◌<◌, ◌≤◌, inl, inr, true, false, nat_lt, List, [], ◌∷◌, length, get_or, min, refl, ap, sym, ◌∙◌, arith}
use Rattle.std.specs.List.{AllByRecursion}
use Rattle.std.proofs.lemmas.Bool.Decides.{nat_tests}
use Rattle.key_sets.specs.Keys.{StrictlyAscends}
use Rattle.key_sets.specs.Groups.{group_of}
use Rattle.std.proofs.lemmas.Bool.{cases_lt}
use Rattle.bulk_calls.specs.Code.Lookup.{IsFilled, Rises, IsBetween}

-- the place of the first start above a key is its group
boundary : (key r : ℕ) (starts : List ℕ) → r ≤ length starts → ((i : ℕ) → i < r → get_or starts i 0 ≤ key)
    → (r < length starts → key < get_or starts r 0) → group_of key starts ≡ r
boundary key zero [] within below above = refl
boundary key (suc r) [] within below above = absurd (omega (arith, within))
boundary key zero (start ∷ starts) within below above =
    let less : key < start = above (omega arith) in
    let test : nat_lt key start ≡ true = grind (arith, nat_tests, less) in
    rw test refl
boundary key (suc r) (start ∷ starts) within below above =
    let le : start ≤ key = below 0 (omega arith) in
    let test : nat_lt key start ≡ false = grind (arith, nat_tests, le) in
    let rest = boundary key r starts (omega (arith, within)) (λ i less. below (suc i) (omega (arith, less))) (λ less. above (omega (arith, less))) in
    rw test (ap suc rest)

-- starts that ascend rise, and so do the places that they fill
rises_in : (starts : List ℕ) → StrictlyAscends starts → (i j : ℕ) → i ≤ j → j < length starts → get_or starts i 0 ≤ get_or starts j 0
rises_in [] up i j le less = absurd (omega (arith, less))
rises_in (start ∷ starts) up zero zero le less = omega arith
rises_in (start ∷ starts) up zero (suc j) le less = above start starts j up.0 (omega (arith, less)) where
  above : (start : ℕ) (starts : List ℕ) (j : ℕ) → AllByRecursion (λ k. start < k) starts → j < length starts → start ≤ get_or starts j 0
  above start [] j all less = absurd (omega (arith, less))
  above start (k ∷ starts) zero all less = omega (arith, all.0)
  above start (k ∷ starts) (suc j) all less = above start starts j all.1 (omega (arith, less))
rises_in (start ∷ starts) up (suc i) zero le less = absurd (omega (arith, le))
rises_in (start ∷ starts) up (suc i) (suc j) le less = rises_in starts up.1 i j (omega (arith, le)) (omega (arith, less))

pub filled_rises : (starts places : List ℕ) → StrictlyAscends starts → ((i : ℕ) → get_or starts i 0 ≤ 4294967295) → IsFilled starts places → Rises places
filled_rises starts places up small filled i j le less = elim (cases_lt j (length starts)) [
  | inl front ↦
      let low = filled.front i (omega (arith, le, front)) in
      let high = filled.front j front in
      rw (low, high) (rises_in starts up i j le front)
  | inr behind ↦
      let high = filled.behind j behind less in
      rw high (any i (omega (arith, le, less)))
] where
  any : (i : ℕ) → i < 15 → get_or places i 0 ≤ 4294967295
  any i within = elim (cases_lt i (length starts)) [
    | inl front ↦ rw (filled.front i front) (small i)
    | inr behind ↦ rw (filled.behind i behind within) (omega arith)
  ]

-- the group is found
pub group_found : (key group : ℕ) (starts places : List ℕ) → IsFilled starts places → length starts ≤ 15 → IsBetween key places group 1
    → min group (length starts) ≡ group_of key starts
group_found key group starts places filled fits between = elim (cases_lt group (length starts)) [
  | inl front ↦
      let is : min group (length starts) ≡ group = omega (arith, front) in
      let first : key < get_or places group 0 = between.above group (omega arith) (omega (arith, front, fits)) in
      is ∙ sym (boundary key group starts (omega (arith, front))
      (λ i less. rw (sym (filled.front i (omega (arith, less, front)))) (between.below i less))
      (λ less. rw (sym (filled.front group front)) first))
  | inr behind ↦
      let is : min group (length starts) ≡ length starts = omega (arith, behind) in
      is ∙ sym (boundary key (length starts) starts (omega arith)
      (λ i less. rw (sym (filled.front i less)) (between.below i (omega (arith, less, behind))))
      (λ less. absurd (omega (arith, less))))
]
