-- The replies of each group to its own operations, and their merge.
use Rattle.std.proofs.Common.{◌≡◌, ℕ, zero, suc, ◌+◌, ◌<◌, ◌≤◌, inl, inr, true, false, ◌==◌, nat_lt, List, [], ◌∷◌, ◌++◌, length, map, drop, get_or, set, refl, ap, sym, subst, ◌∙◌, arith, length-set}
use Rattle.std.specs.List.{AllByRecursion}
use Rattle.std.proofs.lemmas.Bool.Decides.{nat_tests}
use Rattle.std.proofs.lemmas.List.{get_or-set_same, get_or-set_other}
use Rattle.key_sets.specs.Groups.{group_of}
use Rattle.std.proofs.lemmas.Bool.{cases_lt}
use Rattle.keyed_pieces.specs.Dealing.{of_group, HaveReplies}
use Rattle.keyed_pieces.specs.Keyed.{AscendsBy, AreBelow, AreFrom, AreKeyed, replies_to_each}
use Rattle.keyed_pieces.specs.Ranges.{below, from, ranges, replies_by_range, merged}
use Rattle.keyed_pieces.proofs.DealLemmas.{same_or_other, is_same, are_apart, have_replies}
use Rattle.keyed_pieces.proofs.Sides.{all_below, all_from, both_sides, ascends_from, same_next}

-- a group has equally many items of two lists of equal length
same_count : {X Y : Type 0} (g : ℕ) (groups : List ℕ) (xs : List X) (ys : List Y) → length groups ≡ length xs → length groups ≡ length ys
    → length (of_group g groups xs) ≡ length (of_group g groups ys)
same_count g [] xs ys same same' = refl
same_count g (h ∷ groups) [] ys same same' = absurd (omega (arith, same))
same_count g (h ∷ groups) (x ∷ xs) [] same same' = absurd (omega (arith, same'))
same_count g (h ∷ groups) (x ∷ xs) (y ∷ ys) same same' =
    let rest = same_count g groups xs ys (omega (arith, same)) (omega (arith, same')) in
    elim (same_or_other h g) [
      | inl is ↦ let test : (h == g) ≡ true = grind (arith, nat_tests, is) in rw test (ap suc rest)
      | inr other ↦ rw other rest
    ]

pub merged_back : {R : Type 0} (none : R) (groups : List ℕ) (replies : List R) (lists : List (List R)) → length groups ≡ length replies
    → AllByRecursion (λ g. g < length lists) groups → ((g : ℕ) → g < length lists → get_or lists g [] ≡ of_group g groups replies)
    → merged none groups lists ≡ replies
merged_back none [] [] lists same within each = refl
merged_back none [] (r ∷ replies) lists same within each = absurd (omega (arith, same))
merged_back none (g ∷ groups) [] lists same within each = absurd (omega (arith, same))
merged_back none (g ∷ groups) (r ∷ replies) lists same within each =
    let mine = get_or lists g [] in
    let own : mine ≡ r ∷ of_group g groups replies = rw (is_same g) at (each g within.0) in
    let new = set lists g (drop 1 mine) in
    let long = length-set lists g (drop 1 mine) in
    let rest = merged_back none groups replies new (omega (arith, same)) (rw long within.1)
    (λ j less. elim (same_or_other g j) [
      | inl is ↦
          let here : get_or new g [] ≡ drop 1 mine = get_or-set_same lists g (drop 1 mine) [] within.0 in
          let left : get_or new g [] ≡ of_group g groups replies = here ∙ ap (drop 1) own in
          subst (λ k. get_or new k [] ≡ of_group k groups replies) is left
      | inr other ↦
          let there : get_or new j [] ≡ get_or lists j [] = get_or-set_other lists g j (drop 1 mine) [] (are_apart g j other) in
          there ∙ (rw other at (each j (rw long at less)))
    ]) in
    ap (λ reply. reply ∷ merged none groups new) (ap (λ xs. get_or xs 0 none) own) ∙ ap (λ rs. r ∷ rs) rest

pub have_dealt : {R : Type 0} (groups : List ℕ) (replies : List R) (lists : List (List R)) → length groups ≡ length replies
    → AllByRecursion (λ g. g < length lists) groups → ((g : ℕ) → g < length lists → get_or lists g [] ≡ of_group g groups replies)
    → HaveReplies groups lists
have_dealt groups replies lists same within each =
    have_replies groups lists within
    (λ g less.
    let count : length (of_group g groups groups) ≡ length (get_or lists g []) = same_count g groups groups replies refl same ∙ ap length (sym (each g less)) in
    omega (arith, count))

-- the replies of the ranges on either side of a key, where a batch is served on all entries
low_replies : {E O R : Type 0} (at : E → ℕ) (key : O → ℕ) (after : List E → O → List E) (reply : List E → O → R) → AreKeyed at key after reply
    → (b : ℕ) (starts : List ℕ) (ops : List O) (low high : List E) → AreBelow at b low → AreFrom at b high
    → replies_to_each after reply low (below key b ops) ≡ of_group 0 (map (λ op. group_of (key op) (b ∷ starts)) ops) (replies_to_each after reply (low ++ high) ops)
low_replies at key after reply laws b starts [] low high down up = refl
low_replies at key after reply laws b starts (op ∷ ops) low high down up = elim (cases_lt (key op) b) [
  | inl less ↦
      let test : nat_lt (key op) b ≡ true = grind (arith, nat_tests) in
      let rest = low_replies at key after reply laws b starts ops (after low op) high (laws.keeps_low b low op less down) up in
      rw (test, laws.low_reply b low high op less down up, laws.low_after b low high op less down up) (ap (λ rs. reply low op ∷ rs) rest)
  | inr le ↦
      let test : nat_lt (key op) b ≡ false = grind (arith, nat_tests) in
      let later : (suc (group_of (key op) starts) == 0) ≡ false = grind (arith, nat_tests) in
      let rest = low_replies at key after reply laws b starts ops low (after high op) down (laws.keeps_high b high op le up) in
      rw (test, later, laws.high_after b low high op le down up) rest
]

high_replies : {E O R : Type 0} (at : E → ℕ) (key : O → ℕ) (after : List E → O → List E) (reply : List E → O → R) → AreKeyed at key after reply
    → (b : ℕ) (starts : List ℕ) (g : ℕ) (ops : List O) (low high : List E) → AreBelow at b low → AreFrom at b high
    → of_group g (map (λ op. group_of (key op) starts) (from key b ops)) (replies_to_each after reply high (from key b ops))
    ≡ of_group (suc g) (map (λ op. group_of (key op) (b ∷ starts)) ops) (replies_to_each after reply (low ++ high) ops)
high_replies at key after reply laws b starts g [] low high down up = refl
high_replies {E} {O} {R} at key after reply laws b starts g (op ∷ ops) low high down up = elim (cases_lt (key op) b) [
  | inl less ↦
      let test : nat_lt (key op) b ≡ true = grind (arith, nat_tests) in
      let first : (0 == suc g) ≡ false = grind (arith, nat_tests) in
      let rest = high_replies at key after reply laws b starts g ops (after low op) high (laws.keeps_low b low op less down) up in
      rw (test, first, laws.low_after b low high op less down up) rest
  | inr le ↦
      let test : nat_lt (key op) b ≡ false = grind (arith, nat_tests) in
      let group = group_of (key op) starts in
      let rest = high_replies at key after reply laws b starts g ops low (after high op) down (laws.keeps_high b high op le up) in
      rw (test, same_next group g, laws.high_reply b low high op le down up, laws.high_after b low high op le down up) (elim (same_or_other group g) [
        | inl is ↦ let here : (group == g) ≡ true = grind (arith, nat_tests, is) in rw here (ap (λ rs. reply high op ∷ rs) rest)
        | inr other ↦ rw other rest
      ])
]

all_replies : {E O R : Type 0} (key : O → ℕ) (after : List E → O → List E) (reply : List E → O → R) (ops : List O) (entries : List E)
    → replies_to_each after reply entries ops ≡ of_group 0 (map (λ op. group_of (key op) []) ops) (replies_to_each after reply entries ops)
all_replies key after reply [] entries = refl
all_replies key after reply (op ∷ ops) entries = ap (λ rs. reply entries op ∷ rs) (all_replies key after reply ops (after entries op))

pub range_replies : {E O R : Type 0} (at : E → ℕ) (key : O → ℕ) (after : List E → O → List E) (reply : List E → O → R) → AreKeyed at key after reply
    → (starts : List ℕ) (entries : List E) (ops : List O) → AscendsBy at entries → (g : ℕ) → g ≤ length starts
    → get_or (replies_by_range after reply (ranges at starts entries) (ranges key starts ops)) g []
    ≡ of_group g (map (λ op. group_of (key op) starts) ops) (replies_to_each after reply entries ops)
range_replies at key after reply laws [] entries ops up zero le = all_replies key after reply ops entries
range_replies at key after reply laws [] entries ops up (suc g) le = absurd (omega (arith, le))
range_replies at key after reply laws (b ∷ starts) entries ops up zero le =
    low_replies at key after reply laws b starts ops (below at b entries) (from at b entries) (all_below at b entries) (all_from at b entries)
    ∙ ap (λ all. of_group 0 (map (λ op. group_of (key op) (b ∷ starts)) ops) (replies_to_each after reply all ops)) (sym (both_sides at b entries up))
range_replies at key after reply laws (b ∷ starts) entries ops up (suc g) le =
    range_replies at key after reply laws starts (from at b entries) (from key b ops) (ascends_from at b entries up) g (omega (arith, le))
    ∙ high_replies at key after reply laws b starts g ops (below at b entries) (from at b entries) (all_below at b entries) (all_from at b entries)
    ∙ ap (λ all. of_group (suc g) (map (λ op. group_of (key op) (b ∷ starts)) ops) (replies_to_each after reply all ops)) (sym (both_sides at b entries up))

pub group_answers : {O R : Type 0} (group : O → ℕ) (answer : O → R) (own : ℕ → O → R) (ops : List O) → AllByRecursion (λ op. own (group op) op ≡ answer op) ops
    → (g : ℕ) → map (own g) (of_group g (map group ops) ops) ≡ of_group g (map group ops) (map answer ops)
group_answers group answer own [] each g = refl
group_answers group answer own (op ∷ ops) each g =
    let rest = group_answers group answer own ops each.1 g in
    elim (same_or_other (group op) g) [
      | inl is ↦
          let here : (group op == g) ≡ true = grind (arith, nat_tests, is) in
          let mine : own g op ≡ answer op = subst (λ k. own k op ≡ answer op) is each.0 in
          rw (here, mine) (ap (λ rs. answer op ∷ rs) rest)
      | inr other ↦ rw other rest
    ]
