-- Rows of places, which ascend.
use Rattle.std.proofs.Common.{◌≡◌, ℕ, zero, suc, ◌+◌, ◌<◌, ◌≤◌, List, ◌++◌, length, arith, length-append}
use Rattle.std.proofs.lemmas.List.FromFn.{length-range_with_len}
use Rattle.std.specs.List.{AllByRecursion, range_with_len}
use Rattle.key_sets.specs.Keys.{StrictlyAscends}
use Rattle.key_sets.proofs.KeyLemmas.Ascending.{ascends_both}
use Rattle.seq_objects.proofs.Elements.{each_append, each_so}

-- the places of a, b, c and d pieces of counters, stacks, trees and queues
abbrev pub four_rows : ℕ → ℕ → ℕ → ℕ → List ℕ
four_rows a b c d = range_with_len 0 a ++ range_with_len 16 b ++ range_with_len 32 c ++ range_with_len 48 d

pub record IsRow (low high : ℕ) (places : List ℕ) : Type 0 where
  pub from : AllByRecursion (λ k. low ≤ k) places
  pub below : AllByRecursion (λ k. k < high) places
  pub ascend : StrictlyAscends places

range_row : (a n b : ℕ) → a + n ≤ b → IsRow a b (range_with_len a n)
range_row a zero b le = record { from = tt; below = tt; ascend = tt }
range_row a (suc n) b le =
    let later = range_row (a + 1) n b (omega (arith, le)) in
    record {
      from = (omega arith, each_so (λ k. a + 1 ≤ k) (λ k. a ≤ k) (λ k above. omega (arith, above)) (range_with_len (a + 1) n) later.from);
      below = (omega (arith, le), later.below);
      ascend = (each_so (λ k. a + 1 ≤ k) (λ k. a < k) (λ k above. omega (arith, above)) (range_with_len (a + 1) n) later.from, later.ascend);
    }

-- a row that continues another forms one row with it
two_rows : (a b c : ℕ) (low high : List ℕ) → a ≤ b → b ≤ c → IsRow a b low → IsRow b c high → IsRow a c (low ++ high)
two_rows a b c low high le le' l h = record {
  from = each_append (λ k. a ≤ k) low high l.from (each_so (λ k. b ≤ k) (λ k. a ≤ k) (λ k above. omega (arith, above, le)) high h.from);
  below = each_append (λ k. k < c) low high (each_so (λ k. k < b) (λ k. k < c) (λ k under. omega (arith, under, le')) low l.below) h.below;
  ascend = ascends_both low high l.ascend h.ascend
      (each_so (λ k. k < b) (λ k. AllByRecursion (λ j. k < j) high) (λ k under. each_so (λ j. b ≤ j) (λ j. k < j) (λ j above. omega (arith, under, above)) high h.from) low l.below);
}

pub row_of_four : (a b c d : ℕ) → a ≤ 16 → b ≤ 16 → c ≤ 16 → d ≤ 8 → IsRow 0 56 (four_rows a b c d)
row_of_four a b c d few_a few_b few_c few_d =
    let two = two_rows 0 16 32 _ _ (omega arith) (omega arith) (range_row 0 a 16 (omega (arith, few_a))) (range_row 16 b 32 (omega (arith, few_b))) in
    let three = two_rows 0 32 48 _ _ (omega arith) (omega arith) two (range_row 32 c 48 (omega (arith, few_c))) in
    two_rows 0 48 56 _ _ (omega arith) (omega arith) three (range_row 48 d 56 (omega (arith, few_d)))

pub length_of_four : (a b c d : ℕ) → length (four_rows a b c d) ≡ a + b + c + d
length_of_four a b c d = simp (length-append, length-range_with_len)

-- there is a piece if some structure has calls
pub some_rows : (p q r s a b c d : ℕ) → (0 < p → 1 ≤ a) → (0 < q → 1 ≤ b) → (0 < r → 1 ≤ c) → (0 < s → 1 ≤ d) → 0 < p + q + r + s → 0 < a + b + c + d
some_rows p q r s a b c d i j k l some = grind arith

-- there are at most 56 pieces
pub some_and_few : (n a b c d : ℕ) → n ≡ a + b + c + d → 0 < a + b + c + d → a ≤ 16 → b ≤ 16 → c ≤ 16 → d ≤ 8 → (1 ≤ n) × (n ≤ 56)
some_and_few n a b c d is some few_a few_b few_c few_d = (omega (arith, some, is), omega (arith, few_a, few_b, few_c, few_d, is))
