-- The decimal at the front of a text, and what follows it.
use Rattle.std.proofs.Common.{rules, ◌≡◌, ℕ, ◌<◌, ◌≤◌, ◌^◌, List, ◌++◌, take, drop, sym, ap, ◌∙◌, arith}
use Rattle.std.specs.List.{prefix_len}
use Rattle.std.specs.Char.{is_ascii_digit}
use Rattle.std.specs.Fmt.{decimal}
use Rattle.std.specs.Str.Parse.{digits_value}
use Rattle.std.proofs.lemmas.Fmt.{digits_decimal, decimal_injective}
use Rattle.std.proofs.lemmas.Str.Parse.{IsNumeralModel, numerals_by_value}
use Rattle.decimals.specs.Runs.{AllBelong}
use Rattle.decimals.specs.Texts.{IsDecimalThen}
use Rattle.decimals.proofs.Runs.{runs_apart, run_ends, run_split, split_parts}

abbrev pub Digits : List ℕ → Type 0
Digits text = AllBelong is_ascii_digit text

own : IsNumeralModel Digits (digits_value 10)
own = numerals_by_value Digits (search rules)

decimal_digits : (n : ℕ) → n < 2 ^ 64 → Digits (decimal n)
decimal_digits n small = digits_decimal own n small

pub one_way : (most : ℕ) (text : List ℕ) (m n : ℕ) (rest rest' : List ℕ) → most < 2 ^ 64 → IsDecimalThen most text m rest → IsDecimalThen most text n rest' → (m ≡ n) × (rest ≡ rest')
one_way most text m n rest rest' small a b =
    let below : m < 2 ^ 64 = omega (arith, a.within) in
    let below' : n < 2 ^ 64 = omega (arith, b.within) in
    let parts = runs_apart is_ascii_digit (decimal m) (decimal n) rest rest' (decimal_digits m below) (decimal_digits n below') a.ends b.ends (a.written ∙ sym b.written) in
    (decimal_injective m n below below' parts.0, parts.1)

-- if the text is a decimal and then a rest, its run of digits is this decimal
pub run_written : (most k : ℕ) (text : List ℕ) (n : ℕ) (rest : List ℕ) → most < 2 ^ 64 → k ≡ prefix_len is_ascii_digit text → IsDecimalThen most text n rest → take k text ≡ decimal n
run_written most k text n rest small is a = (run_split is_ascii_digit k text is (decimal n) rest (decimal_digits n (omega (arith, a.within))) a.ends a.written).0

-- if the run is the decimal of a number within the bound, the text is this decimal and then the rest
pub run_read : (most k : ℕ) (text digits rest : List ℕ) (n : ℕ) → k ≡ prefix_len is_ascii_digit text → digits ≡ take k text → rest ≡ drop k text → digits ≡ decimal n → n ≤ most → IsDecimalThen most text n rest
run_read most k text digits rest n is front back written within = record {
  written = ap (λ d. d ++ rest) (sym written) ∙ split_parts k text digits rest front back;
  ends = run_ends is_ascii_digit k text is rest back;
  within = within;
}
