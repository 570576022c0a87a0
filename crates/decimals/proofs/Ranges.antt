-- Which words are the decimal of a number between two bounds.
use Rattle.std.proofs.Common.{◌≡◌, ℕ, ◌<◌, ◌≤◌, ◌^◌, List, Bool, true, false, ◌⊎◌, inl, inr, Some, None, refl, sym, ap, ◌∙◌, arith}
use Rattle.std.specs.Prelude.{◌&&◌, nat_le, if◌then◌else◌}
use Rattle.std.proofs.lemmas.Bool.Decides.{nat_tests}
use Rattle.std.specs.Str.{bytes_eq}
use Rattle.std.specs.Str.Parse.{digits_value}
use Rattle.std.specs.Fmt.{decimal}
use Rattle.std.proofs.lemmas.Slice.Eq.{bytes_eq-Decides}
use Rattle.std.proofs.lemmas.Fmt.{decimal_is_IsNumeral}
use Rattle.decimals.specs.Words.{number_between}

-- the digits of a number's decimal have the number as their value
value_written : (n : ℕ) (word : List ℕ) → n < 2 ^ 64 → word ≡ decimal n → digits_value 10 word ≡ n
value_written n word small is = ap (digits_value 10) is ∙ (decimal_is_IsNumeral n small).1

found_at : (same : Bool) (least most value n : ℕ) → same ≡ true → value ≡ n → least ≤ n → n ≤ most
    → (if same && nat_le least value && nat_le value most then Some value else None) ≡ Some n
found_at same least most value n is is' from to = grind (arith, nat_tests)

-- the decimal of a number within the bounds is read as that number
pub number_found : (least most n : ℕ) (word : List ℕ) → n < 2 ^ 64 → word ≡ decimal n → least ≤ n → n ≤ most → number_between least most word ≡ Some n
number_found least most n word small is from to =
    let value = value_written n word small is in
    found_at (bytes_eq word (decimal (digits_value 10 word))) least most (digits_value 10 word) n
    ((bytes_eq-Decides word (decimal (digits_value 10 word))).1 (is ∙ ap decimal (sym value))) value from to

none_at : (same : Bool) (least most value : ℕ) → (same ≡ true → least ≤ value → value ≤ most → ⊥)
    → (if same && nat_le least value && nat_le value most then Some value else None) ≡ None
none_at false least most value other = refl
none_at true least most value other = grind (arith, nat_tests)

-- a word that is the decimal of no number within the bounds is read as none
pub no_number_found : (least most : ℕ) (word : List ℕ) → ((n : ℕ) → least ≤ n → n ≤ most → word ≡ decimal n → ⊥) → number_between least most word ≡ None
no_number_found least most word other =
    none_at (bytes_eq word (decimal (digits_value 10 word))) least most (digits_value 10 word)
    (λ same from to. other (digits_value 10 word) from to ((bytes_eq-Decides word (decimal (digits_value 10 word))).0 same))

-- the decimal of a number outside the bounds is read as none
pub outside : (least most n : ℕ) (word : List ℕ) → most < 2 ^ 64 → n < 2 ^ 64 → word ≡ decimal n → (n < least) ⊎ (most < n) → number_between least most word ≡ None
outside least most n word small small' is far =
    no_number_found least most word (λ m from to is'.
    let same : m ≡ n = sym (value_written m word (omega (arith, small, to)) is') ∙ value_written n word small' is in elim far [
      | inl h ↦ omega (arith, same, from, h)
      | inr h ↦ omega (arith, same, to, h)
    ])

bounds_at : (same : Bool) (least most value n : ℕ) → (if same && nat_le least value && nat_le value most then Some value else None) ≡ Some n → (least ≤ n) × (n ≤ most)
bounds_at false least most value n found = cc
bounds_at true least most value n found = grind (arith, nat_tests)

-- a number that is read is within the bounds
pub found_within : (least most n : ℕ) (word : List ℕ) → number_between least most word ≡ Some n → (least ≤ n) × (n ≤ most)
found_within least most n word found = bounds_at (bytes_eq word (decimal (digits_value 10 word))) least most (digits_value 10 word) n found

same_at : (same : Bool) (least most value n : ℕ) → (if same && nat_le least value && nat_le value most then Some value else None) ≡ Some n → (same ≡ true) × (value ≡ n)
same_at false least most value n found = cc
same_at true least most value n found = grind (arith, nat_tests)

-- if a number is read, the word is its decimal
pub found_written : (least most n : ℕ) (word : List ℕ) → number_between least most word ≡ Some n → word ≡ decimal n
found_written least most n word found =
    let is = same_at (bytes_eq word (decimal (digits_value 10 word))) least most (digits_value 10 word) n found in
    (bytes_eq-Decides word (decimal (digits_value 10 word))).0 is.0 ∙ ap decimal is.1
