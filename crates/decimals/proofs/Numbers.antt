-- Which tokens are decimal numbers.
use Rattle.std.proofs.Common.{◌≡◌, ℕ, zero, suc, ◌<◌, ◌^◌, List, [], ◌∷◌, length, get_or, Option, Result, Ok, Err, IfSome, IfNone, sym, ap, ◌∙◌, arith}
use Rattle.std.specs.Fmt.{decimal}
use Rattle.std.specs.Result.{result_ok}
use Rattle.std.specs.Str.{IsUtf8}
use Rattle.std.specs.Str.Parse.{AllDigits, digits_value, ParsesUnsigned}
use Rattle.std.proofs.lemmas.Fmt.{decimal-digits_value, decimal_digit, first_decimal, parse-decimal, IsAscii-decimal}
use Rattle.std.proofs.lemmas.Str.{IsUtf8-from_ascii}
use Rattle.std.proofs.lemmas.Str.Parse.{IsNumeralModel, numerals_by_value, tells_digits, parse_plain}
use Rattle.decimals.specs.Code.Fronts.{BeginsPlain}

own : IsNumeralModel (AllDigits 10) (digits_value 10)
own = numerals_by_value (AllDigits 10) tells_digits

plain_of : (n : ℕ) (token : List ℕ) → n < 2 ^ 64 → token ≡ decimal n → BeginsPlain token
plain_of zero token fits is =
    let digit : token ≡ 48 ∷ [] = is ∙ decimal_digit 0 (omega arith) in
    (λ plus. let at : get_or token 0 0 ≡ 48 = ap (λ t. get_or t 0 0) digit in absurd (omega arith), λ _. ap length digit)
plain_of (suc m) token fits is =
    let large : 48 < get_or (decimal (suc m)) 0 0 = first_decimal (suc m) (omega arith) fits in
    let at : get_or token 0 0 ≡ get_or (decimal (suc m)) 0 0 = ap (λ t. get_or t 0 0) is in
    (λ plus. absurd (omega arith), λ none. absurd (omega arith))

-- a token that fails the check `BeginsPlain` is no decimal
pub plain_decimal : (token : List ℕ) → (BeginsPlain token → ⊥) → (n : ℕ) → n < 2 ^ 64 → token ≡ decimal n → ⊥
plain_decimal token not_plain n fits is = not_plain (plain_of n token (omega arith) is)

-- if the check holds and parsing gives a number, the token is its decimal
pub some_number : {E : Type 0} (token : List ℕ) (r : Result ℕ E) (found : Option ℕ) → BeginsPlain token → ParsesUnsigned 64 10 token r → found ≡ result_ok r → IfSome found (λ n. token ≡ decimal n)
some_number token (Err e) found plain parsed is = rw is tt
some_number {E = E} token (Ok n) found plain parsed is =
    let read = parse_plain own {E = E} 64 token (Ok n) parsed plain.0 in
    let written : decimal (digits_value 10 token) ≡ token = decimal-digits_value own token read.0.0 read.0.1 plain.1 (omega (arith, read.0.2)) in
    rw is (sym written ∙ ap decimal (sym read.1))

-- if parsing gives no number, the token is the decimal of none below 2^64
pub no_number : {E : Type 0} (token : List ℕ) (r : Result ℕ E) (found : Option ℕ) → ParsesUnsigned 64 10 token r → found ≡ result_ok r
    → IfNone found ((n : ℕ) → n < 2 ^ 64 → token ≡ decimal n → ⊥)
no_number token (Ok x) found parsed is = rw is tt
no_number token (Err e) found parsed is = rw is (λ n fits spelled. let read = parse-decimal 64 n token (Err e) fits (omega arith) spelled parsed in cc)

-- a token that is not UTF-8 is no decimal
pub utf8_decimal : (token : List ℕ) → ¬ IsUtf8 token → (n : ℕ) → n < 2 ^ 64 → token ≡ decimal n → ⊥
utf8_decimal token not_text n fits is = not_text (rw is (IsUtf8-from_ascii (decimal n) (IsAscii-decimal n (omega arith))))
