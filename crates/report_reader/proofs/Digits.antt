-- Decimals of all numbers: their digits, the first and the last of them.
use Rattle.std.proofs.Common.{◌≡◌, ◌≢◌, ℕ, zero, suc, ◌+◌, ◌/◌, ◌%◌, ◌<◌, Bool, true, false, List, [], ◌∷◌, ◌++◌, get_or, refl, sym, ap, ◌∙◌, mod-lt, arith}
use Rattle.std.specs.Prelude.{◌==◌, if◌then◌else◌}
use Rattle.std.specs.Char.{is_ascii_digit}
use Rattle.std.specs.Fmt.{decimal, digits, digits_onto, digit_glyph}
use Rattle.std.proofs.lemmas.Bool.Decides.{nat_tests}
use Rattle.decimals.proofs.Decimals.{Digits}

glyph_at : (d : ℕ) → d < 10 → digit_glyph false d ≡ 48 + d
glyph_at d small = grind (arith, nat_tests)

glyph_digit : (d : ℕ) → d < 10 → is_ascii_digit (digit_glyph false d) ≡ true
glyph_digit d small = rw (glyph_at d small) (grind (arith, nat_tests))

digits_if : (last : Bool) (xs ys : List ℕ) → Digits xs → Digits ys → Digits (if last then xs else ys)
digits_if true xs ys dx dy = dx
digits_if false xs ys dx dy = dy

onto_digits : (k n : ℕ) (acc : List ℕ) → Digits acc → Digits (digits_onto k 10 false n acc)
onto_digits zero n acc d = d
onto_digits (suc k) n acc d =
    let glyph : is_ascii_digit (digit_glyph false (n % 10)) ≡ true = glyph_digit (n % 10) (mod-lt n (omega arith)) in
    digits_if (n / 10 == 0) (digit_glyph false (n % 10) ∷ acc) (digits_onto k 10 false (n / 10) (digit_glyph false (n % 10) ∷ acc)) (glyph, d)
    (onto_digits k (n / 10) (digit_glyph false (n % 10) ∷ acc) (glyph, d))

pub decimal_digits : (n : ℕ) → Digits (decimal n)
unfolding digits
decimal_digits n = onto_digits 64 n [] tt

-- the last of a list of bytes
abbrev last_of : List ℕ → ℕ
last_of [] = 0
last_of (x ∷ []) = x
last_of (x ∷ y ∷ xs) = last_of (y ∷ xs)

last_if : (is : Bool) (xs ys : List ℕ) (n : ℕ) → last_of xs ≡ n → last_of ys ≡ n → last_of (if is then xs else ys) ≡ n
last_if true xs ys n a b = a
last_if false xs ys n a b = b

onto_last : (k n x : ℕ) (acc : List ℕ) → last_of (digits_onto k 10 false n (x ∷ acc)) ≡ last_of (x ∷ acc)
onto_last zero n x acc = refl
onto_last (suc k) n x acc =
    last_if (n / 10 == 0) (digit_glyph false (n % 10) ∷ x ∷ acc) (digits_onto k 10 false (n / 10) (digit_glyph false (n % 10) ∷ x ∷ acc)) (last_of (x ∷ acc)) refl
    (onto_last k (n / 10) (digit_glyph false (n % 10)) (x ∷ acc))

first_last : (k n : ℕ) → last_of (digits_onto (suc k) 10 false n []) ≡ 48 + n % 10
first_last k n =
    let glyph : digit_glyph false (n % 10) ≡ 48 + n % 10 = glyph_at (n % 10) (mod-lt n (omega arith)) in
    last_if (n / 10 == 0) (digit_glyph false (n % 10) ∷ []) (digits_onto k 10 false (n / 10) (digit_glyph false (n % 10) ∷ [])) (48 + n % 10) glyph
    (onto_last k (n / 10) (digit_glyph false (n % 10)) [] ∙ glyph)

decimal_last : (n : ℕ) → last_of (decimal n) ≡ 48 + n % 10
unfolding digits
decimal_last n = first_last 63 n

-- a decimal is not that of the next number
pub next_decimal : (n : ℕ) → decimal n ≢ decimal (n + 1)
next_decimal n same =
    let lasts : 48 + n % 10 ≡ 48 + (n + 1) % 10 = sym (decimal_last n) ∙ ap last_of same ∙ decimal_last (n + 1) in
    omega (arith, lasts)

some_digits : (n : ℕ) → decimal n ≢ []
some_digits n none =
    let last : 48 + n % 10 ≡ 0 = sym (decimal_last n) ∙ ap last_of none in
    omega (arith, last)

begins_digit : (xs rest : List ℕ) → xs ≢ [] → Digits xs → is_ascii_digit (get_or (xs ++ rest) 0 0) ≡ true
begins_digit [] rest some d = absurd (some refl)
begins_digit (x ∷ xs) rest some d = d.0

-- a decimal begins with a digit
pub decimal_begins : (n : ℕ) (rest : List ℕ) → is_ascii_digit (get_or (decimal n ++ rest) 0 0) ≡ true
decimal_begins n rest = begins_digit (decimal n) rest (some_digits n) (decimal_digits n)
