-- The values of runs of digits.
use Rattle.std.proofs.Common.{◌≡◌, ℕ, suc, ◌+◌, ◌-◌, ◌*◌, ◌<◌, ◌≤◌, ◌^◌, List, [], ◌∷◌, length, get_or, drop, Bool, true, false, refl, sym, ap, ◌∙◌, arith}
use Rattle.std.specs.Prelude.{Some, None, ◌==◌, ◌&&◌, not, if◌then◌else◌, nat_lt}
use Rattle.std.specs.List.{list_all}
use Rattle.std.proofs.Math.Seq.{drop-cons, drop-length}
use Rattle.job_syntax.specs.Words.{is_digit, are_digits, begins_well, digits_from, number_of}

-- a non-empty text is a run of digits if each byte is a digit
pub some_digits : (text : List ℕ) → (length text == 0) ≡ false → are_digits text ≡ list_all is_digit text
some_digits [] some = absurd (cc some)
some_digits (byte ∷ text) some = refl

-- more digits do not make the value smaller
pub digits_grow : (number : ℕ) (digits : List ℕ) → number ≤ digits_from number digits
digits_grow number [] = omega arith
digits_grow number (digit ∷ digits) = omega (arith, digits_grow (10 * number + (digit - 48)) digits)

chosen_none : (well fits : Bool) (number : ℕ) → fits ≡ false → (if well && fits then Some number else None) ≡ None
chosen_none true false number large = refl
chosen_none false false number large = refl
chosen_none _ true number large = absurd (cc large)

none_when_large : (digits : List ℕ) → 2 ^ 32 ≤ digits_from 0 digits → number_of digits ≡ None
none_when_large digits large = chosen_none (begins_well digits) (nat_lt (digits_from 0 digits) (2 ^ 32)) (digits_from 0 digits) (grind (arith, large))

-- where a digit makes the value exceed 32 bits, the run has no number
pub none_when_digit_large :
    (digits : List ℕ) (index number : ℕ) → digits_from number (drop index digits) ≡ digits_from 0 digits → index < length digits →
    2 ^ 32 ≤ 10 * number + (get_or digits index 0 - 48) → number_of digits ≡ None
none_when_digit_large digits index number same more large =
    let next = 10 * number + (get_or digits index 0 - 48) in
    let parts : digits_from next (drop (suc index) digits) ≡ digits_from 0 digits = ap (digits_from number) (sym (drop-cons digits index 0 more)) ∙ same in
    none_when_large digits (omega (arith, digits_grow next (drop (suc index) digits), parts, large))

chosen_some : (well fits : Bool) (number : ℕ) → well ≡ true → fits ≡ true → (if well && fits then Some number else None) ≡ Some number
chosen_some true true number a b = refl
chosen_some false _ number a b = absurd (cc a)
chosen_some _ false number a b = absurd (cc b)

some_when_small : (digits : List ℕ) (number : ℕ) → begins_well digits ≡ true → digits_from 0 digits ≡ number → number < 2 ^ 32 → number_of digits ≡ Some number
some_when_small digits number well is small =
    chosen_some (begins_well digits) (nat_lt (digits_from 0 digits) (2 ^ 32)) (digits_from 0 digits) well (grind (arith, is, small)) ∙ ap Some is

well_when : (well : Bool) → false ≡ not well → well ≡ true
well_when true e = refl
well_when false e = absurd (cc e)

-- where the value still fits after the last digit, the run has this number
pub some_at_end :
    (digits : List ℕ) (index number : ℕ) → digits_from number (drop index digits) ≡ digits_from 0 digits → index ≡ length digits →
    number < 2 ^ 32 → false ≡ not (begins_well digits) → number_of digits ≡ Some number
some_at_end digits index number same ends small well =
    let left : drop index digits ≡ [] = ap (λ n. drop n digits) ends ∙ drop-length digits in
    some_when_small digits number (well_when (begins_well digits) well) (sym same ∙ ap (digits_from number) left) small
