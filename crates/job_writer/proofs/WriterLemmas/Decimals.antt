-- A number in decimal is one token, which spells the number.
use Rattle.std.proofs.Common.{◌≡◌, ℕ, zero, suc, ◌+◌, ◌-◌, ◌*◌, ◌%◌, ◌<◌, ◌^◌, List, [], ◌∷◌, ◌++◌, length, get_or, Bool, true, false, not, ◌||◌, Some, None, refl, ap, subst, ◌∙◌, arith}
use Rattle.std.specs.Prelude.{◌==◌, if◌then◌else◌}
use Rattle.std.specs.Fmt.{decimal}
use Rattle.std.specs.List.{list_all}
use Rattle.std.proofs.lemmas.Bool.{and_parts, and_from, le-leb, leb-true, lt-ltb, ne_eqb}
use Rattle.std.proofs.lemmas.Fmt.{decimal_by_steps, decimal_digit, decimal_nonempty, first_decimal}
use Rattle.std.proofs.lemmas.List.Folds.{list_all-append}
use Rattle.std.proofs.lemmas.Grind.{common_steps}
use Rattle.job_syntax.specs.declared.lexer.word.Word.TheVariants.{Number}
use Rattle.job_syntax.specs.Text.{tokens_from, is_in_chunk, begins_in_chunk, before_tokens}
use Rattle.job_syntax.specs.Words.{is_digit, are_digits, digits_from, begins_well, number_of, argument_word, word_of}
use Rattle.job_syntax.proofs.LexerLemmas.Chunks.{tokens_first}

-- each byte of a decimal passes a test that each digit passes
pub each_byte : (test : ℕ → Bool) → ((digit : ℕ) → digit < 10 → test (48 + digit) ≡ true) → (n : ℕ) → n < 2 ^ 32 → list_all test (decimal n) ≡ true
each_byte test digits n small = decimal_by_steps (λ n bytes. list_all test bytes ≡ true)
    (λ n one. and_from (test (48 + n)) true (digits n one) refl)
    (λ n bytes large front. list_all-append test bytes ((48 + n % 10) ∷ []) ∙ and_from (list_all test bytes) (list_all test ((48 + n % 10) ∷ [])) front (and_from (test (48 + n % 10)) true (digits (n % 10) (omega arith)) refl))
    n (omega (arith, small))

digit_is : (digit : ℕ) → digit < 10 → is_digit (48 + digit) ≡ true
digit_is digit low = and_from _ _ (le-leb 48 (48 + digit) (omega arith)) (le-leb (48 + digit) 57 (omega (arith, low)))

-- a digit is a byte of a chunk
digit_in_chunk : (digit : ℕ) → digit < 10 → is_in_chunk (48 + digit) ≡ true
digit_in_chunk digit low = grind (arith, common_steps)

pub decimal_in_chunk : (n : ℕ) → n < 2 ^ 32 → list_all is_in_chunk (decimal n) ≡ true
decimal_in_chunk = each_byte is_in_chunk digit_in_chunk

-- the value of the digits

digits_behind : (number : ℕ) (digits : List ℕ) (last : ℕ) → digits_from number (digits ++ last ∷ []) ≡ 10 * digits_from number digits + (last - 48)
digits_behind number [] last = refl
digits_behind number (digit ∷ digits) last = digits_behind (10 * number + (digit - 48)) digits last

pub decimal_says : (n : ℕ) → n < 2 ^ 32 → digits_from 0 (decimal n) ≡ n
decimal_says n small = decimal_by_steps (λ n bytes. digits_from 0 bytes ≡ n)
    (λ n one. omega arith)
    (λ n bytes large front. digits_behind 0 bytes (48 + n % 10) ∙ omega (arith, front))
    n (omega (arith, small))

well_begun : (bytes : List ℕ) → 0 < length bytes → 48 < get_or bytes 0 0 → begins_well bytes ≡ true
well_begun [] some first = absurd (omega (arith, some))
well_begun (digit ∷ digits) some first = ap (λ b. not b || length digits == 0) (ne_eqb digit 48 (λ same. absurd (omega (arith, first, same))))

decimal_begins : (n : ℕ) → n < 2 ^ 32 → begins_well (decimal n) ≡ true
decimal_begins zero small = ap begins_well (decimal_digit 0 (omega arith))
decimal_begins (suc n) small = well_begun (decimal (suc n)) (decimal_nonempty (suc n) (omega (arith, small))) (first_decimal (suc n) (omega arith) (omega (arith, small)))

decimal_number : (n : ℕ) → n < 2 ^ 32 → number_of (decimal n) ≡ Some n
decimal_number n small = rw (decimal_begins n small, decimal_says n small) (ap (λ fits. if fits then Some n else None) (lt-ltb n (2 ^ 32) small))

-- no quoted word begins with a digit
digit_word : (digit : ℕ) (digits : List ℕ) → digit < 10 → word_of ((48 + digit) ∷ digits) ≡ argument_word ((48 + digit) ∷ digits)
digit_word zero digits low = refl
digit_word (suc zero) digits low = refl
digit_word (suc (suc zero)) digits low = refl
digit_word (suc (suc (suc zero))) digits low = refl
digit_word (suc (suc (suc (suc zero)))) digits low = refl
digit_word (suc (suc (suc (suc (suc zero))))) digits low = refl
digit_word (suc (suc (suc (suc (suc (suc zero)))))) digits low = refl
digit_word (suc (suc (suc (suc (suc (suc (suc zero))))))) digits low = refl
digit_word (suc (suc (suc (suc (suc (suc (suc (suc zero)))))))) digits low = refl
digit_word (suc (suc (suc (suc (suc (suc (suc (suc (suc zero))))))))) digits low = refl
digit_word (suc (suc (suc (suc (suc (suc (suc (suc (suc (suc digit)))))))))) digits low = absurd (omega (arith, low))

digits_argument : (bytes : List ℕ) → are_digits bytes ≡ true → argument_word bytes ≡ Number (number_of bytes)
digits_argument bytes digits = rw digits refl

digits_word : (bytes : List ℕ) → 0 < length bytes → list_all is_digit bytes ≡ true → word_of bytes ≡ Number (number_of bytes)
digits_word [] some digits = absurd (omega (arith, some))
digits_word (byte ∷ bytes) some digits =
    let first = (and_parts (is_digit byte) (list_all is_digit bytes) digits).0 in
    let range = and_parts _ _ first in
    let low = leb-true 48 byte range.0 in
    let high = leb-true byte 57 range.1 in
    let same : 48 + (byte - 48) ≡ byte = omega arith in
    subst (λ b. word_of (b ∷ bytes) ≡ argument_word (b ∷ bytes)) same (digit_word (byte - 48) bytes (omega arith)) ∙ digits_argument (byte ∷ bytes) digits

pub decimal_word : (n : ℕ) → n < 2 ^ 32 → word_of (decimal n) ≡ Number (Some n)
decimal_word n small =
    digits_word (decimal n) (decimal_nonempty n (omega (arith, small))) (each_byte is_digit digit_is n small) ∙ ap (λ number. Number number) (decimal_number n small)

-- bytes of a chunk are one token, where the text after them does not continue the chunk

pub chunk_token : (line : ℕ) (bytes rest : List ℕ) → 0 < length bytes → list_all is_in_chunk bytes ≡ true → begins_in_chunk rest ≡ false → tokens_from line (bytes ++ rest) ≡ record { text = bytes; line = line } ∷ tokens_from line rest
chunk_token line [] rest some inside ends = absurd (omega (arith, some))
chunk_token line (byte ∷ []) rest some inside ends =
    tokens_first line byte rest (and_parts (is_in_chunk byte) true inside).0 ∙ ap (λ joins. before_tokens byte line joins (tokens_from line rest)) ends
chunk_token line (byte ∷ next ∷ bytes) rest some inside ends =
    let first = and_parts (is_in_chunk byte) (list_all is_in_chunk (next ∷ bytes)) inside in
    let second = and_parts (is_in_chunk next) (list_all is_in_chunk bytes) first.1 in
    tokens_first line byte (next ∷ bytes ++ rest) first.0
    ∙ ap (λ joins. before_tokens byte line joins (tokens_from line (next ∷ bytes ++ rest))) second.0
    ∙ ap (λ behind. before_tokens byte line true behind) (chunk_token line (next ∷ bytes) rest (omega arith) first.1 ends)

pub decimal_token : (line n : ℕ) (rest : List ℕ) → n < 2 ^ 32 → begins_in_chunk rest ≡ false → tokens_from line (decimal n ++ rest) ≡ record { text = decimal n; line = line } ∷ tokens_from line rest
decimal_token line n rest small ends = chunk_token line (decimal n) rest (decimal_nonempty n (omega (arith, small))) (decimal_in_chunk n small) ends
