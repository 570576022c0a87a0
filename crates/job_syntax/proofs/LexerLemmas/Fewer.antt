-- A text has at most as many words as bytes.
use Rattle.std.proofs.Common.{◌≡◌, ℕ, ◌+◌, ◌≤◌, List, [], ◌∷◌, length, Bool, true, false, refl, arith}
use Rattle.std.proofs.lemmas.List.{length-map}
use Rattle.std.specs.Prelude.{◌||◌, if◌then◌else◌}
use Rattle.job_syntax.specs.Text.{Token, is_line_feed, is_blank, is_brace, is_hash, bare, begins_in_chunk, before_tokens, tokens_from, tokens}
use Rattle.job_syntax.specs.Words.{word_on_line, words_on_lines}

bare_step : (feed inside : Bool) (byte : ℕ) (text after_feed in_comment outside : List ℕ) → length after_feed ≡ length text → length in_comment ≡ length text → length outside ≡ length text
    → length (if feed then 10 ∷ after_feed else if inside then 32 ∷ in_comment else byte ∷ outside) ≡ length (byte ∷ text)
bare_step true inside byte text after_feed in_comment outside a b c = omega (arith, a)
bare_step false true byte text after_feed in_comment outside a b c = omega (arith, b)
bare_step false false byte text after_feed in_comment outside a b c = omega (arith, c)

bare_length : (inside : Bool) (text : List ℕ) → length (bare inside text) ≡ length text
bare_length inside [] = refl
bare_length inside (byte ∷ text) =
    bare_step (is_line_feed byte) (inside || is_hash byte) byte text (bare false text) (bare true text) (bare false text) (bare_length false text) (bare_length true text) (bare_length false text)

before_few : (byte line : ℕ) (goes_on : Bool) (tokens : List Token) → length (before_tokens byte line goes_on tokens) ≤ length tokens + 1
before_few byte line true [] = omega arith
before_few byte line true (token ∷ tokens) = omega arith
before_few byte line false tokens = omega arith

tokens_step : (feed blank brace : Bool) (byte line : ℕ) (text : List ℕ) (on_next on_this : List Token) → length on_next ≤ length text → length on_this ≤ length text
    → length (if feed then on_next else if blank then on_this else if brace then record { text = byte ∷ []; line = line } ∷ on_this else before_tokens byte line (begins_in_chunk text) on_this)
    ≤ length (byte ∷ text)
tokens_step true blank brace byte line text on_next on_this next this = omega (arith, next)
tokens_step false true brace byte line text on_next on_this next this = omega (arith, this)
tokens_step false false true byte line text on_next on_this next this = omega (arith, this)
tokens_step false false false byte line text on_next on_this next this = omega (arith, this, before_few byte line (begins_in_chunk text) on_this)

tokens_few : (line : ℕ) (text : List ℕ) → length (tokens_from line text) ≤ length text
tokens_few line [] = omega arith
tokens_few line (byte ∷ text) =
    tokens_step (is_line_feed byte) (is_blank byte) (is_brace byte) byte line text (tokens_from (line + 1) text) (tokens_from line text) (tokens_few (line + 1) text) (tokens_few line text)

pub few_words : (text : List ℕ) → length (words_on_lines text) ≤ length text
few_words text = omega (arith, length-map (tokens text) word_on_line, tokens_few 1 (bare false text), bare_length false text)
