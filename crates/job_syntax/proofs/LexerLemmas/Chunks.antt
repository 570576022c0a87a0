-- The token at the front is a brace or a longest run.
use Rattle.std.proofs.Common.{◌≡◌, ℕ, suc, ◌<◌, ◌≤◌, List, [], ◌∷◌, length, take, drop, Bool, true, false, refl, sym, ap, ◌∙◌, arith, one-add, eqb-true}
use Rattle.std.proofs.lemmas.List.Sums.{prefix_len-le-length}
use Rattle.std.specs.Prelude.{IsTrue, ◌==◌, ◌||◌, ◌&&◌, not, if◌then◌else◌}
use Rattle.std.specs.List.{prefix_len}
use Rattle.job_syntax.specs.Text.{Token, tokens_from, bare, is_blank, is_brace, is_in_chunk, begins_in_chunk, before_tokens}
use Rattle.job_syntax.specs.Code.Fronts.{begins_token, token_len}

abbrev run : List ℕ → ℕ
run text = prefix_len (λ byte. is_in_chunk byte) text

-- what a byte of a chunk is not
record IsPlain (byte : ℕ) : Type 0 where
  feed : (byte == 10) ≡ false
  hash : (byte == 35) ≡ false
  blank : is_blank byte ≡ false
  brace : is_brace byte ≡ false

none_of : (tab feed return space open_brace close_brace hash : Bool) → not ((((tab || feed) || return) || space) || (open_brace || close_brace) || hash) ≡ true
    → (feed ≡ false) × (hash ≡ false) × ((((tab || feed) || return) || space) ≡ false) × ((open_brace || close_brace) ≡ false)
none_of false false false false false false false chunk = (refl, refl, refl, refl)
none_of _ _ _ _ _ _ _ chunk = absurd (cc chunk)

plain : (byte : ℕ) → is_in_chunk byte ≡ true → IsPlain byte
plain byte chunk =
    let parts = none_of (byte == 9) (byte == 10) (byte == 13) (byte == 32) (byte == 123) (byte == 125) (byte == 35) chunk in
    record { feed = parts.0; hash = parts.1; blank = parts.2; brace = parts.3 }

-- removing comments does not change whether a text begins in a chunk
begins-bare :
    (byte : ℕ) (text : List ℕ) (feed hash : Bool) → (byte == 10) ≡ feed → (byte == 35) ≡ hash
    → begins_in_chunk (if feed then 10 ∷ bare false text else if hash then 32 ∷ bare true text else byte ∷ bare false text) ≡ is_in_chunk byte
begins-bare byte text true hash is_feed is_hash = sym (ap is_in_chunk (eqb-true byte 10 is_feed))
begins-bare byte text false true is_feed is_hash = sym (ap is_in_chunk (eqb-true byte 35 is_hash))
begins-bare byte text false false is_feed is_hash = refl

bare_first : (byte : ℕ) (text : List ℕ) → is_in_chunk byte ≡ true → bare false (byte ∷ text) ≡ byte ∷ bare false text
bare_first byte text chunk = let is = plain byte chunk in rw (is.feed, is.hash) refl

pub tokens_first : (line byte : ℕ) (text : List ℕ) → is_in_chunk byte ≡ true → tokens_from line (byte ∷ text) ≡ before_tokens byte line (begins_in_chunk text) (tokens_from line text)
tokens_first line byte text chunk = let is = plain byte chunk in rw (is.blank, is.feed, is.brace) refl

run_on : (byte : ℕ) (text : List ℕ) → is_in_chunk byte ≡ true → run (byte ∷ text) ≡ suc (run text)
run_on byte text chunk = rw chunk (one-add (run text))

run_off : (byte : ℕ) (text : List ℕ) → is_in_chunk byte ≡ false → run (byte ∷ text) ≡ 0
run_off byte text other = rw other refl

-- the first token, by its length, before those of the rest
abbrev first_of : ℕ → ℕ → List ℕ → List Token
first_of line len text = record { text = take len text; line = line } ∷ tokens_from line (bare false (drop len text))

-- the token of a byte of a chunk is the byte and the run of chunk bytes behind it
abbrev BeginsChunk : ℕ → ℕ → List ℕ → Type 0
BeginsChunk line byte text = tokens_from line (bare false (byte ∷ text)) ≡ first_of line (suc (run text)) (byte ∷ text)

chunk_goes_on :
    (line byte next : ℕ) (text : List ℕ) (chunk : Bool) → (is_in_chunk next ≡ true → BeginsChunk line next text) → is_in_chunk next ≡ chunk
    → before_tokens byte line chunk (tokens_from line (bare false (next ∷ text))) ≡ first_of line (suc (run (next ∷ text))) (byte ∷ next ∷ text)
chunk_goes_on line byte next text true again is =
    ap (before_tokens byte line true) (again is) ∙ ap (λ len. first_of line (suc len) (byte ∷ next ∷ text)) (sym (run_on next text is))
chunk_goes_on line byte next text false again is = ap (λ len. first_of line (suc len) (byte ∷ next ∷ text)) (sym (run_off next text is))

begins_chunk : (line byte : ℕ) (text : List ℕ) → is_in_chunk byte ≡ true → BeginsChunk line byte text
begins_chunk line byte [] chunk = ap (tokens_from line) (bare_first byte [] chunk) ∙ tokens_first line byte [] chunk
begins_chunk line byte (next ∷ text) chunk =
    ap (tokens_from line) (bare_first byte (next ∷ text) chunk)
    ∙ tokens_first line byte (bare false (next ∷ text)) chunk
    ∙ ap (λ goes_on. before_tokens byte line goes_on (tokens_from line (bare false (next ∷ text)))) (begins-bare next text _ _ refl refl)
    ∙ chunk_goes_on line byte next text (is_in_chunk next) (begins_chunk line next text) refl

none_of_front : (tab feed return space hash : Bool) → (not (((tab || feed) || return) || space) && not hash) ≡ true
    → (feed ≡ false) × (hash ≡ false) × ((((tab || feed) || return) || space) ≡ false)
none_of_front false false false false false begins = (refl, refl, refl)
none_of_front _ _ _ _ _ begins = absurd (cc begins)

begins_brace : (line byte : ℕ) (text : List ℕ) → IsTrue (begins_token (byte ∷ text)) → is_brace byte ≡ true → tokens_from line (bare false (byte ∷ text)) ≡ first_of line 1 (byte ∷ text)
begins_brace line byte text begins brace =
    let parts = none_of_front (byte == 9) (byte == 10) (byte == 13) (byte == 32) (byte == 35) begins in
    let first : bare false (byte ∷ text) ≡ byte ∷ bare false text = rw (parts.0, parts.1) refl in
    let split : tokens_from line (byte ∷ bare false text) ≡ record { text = byte ∷ []; line = line } ∷ tokens_from line (bare false text) = rw (parts.2, parts.0, brace) refl in
    ap (tokens_from line) first ∙ split

in_chunk_when : (blank brace hash : Bool) → brace ≡ false → (not blank && not hash) ≡ true → not (blank || brace || hash) ≡ true
in_chunk_when false false false other begins = refl
in_chunk_when _ _ _ other begins = absurd (cc)

first_by : (line byte : ℕ) (text : List ℕ) (brace : Bool) → IsTrue (begins_token (byte ∷ text)) → is_brace byte ≡ brace
    → tokens_from line (bare false (byte ∷ text)) ≡ first_of line (token_len (byte ∷ text)) (byte ∷ text)
first_by line byte text true begins is =
    let len : 1 ≡ token_len (byte ∷ text) = rw is refl in
    begins_brace line byte text begins is ∙ ap (λ len. first_of line len (byte ∷ text)) len
first_by line byte text false begins is =
    let chunk : is_in_chunk byte ≡ true = in_chunk_when (is_blank byte) (is_brace byte) (byte == 35) is begins in
    let len : run (byte ∷ text) ≡ token_len (byte ∷ text) = ap (λ (brace : Bool). if brace then 1 else run (byte ∷ text)) (sym is) in
    begins_chunk line byte text chunk ∙ ap (λ len. first_of line len (byte ∷ text)) (sym (run_on byte text chunk) ∙ len)

pub first_token : (line : ℕ) (text : List ℕ) → IsTrue (begins_token text) → 0 < length text
    → tokens_from line (bare false text) ≡ record { text = take (token_len text) text; line = line } ∷ tokens_from line (bare false (drop (token_len text) text))
first_token line [] begins some = absurd (omega (arith, some))
first_token line (byte ∷ text) begins some = first_by line byte text (is_brace byte) begins refl

within : (brace : Bool) (byte : ℕ) (text : List ℕ) → (if brace then 1 else run (byte ∷ text)) ≤ length (byte ∷ text)
within true byte text = omega arith
within false byte text = prefix_len-le-length (λ byte. is_in_chunk byte) (byte ∷ text)

pub token_len_within : (text : List ℕ) → token_len text ≤ length text
token_len_within [] = omega arith
token_len_within (byte ∷ text) = within (is_brace byte) byte text
