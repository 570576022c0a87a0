-- A kind word, with the name of an object behind a colon if it has one, is one token, which spells this word.
use Rattle.std.proofs.Common.{◌≡◌, ℕ, zero, suc, ◌<◌, List, [], ◌∷◌, ◌++◌, length, Bool, true, refl, ◌∙◌, arith}
use Rattle.std.specs.Prelude.{◌&&◌, slice_index_or, nat_lt}
use Rattle.std.specs.List.{list_all}
use Rattle.std.proofs.lemmas.Bool.{and_parts, and_from}
use Rattle.std.proofs.lemmas.List.Folds.{list_all-append}
use Rattle.std.proofs.lemmas.Grind.{common_steps}
use Rattle.limits.specs.declared.TheConstants.{MOST_NAME_BYTES}
use Rattle.seq_objects.specs.declared.kind.Kind.{Kind}
use Rattle.seq_objects.specs.declared.kind.Kind.TheVariants.{Counter}
use Rattle.seq_objects.specs.Words.{kind_words, name_words}
use Rattle.job_names.specs.Names.{is_letter, is_in_name, is_spelled}
use Rattle.job_syntax.specs.declared.lexer.word.Word.TheVariants.{Object}
use Rattle.job_syntax.specs.Text.{is_in_chunk}
use Rattle.job_syntax.specs.Words.{word_of}
use Rattle.job_syntax.proofs.LexerLemmas.KindWords.{kind_takes_names}
use Rattle.job_writer.proofs.WriterLemmas.Items.{name_at}

-- the number has no name, or one that is spelled as a name
abbrev pub IsNamedAt : List (List ℕ) → ℕ → Type 0
IsNamedAt names zero = Unit {0}
IsNamedAt names (suc place) = is_spelled (slice_index_or names place []) ≡ true

-- each byte of a spelled text passes a test that each byte of a name passes
each_in : (test : ℕ → Bool) → ((byte : ℕ) → is_in_name byte ≡ true → test byte ≡ true) → (text : List ℕ) → list_all (λ byte. is_in_name byte) text ≡ true → list_all test text ≡ true
each_in test pass [] h = refl
each_in test pass (byte ∷ text) h =
    let parts = and_parts (is_in_name byte) (list_all (λ byte. is_in_name byte) text) h in
    and_from (test byte) (list_all test text) (pass byte parts.0) (each_in test pass text parts.1)

letter_in_name : (byte : ℕ) → is_letter byte ≡ true → is_in_name byte ≡ true
letter_in_name byte h = grind (arith, common_steps, h)

pub each_spelled : (test : ℕ → Bool) → ((byte : ℕ) → is_in_name byte ≡ true → test byte ≡ true) → (text : List ℕ) → is_spelled text ≡ true → list_all test text ≡ true
each_spelled test pass [] h = refl
each_spelled test pass (byte ∷ text) h =
    let first = and_parts (is_letter byte) (nat_lt (length text) MOST_NAME_BYTES && list_all (λ byte. is_in_name byte) text) h in
    let rest = and_parts (nat_lt (length text) MOST_NAME_BYTES) (list_all (λ byte. is_in_name byte) text) first.1 in
    and_from (test byte) (list_all test text) (pass byte (letter_in_name byte first.0)) (each_in test pass text rest.1)

in_chunk : (byte : ℕ) → is_in_name byte ≡ true → is_in_chunk byte ≡ true
in_chunk byte h = grind (arith, common_steps, h)

kind_in_chunk : (kind : Kind) → list_all is_in_chunk (kind_words kind) ≡ true
kind_in_chunk Counter = refl
kind_in_chunk _ = refl

name_in_chunk : (names : List (List ℕ)) (number : ℕ) → IsNamedAt names number → list_all is_in_chunk (name_words names number) ≡ true
name_in_chunk names zero h = refl
name_in_chunk names (suc place) h = each_spelled is_in_chunk in_chunk (slice_index_or names place []) h

pub all_in_chunk : (names : List (List ℕ)) (kind : Kind) (number : ℕ) → IsNamedAt names number → list_all is_in_chunk (kind_words kind ++ name_words names number) ≡ true
all_in_chunk names kind number h =
    list_all-append is_in_chunk (kind_words kind) (name_words names number)
    ∙ and_from (list_all is_in_chunk (kind_words kind)) (list_all is_in_chunk (name_words names number)) (kind_in_chunk kind) (name_in_chunk names number h)

pub kind_some : (kind : Kind) (text : List ℕ) → 0 < length (kind_words kind ++ text)
kind_some Counter text = omega arith
kind_some _ text = omega arith

pub kind_said : (names : List (List ℕ)) (kind : Kind) (number : ℕ) → IsNamedAt names number → word_of (kind_words kind ++ name_words names number) ≡ Object kind (name_at names number)
kind_said names Counter zero named = refl
kind_said names _ zero named = refl
kind_said names kind (suc place) named = (kind_takes_names kind).said (slice_index_or names place []) named
