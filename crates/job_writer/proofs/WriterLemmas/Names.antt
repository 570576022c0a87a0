-- The names of leaves: each is one token, which spells the name, and no two leaves have one name.
use Rattle.std.proofs.Common.{◌≡◌, ℕ, ◌+◌, ◌<◌, ◌≤◌, ◌^◌, List, ◌∷◌, ◌++◌, length, drop, true, false, refl, sym, ap, ◌∙◌, arith}
use Rattle.std.specs.Fmt.{decimal}
use Rattle.std.specs.List.{list_all}
use Rattle.std.proofs.lemmas.Bool.{and_from, lt-ltb}
use Rattle.std.proofs.lemmas.Fmt.{length-decimal-le}
use Rattle.std.proofs.lemmas.Grind.{common_steps}
use Rattle.limits.specs.declared.TheConstants.{MOST_NAME_BYTES}
use Rattle.job_names.specs.declared.name.Name.{Name}
use Rattle.job_names.specs.Names.{is_in_name, is_spelled, name_of}
use Rattle.job_syntax.specs.declared.lexer.word.Word.TheVariants.{Named}
use Rattle.job_syntax.specs.Text.{tokens_from, is_in_chunk, begins_in_chunk}
use Rattle.job_syntax.specs.Words.{digits_from, argument_word, word_of}
use Rattle.job_writer.specs.Canonical.{name_text}
use Rattle.job_names.proofs.Spellings.{one_spelling}
use Rattle.job_writer.proofs.WriterLemmas.Decimals.{each_byte, decimal_in_chunk, chunk_token, decimal_says}

abbrev pub leaf_name : ℕ → Name
leaf_name number = name_of (name_text number)

digit_in_name : (digit : ℕ) → digit < 10 → is_in_name (48 + digit) ≡ true
digit_in_name digit low = grind (arith, common_steps)

pub decimal_few : (n : ℕ) → n < 2 ^ 32 → length (decimal n) ≤ 10
decimal_few n small = length-decimal-le 10 n (omega arith) (omega (arith, small)) (omega (arith, small))

spelled : (n : ℕ) → n < 2 ^ 32 → is_spelled (118 ∷ decimal n) ≡ true
spelled n small =
    let few = decimal_few n small in
    and_from _ _ (lt-ltb (length (decimal n)) MOST_NAME_BYTES (omega (arith, few))) (each_byte (λ byte. is_in_name byte) digit_in_name n small)

not_quoted : (text : List ℕ) → word_of (118 ∷ text) ≡ argument_word (118 ∷ text)
not_quoted text = refl

pub name_word : (n : ℕ) → n < 2 ^ 32 → word_of (name_text n) ≡ Named (leaf_name n)
name_word n small = not_quoted (decimal n) ∙ rw (spelled n small) refl

name_in_chunk : (n : ℕ) → n < 2 ^ 32 → list_all is_in_chunk (name_text n) ≡ true
name_in_chunk n small = decimal_in_chunk n small

pub name_token : (line n : ℕ) (rest : List ℕ) → n < 2 ^ 32 → begins_in_chunk rest ≡ false → tokens_from line (name_text n ++ rest) ≡ record { text = name_text n; line = line } ∷ tokens_from line rest
name_token line n rest small ends = chunk_token line (name_text n) rest (omega arith) (name_in_chunk n small) ends

pub one_leaf : (a b : ℕ) → a < 2 ^ 32 → b < 2 ^ 32 → leaf_name a ≡ leaf_name b → a ≡ b
one_leaf a b small small' e =
    let same : decimal a ≡ decimal b = ap (drop 1) (one_spelling (name_text a) (name_text b) e) in
    sym (decimal_says a small) ∙ ap (digits_from 0) same ∙ decimal_says b small'
