-- What is spelled as a name is ASCII; a name spells the text that it is of, and no two texts have one name.
use Rattle.std.proofs.Common.{ℕ, zero, suc, ◌≡◌, ◌-◌, ◌<◌, List, [], ◌∷◌, length, true, replicate, sym, ap, ◌∙◌, arith}
use Rattle.std.proofs.Math.Seq.{take-append_seam}
use Rattle.std.specs.List.{list_all}
use Rattle.std.specs.Str.{IsAscii, IsUtf8}
use Rattle.std.proofs.lemmas.Grind.{common_steps}
use Rattle.std.proofs.lemmas.Str.{IsUtf8-from_ascii}
use Rattle.std.proofs.lemmas.Str.Ascii.{IsAscii-nil}
use Rattle.limits.specs.declared.TheConstants.{MOST_NAME_BYTES}
use Rattle.job_names.specs.Names.{is_letter, is_in_name, is_spelled, name_of, spelling}
use Rattle.job_names.proofs.SameNames.{and_left, and_right}

letter_low : (byte : ℕ) → is_letter byte ≡ true → byte < 128
letter_low byte h = grind (arith, common_steps, h)

low : (byte : ℕ) → is_in_name byte ≡ true → byte < 128
low byte h = grind (arith, common_steps, h)

ascii_more : (byte : ℕ) (bytes : List ℕ) → byte < 128 → IsAscii bytes → IsAscii (byte ∷ bytes)
ascii_more byte bytes h rest zero = h
ascii_more byte bytes h rest (suc i) = rest i

ascii : (bytes : List ℕ) → list_all (λ byte. is_in_name byte) bytes ≡ true → IsAscii bytes
ascii [] h = IsAscii-nil
ascii (byte ∷ bytes) h = ascii_more byte bytes (low byte (and_left _ _ h)) (ascii bytes (and_right (is_in_name byte) _ h))

-- what is spelled as a name is the text of some characters
pub spelled_is_text : (text : List ℕ) → is_spelled text ≡ true → IsUtf8 text
spelled_is_text [] h = cc
spelled_is_text (byte ∷ text) h =
    let rest = and_right (is_letter byte) _ h in
    IsUtf8-from_ascii (byte ∷ text) (ascii_more byte text (letter_low byte (and_left _ _ h)) (ascii text (and_right _ _ rest)))

-- the name of a text spells it
pub spelling_back : (text : List ℕ) → spelling (name_of text) ≡ text
spelling_back text = take-append_seam text (replicate (MOST_NAME_BYTES - length text) 0)

-- two texts with one name are the same
pub one_spelling : (text other : List ℕ) → name_of text ≡ name_of other → text ≡ other
one_spelling text other e = sym (spelling_back text) ∙ ap spelling e ∙ spelling_back other
