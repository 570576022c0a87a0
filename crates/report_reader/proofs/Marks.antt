-- Marks behind kind words, which a text begins with in one way.
use Rattle.std.proofs.Common.{◌≡◌, ℕ, true, false, List, [], ◌∷◌, ◌++◌, take, drop, sym, ◌∙◌, arith}
use Rattle.std.specs.Prelude.{◌==◌}
use Rattle.std.specs.Char.{is_ascii_lowercase}
use Rattle.std.specs.List.{prefix_len, list_all}
use Rattle.std.proofs.lemmas.Bool.Decides.{nat_tests}
use Rattle.std.proofs.lemmas.Grind.{common_steps}
use Rattle.decimals.specs.Runs.{AllBelong, BeginsOutside}
use Rattle.decimals.proofs.Runs.{runs_apart, run_ends, run_split, split_parts}
use Rattle.job_names.specs.Names.{is_letter, is_in_name, is_spelled}
use Rattle.job_names.proofs.SameNames.{and_left, and_right}
use Rattle.report_reader.specs.Code.Objects.{is_mark, is_no_blank, IsMarkThen}

letter_no_blank : (byte : ℕ) → is_letter byte ≡ true → is_no_blank byte ≡ true
letter_no_blank byte is = grind (arith, common_steps, nat_tests, is)

named_no_blank : (byte : ℕ) → is_in_name byte ≡ true → is_no_blank byte ≡ true
named_no_blank byte is = grind (arith, common_steps, nat_tests, is)

colon_no_blank : (byte : ℕ) → (byte == 58) ≡ true → is_no_blank byte ≡ true
colon_no_blank byte is = grind (arith, common_steps, nat_tests, is)

colon_no_letter : (byte : ℕ) → (byte == 58) ≡ true → is_ascii_lowercase byte ≡ false
colon_no_letter byte is = grind (arith, common_steps, nat_tests, is)

all_no_blank : (bytes : List ℕ) → list_all (λ byte. is_in_name byte) bytes ≡ true → AllBelong is_no_blank bytes
all_no_blank [] all = tt
all_no_blank (byte ∷ bytes) all = (named_no_blank byte (and_left _ _ all), all_no_blank bytes (and_right (is_in_name byte) _ all))

spelled_no_blank : (name : List ℕ) → is_spelled name ≡ true → AllBelong is_no_blank name
spelled_no_blank [] is = cc
spelled_no_blank (byte ∷ name) is =
    let rest = and_right (is_letter byte) _ is in
    (letter_no_blank byte (and_left _ _ is), all_no_blank name (and_right _ _ rest))

mark_no_blank : (mark : List ℕ) → is_mark mark ≡ true → AllBelong is_no_blank mark
mark_no_blank [] is = tt
mark_no_blank (byte ∷ name) is = (colon_no_blank byte (and_left _ _ is), spelled_no_blank name (and_right (byte == 58) _ is))

-- a mark does not begin with a letter
pub mark_no_letter : (mark rest : List ℕ) → is_mark mark ≡ true → BeginsOutside is_ascii_lowercase rest → BeginsOutside is_ascii_lowercase (mark ++ rest)
mark_no_letter [] rest is ends = ends
mark_no_letter (byte ∷ name) rest is ends = colon_no_letter byte (and_left _ _ is)

-- two marks at the front of one text are one, with one rest
pub mark_way : (text mark mark' rest rest' : List ℕ) → IsMarkThen text mark rest → IsMarkThen text mark' rest' → (mark ≡ mark') × (rest ≡ rest')
mark_way text mark mark' rest rest' a b =
    runs_apart is_no_blank mark mark' rest rest' (mark_no_blank mark a.marked) (mark_no_blank mark' b.marked) a.ends b.ends (a.parts ∙ sym b.parts)

-- where the run up to a blank is a mark, it is the one that the text begins with
pub run_read : (k : ℕ) (text front back : List ℕ) → k ≡ prefix_len is_no_blank text → front ≡ take k text → back ≡ drop k text → is_mark front ≡ true → IsMarkThen text front back
run_read k text front back is at behind marked = record {
  parts = split_parts k text front back at behind;
  marked = marked;
  ends = run_ends is_no_blank k text is back behind;
}

-- a text that begins with a mark has it as its run
pub run_written : (k : ℕ) (text mark rest : List ℕ) → k ≡ prefix_len is_no_blank text → IsMarkThen text mark rest → take k text ≡ mark
run_written k text mark rest is a = (run_split is_no_blank k text is mark rest (mark_no_blank mark a.marked) a.ends a.parts).0
