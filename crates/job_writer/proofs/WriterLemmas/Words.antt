-- The tokens of the canonical text spell the words of its items.
use Rattle.std.proofs.Common.{◌≡◌, ℕ, ◌<◌, ◌^◌, List, [], ◌∷◌, ◌++◌, map, codes, Bool, true, false, Option, None, Some, refl, sym, ap, ◌∙◌, arith, append_assoc, append-nil}
use Rattle.std.specs.Prelude.{IfSome, if◌then◌else◌, option_to_list}
use Rattle.std.specs.Fmt.{decimal}
use Rattle.job_writer.proofs.WriterLemmas.Names.{leaf_name, name_token, name_word}
use Rattle.seq_objects.specs.declared.verb.VerbWord.{VerbWord}
use Rattle.seq_objects.specs.declared.verb.VerbWord.TheVariants.{Add}
use Rattle.seq_objects.specs.Parts.{verb_of, number_of, argument_of, kind_of, has_argument}
use Rattle.seq_objects.specs.Verbs.{word_of_verb, word_text}
use Rattle.seq_objects.specs.Words.{kind_words, name_words, verb_words}
use Rattle.sp_order.specs.Objects.{number_in}
use Rattle.std.specs.List.{AllByRecursion}
use Rattle.seq_objects.specs.declared.act.Act.{Act}
use Rattle.seq_objects.specs.declared.act.Act.TheVariants.{Work, Call}
use Rattle.seq_objects.specs.declared.op.Op.{Op}
use Rattle.job_syntax.specs.declared.lexer.word.Word.{Word}
use Rattle.job_syntax.specs.declared.lexer.word.Word.TheVariants as word
use Rattle.job_lang.specs.ActNumbers.{op_number, act_number, IsSmall}
use Rattle.job_writer.specs.Code.Smalls.{IsSmallLeaf}
use Rattle.job_syntax.specs.Text.{tokens_from, begins_in_chunk}
use Rattle.job_syntax.specs.Words.{word_on_line}
use Rattle.job_syntax.specs.Grammar.{Items, nothing, items_words, leaf_words}
use Rattle.job_syntax.specs.Faults.{words_of}
use Rattle.job_writer.specs.Canonical.{WrittenLeaf, name_text, value_text, argument_text, act_text, let_text, leaf_text}
use Rattle.job_writer.proofs.WriterLemmas.Decimals.{chunk_token, decimal_token, decimal_word}
use Rattle.job_lang.proofs.LimitLemmas.SmallArguments.{small_argument}
use Rattle.job_writer.proofs.WriterLemmas.Kinds.{IsNamedAt, all_in_chunk, kind_some, kind_said}
use Rattle.job_writer.proofs.WriterLemmas.Grown.{Grown, lone, series, parallel, Each, text_of}
use Rattle.job_writer.proofs.WriterLemmas.Items.{name_at, taken, said, leaf_of_act, given_name, leaf_of_written, items_of, inside}

-- the words of a text's tokens
abbrev pub said_from : ℕ → List ℕ → List Word
said_from line text = words_of (map word_on_line (tokens_from line text))

number_said : (line n : ℕ) (rest : List ℕ) → n < 2 ^ 32 → begins_in_chunk rest ≡ false → said_from line (decimal n ++ rest) ≡ word.Number (Some n) ∷ said_from line rest
number_said line n rest small ends =
    ap (λ tokens. words_of (map word_on_line tokens)) (decimal_token line n rest small ends) ∙ ap (λ w. w ∷ said_from line rest) (decimal_word n small)

name_said : (line n : ℕ) (rest : List ℕ) → n < 2 ^ 32 → begins_in_chunk rest ≡ false → said_from line (name_text n ++ rest) ≡ word.Named (leaf_name n) ∷ said_from line rest
name_said line n rest small ends =
    ap (λ tokens. words_of (map word_on_line tokens)) (name_token line n rest small ends) ∙ ap (λ w. w ∷ said_from line rest) (name_word n small)

-- an argument
value_said : (number : ℕ) (source : Option ℕ) (line : ℕ) (rest : List ℕ) → number < 2 ^ 32 → IfSome source (λ source. source < 2 ^ 32) → begins_in_chunk rest ≡ false
    → said_from line (value_text number source ++ rest) ≡ said number source ∷ said_from line rest
value_said number None line rest small small' ends = number_said line number rest small ends
value_said number (Some source) line rest small small' ends = name_said line source rest small' ends

-- a verb
word_said : (verb : VerbWord) (line : ℕ) (rest : List ℕ) → begins_in_chunk rest ≡ false → said_from line (word_text verb ++ rest) ≡ word.Verb verb ∷ said_from line rest
word_said Add line rest ends = ap (λ tokens. words_of (map word_on_line tokens)) (chunk_token line (word_text Add) rest (omega arith) refl ends)
word_said verb line rest ends = ap (λ tokens. words_of (map word_on_line tokens)) (chunk_token line (word_text verb) rest (omega arith) refl ends)

-- a verb, and its argument behind it, if it takes one
verb_said : (takes : Bool) (verb : VerbWord) (number : ℕ) (source : Option ℕ) (line : ℕ) (rest : List ℕ) → number < 2 ^ 32 → IfSome source (λ source. source < 2 ^ 32) → begins_in_chunk rest ≡ false
    → said_from line ((codes " " ++ (word_text verb ++ (if takes then codes " " else []))) ++ ((if takes then value_text number source else []) ++ rest))
    ≡ word.Verb verb ∷ (option_to_list (taken takes (said number source)) ++ said_from line rest)
verb_said true verb number source line rest small small' ends =
    ap (said_from line) (append_assoc (word_text verb) (codes " ") (value_text number source ++ rest))
    ∙ word_said verb line (codes " " ++ (value_text number source ++ rest)) refl
    ∙ ap (λ words. word.Verb verb ∷ words) (value_said number source line rest small small' ends)
verb_said false verb number source line rest small small' ends = ap (λ text. said_from line (text ++ rest)) (append-nil (word_text verb)) ∙ word_said verb line rest ends

in_call : (kind name verb argument rest : List ℕ) → ((kind ++ (name ++ verb)) ++ argument) ++ rest ≡ (kind ++ name) ++ (verb ++ (argument ++ rest))
in_call kind name verb argument rest = simp append_assoc refl

-- a leaf whose numbers fit 32 bits, and whose object has a spelled name or none
pub record IsSaid (names : List (List ℕ)) (written : WrittenLeaf) : Type 0 where
  pub small : IsSmallLeaf written
  pub named : IsNamedAt names (number_in written.act)

abbrev pub AreSaid : List (List ℕ) → List WrittenLeaf → Type 0
AreSaid names written = AllByRecursion (IsSaid names) written

in_let : (name call rest : List ℕ) → ((codes "let " ++ (name ++ codes " = ")) ++ call) ++ rest ≡ codes "let " ++ (name ++ (codes " = " ++ (call ++ rest)))
in_let name call rest = simp append_assoc refl

-- a block's text before more text
in_front : (kind left gap right end rest : List ℕ) → (kind ++ left ++ gap ++ right ++ end) ++ rest ≡ kind ++ (left ++ (gap ++ (right ++ (end ++ rest))))
in_front kind left gap right end rest = simp append_assoc

module _ (names : List (List ℕ)) where
  call_said : (op : Op) (source : Option ℕ) (line : ℕ) (rest : List ℕ) → IsNamedAt names (number_of op) → IsSmall (op_number op) → IfSome source (λ source. source < 2 ^ 32) → begins_in_chunk rest ≡ false
      → said_from line (act_text names (Call op) source ++ rest) ≡ leaf_words (leaf_of_act names (Call op) source) ++ said_from line rest
  call_said op source line rest named small small' ends =
      let token = kind_words (kind_of op) ++ name_words names (number_of op) in
      let back : List ℕ = verb_words op ++ (argument_text op source ++ rest) in
      ap (said_from line) (in_call (kind_words (kind_of op)) (name_words names (number_of op)) (verb_words op) (argument_text op source) rest)
      ∙ ap (λ tokens. words_of (map word_on_line tokens))
      (chunk_token line token back (kind_some (kind_of op) (name_words names (number_of op))) (all_in_chunk names (kind_of op) (number_of op) named) refl)
      ∙ ap (λ w. w ∷ said_from line back) (kind_said names (kind_of op) (number_of op) named)
      ∙ ap (λ words. word.Object (kind_of op) (name_at names (number_of op)) ∷ words)
      (verb_said (has_argument op) (word_of_verb (verb_of op)) (argument_of op) source line rest (small_argument op small) small' ends)

  act_said : (act : Act) (source : Option ℕ) (line : ℕ) (rest : List ℕ) → IsNamedAt names (number_in act) → IsSmall (act_number act) → IfSome source (λ source. source < 2 ^ 32) → begins_in_chunk rest ≡ false
      → said_from line (act_text names act source ++ rest) ≡ leaf_words (leaf_of_act names act source) ++ said_from line rest
  act_said (Work steps) source line rest named small small' ends = ap (λ words. word.Work ∷ words) (number_said line steps rest small ends)
  act_said (Call op) source line rest named small small' ends = call_said op source line rest named small small' ends

  given_said : (named : Bool) (number : ℕ) (act : Act) (source : Option ℕ) (line : ℕ) (rest : List ℕ) → IsNamedAt names (number_in act) → number < 2 ^ 32 → IsSmall (act_number act) → IfSome source (λ source. source < 2 ^ 32) → begins_in_chunk rest ≡ false
      → said_from line ((let_text named number ++ act_text names act source) ++ rest) ≡ leaf_words (given_name named number (leaf_of_act names act source)) ++ said_from line rest
  given_said false number act source line rest named few small small' ends = act_said act source line rest named small small' ends
  given_said true number act source line rest named few small small' ends =
      let back = act_said act source line rest named small small' ends in
      let behind : List ℕ = act_text names act source ++ rest in
      ap (said_from line) (in_let (name_text number) (act_text names act source) rest)
      ∙ ap (λ words. word.Let ∷ words) (name_said line number (codes " = " ++ behind) few refl ∙ ap (λ words. word.Named (leaf_name number) ∷ word.Equals ∷ words) back)

  leaf_said : (written : WrittenLeaf) (line : ℕ) (rest : List ℕ) → IsSaid names written → begins_in_chunk rest ≡ false → said_from line (leaf_text names written ++ rest) ≡ leaf_words (leaf_of_written names written) ++ said_from line rest
  leaf_said written line rest small ends = given_said written.named written.number written.act written.source line rest small.named small.small.number small.small.act small.small.source ends

  pub grown_said : (grown : Grown) (line : ℕ) (rest : List ℕ) (more : Items) (behind : List Word) → Each (IsSaid names) grown → begins_in_chunk rest ≡ false → said_from line rest ≡ items_words more ++ behind → said_from line (text_of names grown ++ rest) ≡ items_words (items_of names grown more) ++ behind
  grown_said (lone one) line rest more behind good ends after =
      leaf_said one line rest good ends ∙ ap (λ words. leaf_words (leaf_of_written names one) ++ words) after ∙ sym (append_assoc (leaf_words (leaf_of_written names one)) (items_words more) behind)
  grown_said (series left right) line rest more behind good ends after =
      let back = grown_said right line (codes " }" ++ rest) nothing (word.Close ∷ (items_words more ++ behind)) good.1 refl (ap (λ words. word.Close ∷ words) after) in
      let front = grown_said left line (codes " " ++ (text_of names right ++ (codes " }" ++ rest))) (items_of names right nothing) (word.Close ∷ (items_words more ++ behind)) good.0 refl back in
      ap (said_from line) (in_front (codes "seq { ") (text_of names left) (codes " ") (text_of names right) (codes " }") rest)
      ∙ ap (λ words. word.Seq ∷ word.Open ∷ words) (front ∙ sym (append_assoc (items_words (inside names left right)) (word.Close ∷ items_words more) behind))
  grown_said (parallel left right) line rest more behind good ends after =
      let back = grown_said right line (codes " }" ++ rest) nothing (word.Close ∷ (items_words more ++ behind)) good.1 refl (ap (λ words. word.Close ∷ words) after) in
      let front = grown_said left line (codes " " ++ (text_of names right ++ (codes " }" ++ rest))) (items_of names right nothing) (word.Close ∷ (items_words more ++ behind)) good.0 refl back in
      ap (said_from line) (in_front (codes "par { ") (text_of names left) (codes " ") (text_of names right) (codes " }") rest)
      ∙ ap (λ words. word.Par ∷ word.Open ∷ words) (front ∙ sym (append_assoc (items_words (inside names left right)) (word.Close ∷ items_words more) behind))
