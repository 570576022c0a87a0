-- The words that a leaf consists of, without the `let` before a call: none is a brace, the head of a block, or a `let`.
use Rattle.std.proofs.Common.{◌≡◌, List, ◌∷◌, Bool, true, false, Option, Some, None, refl}
use Rattle.std.specs.Prelude.{IsTrue}
use Rattle.std.specs.List.{AllByRecursion}
use Rattle.std.specs.Option.{option_to_list}
use Rattle.job_names.specs.declared.name.Name.{Name}
use Rattle.job_syntax.specs.declared.lexer.word.Word.{Word}
use Rattle.job_syntax.specs.declared.lexer.word.Word.TheVariants.{Work, Object, Verb, Let, Equals, Number, Copies, Named}
use Rattle.job_syntax.specs.declared.parser.call.Operator.{Operator}
use Rattle.job_syntax.specs.declared.parser.call.Operator.TheVariants as operator
use Rattle.seq_objects.specs.Verbs.{takes_argument}
use Rattle.job_syntax.specs.Grammar.{Leaf, work, call, bound, leaf_words, is_argument, is_call_argument, FitsVerb, IsCall, IsLeaf}
use Rattle.job_syntax.specs.Code.Machine.{operator_words, takes}

abbrev pub is_plain : Word → Bool
is_plain Work = true
is_plain (Object kind name) = true
is_plain (Verb spelled) = true
is_plain (Number number) = true
is_plain (Copies by) = true
is_plain (Named name) = true
is_plain _ = false

abbrev pub ArePlain : List Word → Type 0
ArePlain words = AllByRecursion (λ word. IsTrue (is_plain word)) words

pub plain_argument : (looped : Bool) (word : Word) → IsTrue (is_argument looped word) → IsTrue (is_plain word)
plain_argument looped (Number number) fits = refl
plain_argument looped (Copies by) fits = refl
plain_argument looped _ fits = cc

plain_value : (looped : Bool) (word : Word) → IsTrue (is_call_argument looped word) → IsTrue (is_plain word)
plain_value looped (Number number) fits = refl
plain_value looped (Copies by) fits = refl
plain_value looped (Named name) fits = refl
plain_value looped _ fits = cc

pub plain_taken : (op : Operator) (looped : Bool) (word : Word) → takes op looped word ≡ true → IsTrue (is_plain word)
plain_taken operator.Work looped word fits = plain_argument looped word fits
plain_taken (operator.Call verb object) looped word fits = plain_value looped word fits

pub plain_operator : (op : Operator) → ArePlain (operator_words op)
plain_operator operator.Work = (refl, tt)
plain_operator (operator.Call verb object) = (refl, (refl, tt))

plain_behind : (looped takes : Bool) (argument : Option Word) → FitsVerb looped takes argument → ArePlain (option_to_list argument)
plain_behind looped true (Some word) fits = (plain_value looped word fits, tt)
plain_behind looped false None fits = tt
plain_behind looped true None fits = elim fits [ ]
plain_behind looped false (Some word) fits = elim fits [ ]

pub plain_call : (looped : Bool) (leaf : Leaf) → IsCall looped leaf → ArePlain (leaf_words leaf)
plain_call looped (call verb object argument) fits = (refl, (refl, plain_behind looped (takes_argument verb) argument fits))
plain_call looped (work argument) fits = elim fits [ ]
plain_call looped (bound name leaf) fits = elim fits [ ]

-- what holds of plain words, and of a `let` before plain words, holds of the words of a leaf
pub by_plain : (P : List Word → Type 0) → ((words : List Word) → ArePlain words → P words) → ((name : Name) (words : List Word) → ArePlain words → P (Let ∷ Named name ∷ Equals ∷ words)) →
    (looped : Bool) (leaf : Leaf) → IsLeaf looped leaf → P (leaf_words leaf)
by_plain P alone given looped (work argument) fits = alone (leaf_words (work argument)) (refl, (plain_argument looped argument fits, tt))
by_plain P alone given looped (call verb object argument) fits = alone (leaf_words (call verb object argument)) (plain_call looped (call verb object argument) fits)
by_plain P alone given looped (bound name leaf) fits = given name (leaf_words leaf) (plain_call looped leaf fits)
