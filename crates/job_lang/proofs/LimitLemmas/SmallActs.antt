-- The numbers of the acts of an accepted text fit 32 bits.
use Rattle.std.proofs.Common.{◌≡◌, ℕ, zero, suc, ◌<◌, ◌^◌, List, [], ◌∷◌, Bool, true, false, Option, Some, None, sym, subst, arith}
use Rattle.std.specs.Prelude.{if◌then◌else◌, option_to_list}
use Rattle.std.specs.List.{AllByRecursion}
use Rattle.seq_objects.specs.declared.act.Act.{Act}
use Rattle.seq_objects.specs.declared.act.Act.TheVariants.{Work, Call}
use Rattle.seq_objects.specs.declared.op.Op.{Op}
use Rattle.seq_objects.specs.declared.verb.Verb.{Verb}
use Rattle.seq_objects.specs.Verbs.{takes_argument}
use Rattle.seq_objects.specs.Parts.{verb_of, op_of, argument_of, has_argument, with_number}
use Rattle.seq_objects.proofs.Parts.{argument_given, takes_given, number_leaves_argument}
use Rattle.sp_order.specs.Jobs.{JobValue}
use Rattle.sp_order.specs.Objects.{numbered, with_numbers}
use Rattle.job_syntax.specs.declared.lexer.word.Word.{Word}
use Rattle.job_syntax.specs.declared.lexer.word.Word.TheVariants.{Number, Copies}
use Rattle.job_syntax.specs.Text.{tokens}
use Rattle.job_syntax.specs.Words.{words_on_lines}
use Rattle.job_syntax.specs.Grammar.{Items, nothing, leaf_then, block_then, BlockKind, seq_block, par_block, for_loop, pfor_loop, Leaf, work, call, bound, leaf_words, items_words}
use Rattle.job_syntax.specs.Blocks.{word_number}
use Rattle.job_lang.specs.ActNumbers.{op_number, act_number, IsSmall, AreSmall}
use Rattle.job_lang.specs.Code.Ranges.{FitsArgument, FitsLeaf, InEach, Fits}
use Rattle.job_lang.specs.Objects.{numbers_of}
use Rattle.job_lang.specs.Meaning.{number_in, argument_in, act_of, each_copy, in_block, acts_in, objects_in}
use Rattle.job_lang.specs.Language.{IsJobOf}
use Rattle.seq_objects.proofs.Elements.{each_append}
use Rattle.job_lang.proofs.LimitLemmas.Arguments.{numbers_fit}
use Rattle.job_lang.proofs.LimitLemmas.GoodWords.{SaysWell, good_words, parts, block_parts}

small_in_copy : (copy : ℕ) (argument : Word) → FitsArgument copy (Some argument) → SaysWell argument → number_in copy argument < 2 ^ 32
small_in_copy copy (Number (Some number)) fits small = small
small_in_copy copy (Copies (Some by)) fits small = fits
small_in_copy copy _ fits small = omega arith

small_argument : (copy : ℕ) (argument : Option Word) → FitsArgument copy argument → AllByRecursion SaysWell (option_to_list argument) → argument_in copy argument < 2 ^ 32
small_argument copy None fits each = omega arith
small_argument copy (Some argument) fits each = small_in_copy copy argument fits each.0

either_small : (b : Bool) (number : ℕ) → number < 2 ^ 32 → (if b then number else 0) < 2 ^ 32
either_small true number small = small
either_small false number small = omega arith

pub number_small : (b : Bool) (number : ℕ) → number < 2 ^ 32 → IsSmall (if b then Some number else None)
number_small true number small = small
number_small false number small = tt

small_call : (verb : Verb) (argument : ℕ) → argument < 2 ^ 32 → IsSmall (op_number (op_of verb 0 argument))
small_call verb argument small =
    let op = op_of verb 0 argument in
    number_small (has_argument op) (argument_of op) (subst (λ n. n < 2 ^ 32) (sym (argument_given verb 0 argument)) (either_small (takes_argument verb) argument small))

small_act : (copy : ℕ) (leaf : Leaf) → FitsLeaf copy leaf → AllByRecursion SaysWell (leaf_words leaf) → IsSmall (act_number (act_of copy leaf))
small_act copy (work argument) fits each = small_in_copy copy argument fits each.1.0
small_act copy (call verb object argument) fits each = small_call verb (argument_in copy argument) (small_argument copy argument fits each.1.1)
small_act copy (bound name given) fits each = small_act copy given fits each.1.1.1

abbrev IsSmallAct : Act → Type 0
IsSmallAct act = IsSmall (act_number act)

small_copies_of : (copies : ℕ) (in_copy : ℕ → List Act) → ((k : ℕ) → k < copies → AreSmall (in_copy k)) → AreSmall (each_copy copies in_copy)
small_copies_of zero in_copy small = tt
small_copies_of (suc copies) in_copy small =
    each_append IsSmallAct (each_copy copies in_copy) (in_copy copies) (small_copies_of copies in_copy (λ k below. small k (omega (arith, below)))) (small copies (omega arith))

small_block : (kind : BlockKind) (copy : ℕ) (P : ℕ → Type 0) (inside : ℕ → List Act) → ((k : ℕ) → P k → AreSmall (inside k)) → InEach kind copy P → AreSmall (in_block kind copy inside)
small_block seq_block copy P inside small h = small copy h
small_block par_block copy P inside small h = small copy h
small_block (for_loop copies) copy P inside small h = small_copies_of (word_number copies) inside (λ k below. small k (h k below))
small_block (pfor_loop copies) copy P inside small h = small_copies_of (word_number copies) inside (λ k below. small k (h k below))

small_acts : (items : Items) (copy : ℕ) → Fits copy items → AllByRecursion SaysWell (items_words items) → AreSmall (acts_in copy items)
small_acts nothing copy fits each = tt
small_acts (leaf_then leaf more) copy fits each =
    let both = parts (leaf_words leaf) (items_words more) each in (small_act copy leaf fits.0 both.0, small_acts more copy fits.1 both.1)
small_acts (block_then kind body more) copy fits each =
    let both = block_parts kind body more each in
    each_append IsSmallAct (in_block kind copy (λ k. acts_in k body)) (acts_in copy more)
    (small_block kind copy (λ k. Fits k body) (λ k. acts_in k body) (λ k fit. small_acts body k fit both.0) fits.0) (small_acts more copy fits.1 both.1)

-- the number of the object does not matter
same_number : (op : Op) (number : ℕ) → op_number (with_number op number) ≡ op_number op
same_number op number = λ i. if takes_given (verb_of op) number (argument_of op) i then Some (number_leaves_argument op number i) else None

small_number : (act : Act) (number : ℕ) → IsSmall (act_number act) → IsSmall (act_number (numbered act number))
small_number (Work steps) number small = small
small_number (Call op) number small = subst IsSmall (sym (same_number op number)) small

small_numbered : (acts : List Act) (numbers : List ℕ) → AreSmall acts → AreSmall (with_numbers acts numbers)
small_numbered [] numbers small = tt
small_numbered (act ∷ acts) [] small = small
small_numbered (act ∷ acts) (number ∷ numbers) small = (small_number act number small.0, small_numbered acts numbers small.1)

pub accepted_acts : (text : List ℕ) (job : JobValue) → IsJobOf text job → AreSmall job.acts
accepted_acts text job is =
    rw is.means (small_numbered (acts_in 0 is.items) (numbers_of (objects_in is.items)) (small_acts is.items 0 (numbers_fit (words_on_lines text) is.items is.read.derives is.small)
    (subst (AllByRecursion SaysWell) (sym is.read.derives.writes) (good_words (tokens text)))))
