-- Where no argument is out of range in the last copy, the numbers of all copies fit 32 bits.
use Rattle.std.proofs.Common.{◌≡◌, ℕ, suc, ◌+◌, ◌-◌, ◌*◌, ◌^◌, ◌<◌, ◌≤◌, List, [], ◌∷◌, ◌++◌, length, filter, Bool, true, false, Option, Some, None, refl, ap, ◌∙◌, arith, subst, length-append}
use Rattle.std.specs.Prelude.{◌&&◌, nat_le, if◌then◌else◌, IsTrue}
use Rattle.std.proofs.Math.Nat.{mul-le-mul_left}
use Rattle.std.proofs.lemmas.Bool.{le-leb, leb-false}
use Rattle.std.proofs.lemmas.List.Elements.{filter-append}
use Rattle.job_syntax.specs.declared.lexer.word.Word.{Word}
use Rattle.job_syntax.specs.declared.lexer.word.Word.TheVariants.{Open, Close, Copies}
use Rattle.job_syntax.specs.declared.lexer.word.WordOnLine.{WordOnLine}
use Rattle.job_syntax.specs.Grammar.{Items, nothing, leaf_then, block_then, BlockKind, seq_block, par_block, for_loop, pfor_loop, Leaf, work, call, bound, leaf_words, kind_words, items_words, is_loop, is_argument, is_call_argument, FitsVerb, IsLeaf, AreItems, Derives}
use Rattle.job_syntax.specs.Faults.{words_of}
use Rattle.job_syntax.specs.Blocks.{word_number}
use Rattle.job_syntax.specs.Arguments.{leaf_argument}
use Rattle.job_lang.specs.Limits.{copies_inside, is_out_of_range, argument_range_flags, leaf_range_flags, range_flags, depends_on_copy, first_line, argument_line}
use Rattle.job_lang.specs.Code.Ranges.{FitsArgument, FitsLeaf, InEach, Fits}
use Rattle.job_lang.specs.Code.Searches.{dependents}
use Rattle.seq_objects.specs.Verbs.{takes_argument}
use Rattle.job_syntax.proofs.ParserLemmas.Calls.{call_is_leaf}

-- there are as many words that depend on the copy as arguments that do

count_kept : (flag : Bool) (token : WordOnLine) (tokens : List WordOnLine) (words : List Word) → length tokens ≡ length words → length (if flag then token ∷ tokens else tokens) ≡ length (if flag then token.word ∷ words else words)
count_kept true token tokens words same = ap suc same
count_kept false token tokens words same = same

dependents_length : (tokens : List WordOnLine) → length (dependents tokens) ≡ length (filter depends_on_copy (words_of tokens))
dependents_length [] = refl
dependents_length (token ∷ tokens) = count_kept (depends_on_copy token.word) token (dependents tokens) (filter depends_on_copy (words_of tokens)) (dependents_length tokens)

filter_length : (a b : List Word) → length (filter depends_on_copy (a ++ b)) ≡ length (filter depends_on_copy a) + length (filter depends_on_copy b)
filter_length a b = ap length (filter-append depends_on_copy a b) ∙ length-append (filter depends_on_copy a) (filter depends_on_copy b)

word_few : (c : ℕ) (argument : Word) → length (argument_range_flags c (Some argument)) ≤ length (filter depends_on_copy (argument ∷ []))
word_few c (Copies (Some by)) = omega arith
word_few c _ = omega arith

leaf_few : (c : ℕ) (leaf : Leaf) → length (leaf_range_flags c leaf) ≤ length (filter depends_on_copy (leaf_words leaf))
leaf_few c (work argument) = word_few c argument
leaf_few c (call verb object (Some argument)) = word_few c argument
leaf_few c (call verb object None) = omega arith
leaf_few c (bound name given) = leaf_few c given

range_flags_few : (items : Items) (c : ℕ) → length (range_flags c items) ≤ length (filter depends_on_copy (items_words items))
range_flags_few nothing c = omega arith
range_flags_few (leaf_then leaf more) c =
    omega (arith, leaf_few c leaf, range_flags_few more c, filter_length (leaf_words leaf) (items_words more), length-append (leaf_range_flags c leaf) (range_flags c more))
range_flags_few (block_then kind body more) c =
    omega (
      arith,
      range_flags_few body (copies_inside c kind),
      range_flags_few more c,
      filter_length (kind_words kind) (Open ∷ (items_words body ++ Close ∷ items_words more)),
      filter_length (items_words body) (Close ∷ items_words more),
      length-append (range_flags (copies_inside c kind) body) (range_flags c more),
    )

abbrev AreAllFalse : List Bool → Type 0
AreAllFalse [] = Unit {0}
AreAllFalse (flag ∷ flags) = (flag ≡ false) × AreAllFalse flags

all_false : (flags : List Bool) (words : List WordOnLine) → length flags ≤ length words → first_line flags words ≡ None → AreAllFalse flags
all_false [] words few none = tt
all_false (true ∷ flags) [] few none = absurd (omega (arith, few))
all_false (true ∷ flags) (word ∷ words) few none = absurd (cc none)
all_false (false ∷ flags) [] few none = absurd (omega (arith, few))
all_false (false ∷ flags) (word ∷ words) few none = (refl, all_false flags words (omega (arith, few)) none)

parts_false : (a b : List Bool) → AreAllFalse (a ++ b) → AreAllFalse a × AreAllFalse b
parts_false [] b h = (tt, h)
parts_false (flag ∷ a) b h = let k = parts_false a b h.1 in ((h.0, k.0), k.1)

not_both : (a b : Bool) → a ≡ true → (a && b) ≡ false → b ≡ false
not_both true b first whole = whole
not_both false b first whole = absurd (cc first)

-- a number that fits in the last copy fits in each
number_fits : (by : ℕ × ℕ) (c k : ℕ) → k < c → is_out_of_range c by ≡ false → by.0 * k + by.1 < 2 ^ 32
number_fits by c k below small =
    let last : by.0 * (c - 1) + by.1 < 2 ^ 32 = leb-false (2 ^ 32) (by.0 * (c - 1) + by.1) (not_both (nat_le 1 c) (nat_le (2 ^ 32) (by.0 * (c - 1) + by.1)) (le-leb 1 c (omega (arith, below))) small) in
    let less : by.0 * k ≤ by.0 * (c - 1) = mul-le-mul_left by.0 (omega (arith, below)) in
    omega (arith, last, less)

argument_fits_inside : (argument : Option Word) (c k : ℕ) → k < c → AreAllFalse (argument_range_flags c argument) → FitsArgument k argument
argument_fits_inside (Some (Copies (Some by))) c k below small = number_fits by c k below small.0
argument_fits_inside _ c k below small = tt

-- the arguments of a block fit, where those of its body do: inside a loop, and else in the copy of the block
block_fits : (kind : BlockKind) (c k : ℕ) (body : Items) → ((d i : ℕ) → i < d → AreAllFalse (range_flags d body) → Fits i body) → (is_loop kind ≡ false → AreAllFalse (range_flags c body) → Fits k body)
    → AreAllFalse (range_flags (copies_inside c kind) body) → InEach kind k (λ i. Fits i body)
block_fits seq_block c k body inside here small = here refl small
block_fits par_block c k body inside here small = here refl small
block_fits (for_loop n) c k body inside here small = λ i within. inside (word_number n) i within small
block_fits (pfor_loop n) c k body inside here small = λ i within. inside (word_number n) i within small

fits_inside : (items : Items) (c k : ℕ) → k < c → AreAllFalse (range_flags c items) → Fits k items
fits_inside nothing c k below small = tt
fits_inside (leaf_then leaf more) c k below small =
    let parts = parts_false (leaf_range_flags c leaf) (range_flags c more) small in
    (argument_fits_inside (leaf_argument leaf) c k below parts.0, fits_inside more c k below parts.1)
fits_inside (block_then kind body more) c k below small =
    let parts = parts_false (range_flags (copies_inside c kind) body) (range_flags c more) small in (
      block_fits kind c k body (λ d i within flags. fits_inside body d i within flags) (λ single flags. fits_inside body c k below flags) parts.0,
      fits_inside more c k below parts.1,
    )

argument_fits : (argument : Word) → IsTrue (is_argument false argument) → FitsArgument 0 (Some argument)
argument_fits (Copies by) fits = absurd (cc fits)
argument_fits _ fits = tt

value_fits : (argument : Word) → IsTrue (is_call_argument false argument) → FitsArgument 0 (Some argument)
value_fits (Copies by) fits = absurd (cc fits)
value_fits _ fits = tt

call_fits : (takes : Bool) (argument : Option Word) → FitsVerb false takes argument → FitsArgument 0 argument
call_fits true (Some argument) fits = value_fits argument fits
call_fits false (Some argument) fits = elim fits [ ]
call_fits takes None fits = tt

leaf_fits_outside : (leaf : Leaf) → IsLeaf false leaf → FitsLeaf 0 leaf
leaf_fits_outside (work argument) fits = argument_fits argument fits
leaf_fits_outside (call verb object argument) fits = call_fits (takes_argument verb) argument fits
leaf_fits_outside (bound name given) fits = leaf_fits_outside given (call_is_leaf false given fits)

fits_outside : (items : Items) → AreItems false items → AreAllFalse (range_flags 0 items) → Fits 0 items
fits_outside nothing fits small = tt
fits_outside (leaf_then leaf more) fits small =
    let parts = parts_false (leaf_range_flags 0 leaf) (range_flags 0 more) small in (leaf_fits_outside leaf fits.0, fits_outside more fits.1 parts.1)
fits_outside (block_then kind body more) fits small =
    let parts = parts_false (range_flags (copies_inside 0 kind) body) (range_flags 0 more) small in (
      block_fits kind 0 0 body (λ d i within flags. fits_inside body d i within flags)
          (λ single flags. fits_outside body (subst (λ looped. AreItems looped body) single fits.1) flags) parts.0,
      fits_outside more fits.2 parts.1,
    )

-- where no argument of the text is out of range, all numbers fit
pub numbers_fit : (words : List WordOnLine) (items : Items) → Derives (words_of words) items → argument_line words items ≡ None → Fits 0 items
numbers_fit words items derives none =
    let few = range_flags_few items 0 in
    let same = ap (λ ws. length (filter depends_on_copy ws)) derives.writes in
    fits_outside items derives.fits (all_false (range_flags 0 items) (dependents words) (omega (arith, few, same, dependents_length words)) none)
