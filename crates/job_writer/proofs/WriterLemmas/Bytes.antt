-- The bytes of the canonical text: none begins a comment, each is allowed, and they are few.
use Rattle.std.proofs.Common.{◌≡◌, ℕ, zero, suc, ◌+◌, ◌*◌, ◌<◌, ◌≤◌, ◌^◌, List, [], ◌∷◌, ◌++◌, length, codes, Bool, true, false, not, ◌&&◌, Option, Some, None, refl, sym, subst, ap, ◌∙◌, arith, length-append}
use Rattle.std.specs.Prelude.{IfSome, if◌then◌else◌, slice_index_or}
use Rattle.std.specs.List.{list_all, AllByRecursion}
use Rattle.std.specs.Fmt.{decimal}
use Rattle.std.proofs.lemmas.Bool.{and_parts, and_from}
use Rattle.std.proofs.lemmas.Fmt.{length-decimal-le}
use Rattle.std.proofs.lemmas.List.Folds.{list_all-append}
use Rattle.std.proofs.lemmas.Grind.{common_steps}
use Rattle.seq_objects.specs.declared.kind.Kind.{Kind}
use Rattle.seq_objects.specs.declared.kind.Kind.TheVariants.{Counter}
use Rattle.seq_objects.specs.Parts.{number_of, argument_of, kind_of, has_argument}
use Rattle.seq_objects.specs.Words.{kind_words, name_words, verb_words, call_words}
use Rattle.sp_order.specs.Objects.{number_in}
use Rattle.job_names.specs.Names.{is_in_name}
use Rattle.seq_objects.specs.declared.act.Act.{Act}
use Rattle.seq_objects.specs.declared.act.Act.TheVariants.{Work, Call}
use Rattle.seq_objects.specs.declared.op.Op.{Op}
use Rattle.seq_objects.specs.declared.op.Op.TheVariants.{CounterAdd}
use Rattle.sp_order.specs.Precedence.{Tree, leaves}
use Rattle.job_lang.specs.ActNumbers.{act_number, IsSmall}
use Rattle.job_writer.specs.Code.Smalls.{IsSmallLeaf}
use Rattle.job_syntax.specs.Text.{is_allowed, is_hash, bare, forbidden_line_from, line_behind}
use Rattle.job_writer.specs.Canonical.{WrittenLeaf, name_text, value_text, argument_text, act_text, let_text, leaf_text, tree_text}
use Rattle.job_lang.proofs.LimitLemmas.SmallArguments.{small_argument}
use Rattle.job_writer.proofs.WriterLemmas.Decimals.{each_byte}
use Rattle.job_writer.proofs.WriterLemmas.Kinds.{IsNamedAt, each_spelled}
use Rattle.job_writer.proofs.WriterLemmas.Grown.{Grown, lone, series, parallel, size, Each, each_grown, grow, text_of, text_is}
use Rattle.job_writer.proofs.WriterLemmas.Words.{IsSaid}
use Rattle.job_writer.proofs.WriterLemmas.Names.{decimal_few}

-- a byte that is allowed and begins no comment
abbrev pub is_plain : ℕ → Bool
is_plain byte = is_allowed byte && not (is_hash byte)

abbrev pub ArePlain : List ℕ → Type 0
ArePlain text = list_all is_plain text ≡ true

bare_step : (byte : ℕ) (text : List ℕ) → is_plain byte ≡ true → bare false (byte ∷ text) ≡ byte ∷ bare false text
bare_step byte text plain = grind (arith, common_steps)

pub bare_same : (text : List ℕ) → ArePlain text → bare false text ≡ text
bare_same [] plain = refl
bare_same (byte ∷ text) plain =
    let parts = and_parts (is_plain byte) (list_all is_plain text) plain in
    bare_step byte text parts.0 ∙ ap (λ t. byte ∷ t) (bare_same text parts.1)

allowed_step : (line byte : ℕ) (text : List ℕ) → is_plain byte ≡ true → forbidden_line_from line (byte ∷ text) ≡ forbidden_line_from (line_behind line byte) text
allowed_step line byte text plain = grind (arith, common_steps)

pub none_forbidden : (line : ℕ) (text : List ℕ) → ArePlain text → forbidden_line_from line text ≡ None
none_forbidden line [] plain = refl
none_forbidden line (byte ∷ text) plain =
    let parts = and_parts (is_plain byte) (list_all is_plain text) plain in
    allowed_step line byte text parts.0 ∙ none_forbidden (line_behind line byte) text parts.1

pub plain_append : (front back : List ℕ) → ArePlain front → ArePlain back → ArePlain (front ++ back)
plain_append front back plain behind = list_all-append is_plain front back ∙ and_from (list_all is_plain front) (list_all is_plain back) plain behind

plain_digit : (digit : ℕ) → digit < 10 → is_plain (48 + digit) ≡ true
plain_digit digit low = grind (arith, common_steps)

plain_number : (words : List ℕ) (n : ℕ) → ArePlain words → n < 2 ^ 32 → ArePlain (words ++ decimal n)
plain_number words n plain small = plain_append words (decimal n) plain (each_byte is_plain plain_digit n small)

in_plain : (byte : ℕ) → is_in_name byte ≡ true → is_plain byte ≡ true
in_plain byte h = grind (arith, common_steps, h)

plain_kind : (kind : Kind) → ArePlain (kind_words kind)
plain_kind Counter = refl
plain_kind _ = refl

plain_name_words : (names : List (List ℕ)) (number : ℕ) → IsNamedAt names number → ArePlain (name_words names number)
plain_name_words names zero h = refl
plain_name_words names (suc place) h = each_spelled is_plain in_plain (slice_index_or names place []) h

plain_verb : (op : Op) → ArePlain (verb_words op)
plain_verb (CounterAdd number addend) = refl
plain_verb _ = refl

plain_value : (takes : Bool) (number : ℕ) (source : Option ℕ) → number < 2 ^ 32 → IfSome source (λ source. source < 2 ^ 32) → ArePlain (if takes then value_text number source else [])
plain_value true number None small small' = each_byte is_plain plain_digit number small
plain_value true number (Some source) small small' = plain_number (codes "v") source refl small'
plain_value false number source small small' = refl

plain_call : (names : List (List ℕ)) (op : Op) → IsNamedAt names (number_of op) → ArePlain (call_words names op)
plain_call names op named =
    plain_append (kind_words (kind_of op)) (name_words names (number_of op) ++ verb_words op) (plain_kind (kind_of op))
    (plain_append (name_words names (number_of op)) (verb_words op) (plain_name_words names (number_of op) named) (plain_verb op))

plain_act : (names : List (List ℕ)) (act : Act) (source : Option ℕ) → IsNamedAt names (number_in act) → IsSmall (act_number act) → IfSome source (λ source. source < 2 ^ 32) → ArePlain (act_text names act source)
plain_act names (Work steps) source named small small' = plain_number (codes "work ") steps refl small
plain_act names (Call op) source named small small' =
    plain_append (call_words names op) (argument_text op source) (plain_call names op named) (plain_value (has_argument op) (argument_of op) source (small_argument op small) small')

plain_let : (named : Bool) (number : ℕ) → number < 2 ^ 32 → ArePlain (let_text named number)
plain_let false number small = refl
plain_let true number small =
    plain_append (codes "let ") (name_text number ++ codes " = ") refl (plain_append (name_text number) (codes " = ") (plain_number (codes "v") number refl small) refl)

plain_block : (kind left right : List ℕ) → ArePlain kind → ArePlain left → ArePlain right → ArePlain (kind ++ left ++ codes " " ++ right ++ codes " }")
plain_block kind left right first second third =
    plain_append (kind ++ left ++ codes " " ++ right) (codes " }")
    (plain_append (kind ++ left ++ codes " ") right (plain_append (kind ++ left) (codes " ") (plain_append kind left first second) refl) third)
    refl

plain_leaf : (names : List (List ℕ)) (written : WrittenLeaf) → IsSaid names written → ArePlain (leaf_text names written)
plain_leaf names written good =
    plain_append (let_text written.named written.number) (act_text names written.act written.source) (plain_let written.named written.number good.small.number)
    (plain_act names written.act written.source good.named good.small.act good.small.source)

pub plain_grown : (names : List (List ℕ)) (grown : Grown) → Each (IsSaid names) grown → ArePlain (text_of names grown)
plain_grown names (lone one) good = plain_leaf names one good
plain_grown names (series left right) good = plain_block (codes "seq { ") (text_of names left) (text_of names right) refl (plain_grown names left good.0) (plain_grown names right good.1)
plain_grown names (parallel left right) good = plain_block (codes "par { ") (text_of names left) (text_of names right) refl (plain_grown names left good.0) (plain_grown names right good.1)

-- Where no object has a name, a leaf takes at most 40 bytes, 26 where it has no source and is none, and a block at most
-- 9 more; there are more leaves than blocks. The words of a kind and of a verb take at most 15 of them.

short_verb : (op : Op) → length (kind_words (kind_of op)) + length (verb_words op) ≤ 15
short_verb (CounterAdd number addend) = omega arith
short_verb _ = omega arith

short_name_words : (number : ℕ) → length (name_words [] number) ≤ 1
short_name_words zero = omega arith
short_name_words (suc place) = omega arith

short_call : (op : Op) → length (call_words [] op) ≤ 16
short_call op =
    omega (arith, length-append (kind_words (kind_of op)) (name_words [] (number_of op) ++ verb_words op), length-append (name_words [] (number_of op)) (verb_words op), short_verb op, short_name_words (number_of op))

short_value : (takes : Bool) (number : ℕ) → number < 2 ^ 32 → length (if takes then value_text number None else []) ≤ 10
short_value true number small = decimal_few number small
short_value false number small = omega arith

short_source : (takes : Bool) (number source : ℕ) → source < 2 ^ 32 → length (if takes then value_text number (Some source) else []) ≤ 11
short_source true number source small = let h = decimal_few source small in omega (arith, h)
short_source false number source small = omega arith

short_act : (act : Act) → IsSmall (act_number act) → length (act_text [] act None) ≤ 26
short_act (Work steps) small = let h = decimal_few steps small in omega (arith, h)
short_act (Call op) small =
    omega (arith, length-append (call_words [] op) (argument_text op None), short_call op, short_value (has_argument op) (argument_of op) (small_argument op small))

short_any : (act : Act) (source : Option ℕ) → IsSmall (act_number act) → IfSome source (λ source. source < 2 ^ 32) → length (act_text [] act source) ≤ 27
short_any act None small small' = let h = short_act act small in omega (arith, h)
short_any (Work steps) (Some source) small small' = let h = decimal_few steps small in omega (arith, h)
short_any (Call op) (Some source) small small' =
    omega (arith, length-append (call_words [] op) (argument_text op (Some source)), short_call op, short_source (has_argument op) (argument_of op) source small')

-- a leaf with a number of at most five digits
abbrev pub IsFew : WrittenLeaf → Type 0
IsFew written = written.number < 100000

short_let : (named : Bool) (number : ℕ) → number < 100000 → length (let_text named number) ≤ 13
short_let false number few = omega arith
short_let true number few =
    omega (arith, length-append (name_text number) (codes " = "), length-decimal-le 5 number (omega arith) (omega (arith, few)) (omega (arith, few)))

pub short_leaf : (written : WrittenLeaf) → IsSmallLeaf written → IsFew written → length (leaf_text [] written) + 9 ≤ 49
short_leaf written small few =
    omega (arith, length-append (let_text written.named written.number) (act_text [] written.act written.source), short_let written.named written.number few, short_any written.act written.source small.act small.source)

-- a leaf without names
pub record IsUnnamed (written : WrittenLeaf) : Type 0 where
  pub named : written.named ≡ false
  pub source : written.source ≡ None

pub plain_short : (written : WrittenLeaf) → IsSmallLeaf written → IsUnnamed written → length (leaf_text [] written) + 9 ≤ 35
plain_short written small unnamed =
    let e = ap (λ named. length (let_text named written.number ++ act_text [] written.act written.source)) unnamed.named in
    let f = ap (λ source. length (act_text [] written.act source)) unnamed.source in
    omega (arith, e, f, short_act written.act small.act)

block_length : (kind left right : List ℕ) → length (kind ++ left ++ codes " " ++ right ++ codes " }") ≡ length kind + length left + length right + 3
block_length kind left right = simp length-append (omega arith)

-- the text of a shape whose leaves are short
short_grown : (most : ℕ) (grown : Grown) → Each (λ written. length (leaf_text [] written) + 9 ≤ most) grown → length (text_of [] grown) + 9 ≤ most * size grown
short_grown most (lone one) few = omega (arith, few)
short_grown most (series left right) few = omega (arith, short_grown most left few.0, short_grown most right few.1, block_length (codes "seq { ") (text_of [] left) (text_of [] right))
short_grown most (parallel left right) few = omega (arith, short_grown most left few.0, short_grown most right few.1, block_length (codes "par { ") (text_of [] left) (text_of [] right))

pub short_tree : (most : ℕ) (tree : Tree) (written : List WrittenLeaf) → length written ≡ leaves tree → AllByRecursion (λ written. length (leaf_text [] written) + 9 ≤ most) written → length (tree_text [] tree written) + 9 ≤ most * leaves tree
short_tree most tree written same few =
    let grown = grow tree written same in
    subst (λ (whole : Tree × List WrittenLeaf). length (tree_text [] whole.0 whole.1) + 9 ≤ most * leaves whole.0) (λ i. (grown.1.0 i, grown.1.1 i))
    (subst (λ text. length text + 9 ≤ most * size grown.0) (sym (text_is [] grown.0)) (short_grown most grown.0 (each_grown _ grown.0 (subst (AllByRecursion _) (sym grown.1.1) few))))
