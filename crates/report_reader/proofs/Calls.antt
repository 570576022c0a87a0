-- Calls whose objects a table has, and their lines.
use Rattle.std.proofs.Common.{◌≡◌, ℕ, zero, suc, ◌-◌, ◌<◌, ◌≤◌, inl, inr, true, false, List, [], ◌∷◌, ◌++◌, length, get_or, Option, Some, None, refl, sym, ap, subst, ◌∙◌, append_assoc, append-nil, length-append, arith}
use Rattle.std.specs.Prelude.{IsSome}
use Rattle.std.specs.List.{flat_map, AllByRecursion}
use Rattle.std.proofs.lemmas.List.{get_or_append_left}
use Rattle.std.proofs.lemmas.Grind.{flat_map-append}
use Rattle.seq_objects.specs.Parts.{kind_of}
use Rattle.seq_objects.specs.Objects.{number_of}
use Rattle.seq_objects.specs.Words.{name_words}
use Rattle.job_names.specs.Names.{AreSpelled, is_spelled}
use Rattle.sp_order.specs.Objects.{name_of_number}
use Rattle.report_reader.specs.Code.Objects.{is_mark, names_in, found, mark_of, IsKept, IsKnown, IsFound, Extends}
use Rattle.seq_objects.specs.Parts.{op_of}
use Rattle.seq_objects.specs.Verbs.{kind_of_verb}
use Rattle.report_reader.specs.Code.Lines.{line_text, IsLineThen, call_of, call_line, FitsCall, IsCallThen, AreCallsThen}
use Rattle.seq_objects.specs.declared.kind.Kind.{Kind}
use Rattle.report_reader.specs.declared.call.Line.{Line}
use Rattle.report_reader.specs.declared.call.Numbered.{Numbered}
use Rattle.report_reader.specs.declared.table.Table.{Table}
use Rattle.seq_objects.proofs.Parts.{kind_given, number_given}
use Rattle.report_reader.proofs.CallLines.{line_of, call_marked, call_fits, line_back}
use Rattle.report_reader.proofs.Growing.{mark_parts}
use Rattle.seq_objects.proofs.Elements.{each_push}

-- the mark of a number is that of its name
pub words_at : (names : List (List ℕ)) (number : ℕ) → 0 < number → name_words names number ≡ 58 ∷ name_of_number names number
words_at names zero some = absurd (omega (arith, some))
words_at names (suc number) some = let same : number ≡ suc number - 1 = omega arith in ap (λ (i : ℕ). 58 ∷ get_or names i []) same

-- where a table has an object under a number, its mark is that of the number
pub found_mark : (table : Table) (kind : Kind) (mark : List ℕ) (number : ℕ) → IsKept table → is_mark mark ≡ true → found table kind mark ≡ Some number → name_words (names_in table) number ≡ mark
found_mark table kind mark number kept marked is = elim (mark_parts mark marked) [
  | inl none ↦
      let zero_is : number ≡ 0 = (let at : found table kind [] ≡ Some number = subst (λ (m : List ℕ). found table kind m ≡ Some number) none is in cc (at)) in
      ap (name_words (names_in table)) zero_is ∙ sym none
  | inr named ↦
      let own = kept.numbers kind named.0 number named.2 (subst (λ (m : List ℕ). found table kind m ≡ Some number) named.1 is) in
      words_at (names_in table) number own.0 ∙ ap (λ (n : List ℕ). 58 ∷ n) own.2 ∙ sym named.1
]

all_at : (P : List ℕ → Type 0) (xs : List (List ℕ)) (i : ℕ) → AllByRecursion P xs → i < length xs → P (get_or xs i [])
all_at P [] i all low = absurd (omega (arith, low))
all_at P (x ∷ xs) zero all low = all.0
all_at P (x ∷ xs) (suc i) all low = all_at P xs i all.1 (omega (arith, low))

-- the mark of a number within the names is a mark
pub number_marked : (names : List (List ℕ)) (number : ℕ) → AreSpelled names → number ≤ length names → is_mark (name_words names number) ≡ true
number_marked names zero spelled low = refl
number_marked names (suc number) spelled low = all_at (λ text. is_spelled text ≡ true) names number spelled (omega (arith, low))

-- a number that a table has is within its names
pub found_within : (table : Table) (kind : Kind) (mark : List ℕ) (number : ℕ) → IsKept table → is_mark mark ≡ true → found table kind mark ≡ Some number → number ≤ length (names_in table)
found_within table kind mark number kept marked is = elim (mark_parts mark marked) [
  | inl none ↦
      let zero_is : number ≡ 0 = (let at : found table kind [] ≡ Some number = subst (λ (m : List ℕ). found table kind m ≡ Some number) none is in cc (at)) in
      omega (arith, zero_is)
  | inr named ↦ (kept.numbers kind named.0 number named.2 (subst (λ (m : List ℕ). found table kind m ≡ Some number) named.1 is)).1
]

-- a line whose object the table has is that of a call
pub call_read : (table : Table) (text : List ℕ) (line : Line) (mark rest : List ℕ) (number : ℕ) → IsKept table → IsLineThen text line mark rest
    → found table (kind_of_verb line.spoken.verb) mark ≡ Some number → IsCallThen table text (call_of line number) rest
call_read table text line mark rest number kept is has =
    let op = op_of line.spoken.verb number line.spoken.argument in
    let at : number_of op ≡ number = number_given line.spoken.verb number line.spoken.argument in
    let words : mark_of (names_in table) op ≡ mark = ap (name_words (names_in table)) at ∙ found_mark table (kind_of_verb line.spoken.verb) mark number kept is.marked has in
    record {
      written = ap (λ (t : List ℕ). t ++ rest) (call_marked (names_in table) (call_of line number) ∙ ap (λ (l : Line). line_text l (mark_of (names_in table) op)) (line_back line number is.fits) ∙ ap (line_text line) words) ∙ is.written;
      fits = call_fits line number is.fits;
      found = (
        subst (λ (n : ℕ). n ≤ length (names_in table)) (sym at) (found_within table (kind_of_verb line.spoken.verb) mark number kept is.marked has),
        ap (λ k. found table k (mark_of (names_in table) op)) (kind_given line.spoken.verb number line.spoken.argument) ∙ ap (found table (kind_of_verb line.spoken.verb)) words ∙ has ∙ ap Some (sym at),
      );
    }

-- a longer table
module _ (old new : Table) (kept : IsKept old) (extends : Extends old new) where
  pub words_stay : (number : ℕ) → number ≤ length (names_in old) → name_words (names_in new) number ≡ name_words (names_in old) number
  words_stay zero low = refl
  words_stay (suc number) low =
      ap (λ (ns : List (List ℕ)). 58 ∷ get_or ns number []) extends.names ∙ ap (λ (n : List ℕ). 58 ∷ n) (get_or_append_left (names_in old) extends.more [] number (omega (arith, low)))

  pub known_stays : (kind : Kind) (mark : List ℕ) → IsKnown old kind mark → IsKnown new kind mark
  known_stays kind mark (inl growing) = inl (extends.grows ∙ growing)
  known_stays kind mark (inr has) = inr (some_stays (found old kind mark) refl has)
    where
      some_stays : (r : Option ℕ) → found old kind mark ≡ r → IsSome r → IsSome (found new kind mark)
      some_stays None is some = cc (some)
      some_stays (Some number) is some = rw (extends.numbers kind mark number is) refl

  module _ (call : Numbered) (has : IsFound old call.entry.op) where
    mark_stays : mark_of (names_in new) call.entry.op ≡ mark_of (names_in old) call.entry.op
    mark_stays = words_stay (number_of call.entry.op) has.0

    found_stays : IsFound new call.entry.op
    found_stays = (
      omega (arith, has.0, ap length extends.names, length-append (names_in old) extends.more),
      ap (found new (kind_of call.entry.op)) mark_stays ∙ extends.numbers (kind_of call.entry.op) (mark_of (names_in old) call.entry.op) (number_of call.entry.op) has.1,
    )

    line_stays : call_line (names_in new) call ≡ call_line (names_in old) call
    line_stays = call_marked (names_in new) call ∙ ap (line_text (line_of call)) mark_stays ∙ sym (call_marked (names_in old) call)

  pub all_found : (calls : List Numbered) → AllByRecursion (λ (call : Numbered). IsFound old call.entry.op) calls → AllByRecursion (λ (call : Numbered). IsFound new call.entry.op) calls
  all_found [] has = tt
  all_found (call ∷ calls) has = (found_stays call has.0, all_found calls has.1)

  pub lines_stay : (calls : List Numbered) → AllByRecursion (λ (call : Numbered). IsFound old call.entry.op) calls → flat_map (call_line (names_in new)) calls ≡ flat_map (call_line (names_in old)) calls
  lines_stay [] has = refl
  lines_stay (call ∷ calls) has = ap (λ (t : List ℕ). t ++ flat_map (call_line (names_in new)) calls) (line_stays call has.0) ∙ ap (λ (t : List ℕ). call_line (names_in old) call ++ t) (lines_stay calls has.1)

-- what was read of a text so far, and what is left
pub record HaveRead (table : Table) (text : List ℕ) (calls : List Numbered) (rest : List ℕ) : Type 0 where
  pub kept : IsKept table
  pub written : flat_map (call_line (names_in table)) calls ++ rest ≡ text
  pub fits : AllByRecursion FitsCall calls
  pub has : AllByRecursion (λ (call : Numbered). IsFound table call.entry.op) calls

pub read_none : (table : Table) (text : List ℕ) → IsKept table → HaveRead table text [] text
read_none table text kept = record { kept = kept; written = refl; fits = tt; has = tt }

-- a longer table has read the same
pub read_longer : (old new : Table) (text : List ℕ) (calls : List Numbered) (rest : List ℕ) → Extends old new → IsKept new → HaveRead old text calls rest → HaveRead new text calls rest
read_longer old new text calls rest extends kept read = record {
  kept = kept;
  written = ap (λ (t : List ℕ). t ++ rest) (lines_stay old new read.kept extends calls read.has) ∙ read.written;
  fits = read.fits;
  has = all_found old new read.kept extends calls read.has;
}

-- one call more
pub read_more : (table : Table) (text : List ℕ) (calls : List Numbered) (rest : List ℕ) (call : Numbered) (more : List ℕ) → HaveRead table text calls rest → IsCallThen table rest call more → HaveRead table text (calls ++ call ∷ []) more
read_more table text calls rest call more read is = record {
  kept = read.kept;
  written =
      ap (λ (t : List ℕ). t ++ more) (flat_map-append (call_line (names_in table)) calls (call ∷ []))
      ∙ append_assoc (flat_map (call_line (names_in table)) calls) (call_line (names_in table) call ++ []) more
      ∙ ap (λ (t : List ℕ). flat_map (call_line (names_in table)) calls ++ t) (ap (λ (t : List ℕ). t ++ more) (append-nil (call_line (names_in table) call)) ∙ is.written)
      ∙ read.written;
  fits = each_push FitsCall calls call read.fits is.fits;
  has = each_push (λ (c : Numbered). IsFound table c.entry.op) calls call read.has is.found;
}

-- where no line of a known call follows, these are the calls
pub calls_read : (table : Table) (text : List ℕ) (calls : List Numbered) (rest : List ℕ) → HaveRead table text calls rest
    → ((line : Line) (mark more : List ℕ) → IsLineThen rest line mark more → IsKnown table (kind_of_verb line.spoken.verb) mark → ⊥) → AreCallsThen table text calls rest
calls_read table text calls rest read ends = record { written = read.written; fits = read.fits; found = read.has; ends = ends }

pub extends_through : (first second third : Table) → Extends first second → Extends second third → Extends first third
extends_through first second third a b = record {
  grows = b.grows ∙ a.grows;
  more = a.more ++ b.more;
  names = b.names ∙ ap (λ (ns : List (List ℕ)). ns ++ b.more) a.names ∙ append_assoc (names_in first) a.more b.more;
  numbers = λ kind mark number is. b.numbers kind mark number (a.numbers kind mark number is);
  same = λ closed. b.same (a.grows ∙ closed) ∙ a.same closed;
}

-- what a table that does not grow lacks is not known
pub unknown : (table : Table) (kind : Kind) (mark : List ℕ) → table.grows ≡ false → found table kind mark ≡ None → IsKnown table kind mark → ⊥
unknown table kind mark closed none (inl growing) = cc (closed, growing)
unknown table kind mark closed none (inr has) = let no : IsSome {T = ℕ} None = subst (λ (r : Option ℕ). IsSome r) none has in cc (no)
