-- Lines that may stand one behind another, and where they end.
use Rattle.std.proofs.Common.{◌≡◌, ◌≢◌, ℕ, ◌<◌, ◌≤◌, inl, inr, Bool, true, false, List, [], ◌∷◌, ◌++◌, length, get_or, refl, sym, ap, subst, ◌∙◌, length-append, codes, arith}
use Rattle.std.specs.Prelude.{◌==◌}
use Rattle.std.proofs.lemmas.Bool.{eqb-true}
use Rattle.std.specs.Fmt.{decimal}
use Rattle.seq_objects.specs.Objects.{number_of}
use Rattle.seq_objects.specs.Words.{name_words}
use Rattle.job_names.specs.Names.{AreSpelled}
use Rattle.batch_history.specs.Text.{head_line, entry_line}
use Rattle.batch_history.specs.declared.row.Row.{Row}
use Rattle.report_reader.specs.Stops.{may_follow, IsCallLine, IsRowLine, Follows, HasHead}
use Rattle.report_reader.specs.Code.Objects.{mark_of}
use Rattle.seq_objects.specs.Parts.{op_of}
use Rattle.report_reader.specs.Code.Lines.{IsHeadThen, line_text, IsLineThen, call_of, IsRowThen}
use Rattle.report_reader.specs.declared.stop.Before.{Before}
use Rattle.report_reader.specs.declared.stop.Before.TheVariants as before
use Rattle.report_reader.specs.declared.head.Head.{Head}
use Rattle.report_reader.specs.declared.call.Line.{Line}
use Rattle.report_reader.specs.declared.call.Numbered.{Numbered}
use Rattle.report_reader.proofs.Growing.{mark_parts}
use Rattle.seq_objects.proofs.Parts.{number_given}
use Rattle.report_reader.proofs.CallLines.{place_from, line_whole, line_of, call_marked, call_fits, line_back, line_at, one_line}
use Rattle.report_reader.proofs.Calls.{number_marked}
use Rattle.report_reader.proofs.Books.{long_call}
use Rattle.report_reader.proofs.Rows.{worker_from, row_whole}
use Rattle.report_reader.proofs.Rows.{shorter as row_shorter}

-- a line with this mark is that of a call, where the names have the mark under a number
with_number : {text : List ℕ} {line : Line} {mark rest : List ℕ} → IsLineThen text line mark rest → (names : List (List ℕ)) (number : ℕ) → AreSpelled names → number ≤ length names
    → name_words names number ≡ mark → IsCallLine text line.batch line.place rest
with_number {text = text} {line = line} {mark = mark} {rest = rest} is names number spelled low words =
    let op = op_of line.spoken.verb number line.spoken.argument in
    let at : number_of op ≡ number = number_given line.spoken.verb number line.spoken.argument in
    let marked : mark_of names op ≡ mark = ap (name_words names) at ∙ words in
    record {
      names = names;
      entry = (call_of line number).entry;
      written = ap (λ (t : List ℕ). t ++ rest) (call_marked names (call_of line number) ∙ ap (λ (l : Line). line_text l (mark_of names op)) (line_back line number is.fits) ∙ ap (line_text line) marked) ∙ is.written;
      batch_fits = is.fits.batch;
      place_fits = is.fits.place;
      fits = (call_fits line number is.fits).entry;
      named = subst (λ (n : ℕ). n ≤ length names) (sym at) low;
      spelled = spelled;
    }

line_of_call : {text : List ℕ} {line : Line} {mark rest : List ℕ} → IsLineThen text line mark rest → IsCallLine text line.batch line.place rest
line_of_call {mark = mark} is = elim (mark_parts mark is.marked) [
  | inl none ↦ with_number is [] 0 tt (omega arith) (sym none)
  | inr named ↦ with_number is (named.0 ∷ []) 1 (named.2, tt) (omega arith) (sym named.1)
]

-- the line of a call, as the reader sees it
pub call_then : {text : List ℕ} {batch place : ℕ} {rest : List ℕ} (is : IsCallLine text batch place rest)
    → IsLineThen text (line_of (record { batch = batch; place = place; entry = is.entry })) (mark_of is.names is.entry.op) rest
call_then {text = text} {batch = batch} {place = place} {rest = rest} is =
    line_at is.names (record { batch = batch; place = place; entry = is.entry }) text rest (record { batch = is.batch_fits; place = is.place_fits; entry = is.fits })
    (number_marked is.names (number_of is.entry.op) is.spelled is.named) is.written

pub row_then : {text rest : List ℕ} (is : IsRowLine text rest) → IsRowThen text is.row rest
row_then is = record { written = is.written; fits = is.fits }

-- no line is that of a call and that of a row
pub two_kinds : {text : List ℕ} {line : Line} {mark rest rest' : List ℕ} {row : Row} → IsLineThen text line mark rest → IsRowThen text row rest' → ⊥
two_kinds {line = line} {mark = mark} {rest = rest} {rest' = rest'} {row = row} is is' =
    let wrong : codes "batch " ++ (decimal line.batch ++ place_from line mark rest) ≡ codes "leaf " ++ (decimal row.leaf ++ worker_from row rest') =
    sym (line_whole line mark rest) ∙ is.written ∙ sym is'.written ∙ row_whole row rest' in
    let first : 98 ≡ 108 = ap (λ (text : List ℕ). get_or text 0 0) wrong in
    absurd (omega (arith, first))

-- where a call's line may not stand behind the last one, nothing follows
pub out_of_turn : (last : Before) {text : List ℕ} {line : Line} {mark rest : List ℕ} → IsLineThen text line mark rest → may_follow last line.batch line.place ≡ false
    → (next : Before) (rest' : List ℕ) → Follows last text next rest' → ⊥
out_of_turn last is turn before.Head rest' follows = follows
out_of_turn last {text = text} {line = line} {mark = mark} {rest = rest} is turn (before.Call batch place) rest' follows =
    let call : Numbered = record { batch = batch; place = place; entry = follows.1.entry } in
    let same = one_line text line (line_of call) mark (mark_of follows.1.names follows.1.entry.op) rest rest' is (call_then follows.1) in
    let batches : line.batch ≡ batch = ap (λ (l : Line). l.batch) same.0 in
    let places : line.place ≡ place = ap (λ (l : Line). l.place) same.0 in
    let next : may_follow last line.batch line.place ≡ true = ap (λ b. may_follow last b line.place) batches ∙ ap (may_follow last batch) places ∙ follows.0 in
    cc (next, turn)
out_of_turn last is turn before.Row rest' follows = two_kinds is (row_then follows)

-- where there is no line of a call and none of a row, nothing follows
pub no_next : (last : Before) {text : List ℕ} → ((line : Line) (mark rest : List ℕ) → IsLineThen text line mark rest → ⊥) → ((row : Row) (rest : List ℕ) → IsRowThen text row rest → ⊥)
    → (next : Before) (rest : List ℕ) → Follows last text next rest → ⊥
no_next last no_call no_row before.Head rest follows = follows
no_next last no_call no_row (before.Call batch place) rest follows = no_call _ _ rest (call_then follows.1)
no_next last no_call no_row before.Row rest follows = no_row follows.row rest (row_then follows)

-- each line takes some of the text
pub shorter : (last : Before) (text : List ℕ) (next : Before) (rest : List ℕ) → Follows last text next rest → length rest < length text
shorter last text before.Head rest follows = absurd follows
shorter last text (before.Call batch place) rest follows =
    let is = follows.1 in
    omega (arith, ap length is.written, length-append (entry_line is.names batch place is.entry) rest, long_call is.names (record { batch = batch; place = place; entry = is.entry }))
shorter last text before.Row rest follows = row_shorter text follows.row rest (row_then follows)

pub next_call : (last : Before) {text : List ℕ} {line : Line} {mark rest : List ℕ} → IsLineThen text line mark rest → may_follow last line.batch line.place ≡ true
    → Follows last text (before.Call line.batch line.place) rest
next_call last is turn = (turn, line_of_call is)

pub next_row : {text : List ℕ} {row : Row} {rest : List ℕ} → IsRowThen text row rest → IsRowLine text rest
next_row {row = row} is = record { row = row; written = is.written; fits = is.fits }

-- a head line whose counts fit 64 bits
pub head_line_of : {text : List ℕ} {head : Head} {rest : List ℕ} → IsHeadThen 18446744073709551615 text head rest → HasHead text rest
head_line_of {head = head} is = record {
  workers = head.workers;
  leaves = head.leaves;
  calls = head.calls;
  batches = head.batches;
  written = is.written;
  some = is.some;
  few = is.few;
  leaves_fit = omega (arith, is.leaves);
  calls_fit = omega (arith, is.calls);
  batches_fit = omega (arith, is.batches);
}

pub no_head_line : {text : List ℕ} → ((head : Head) (rest : List ℕ) → IsHeadThen 18446744073709551615 text head rest → ⊥) → (rest : List ℕ) → HasHead text rest → ⊥
no_head_line none rest has =
    none (record { workers = has.workers; leaves = has.leaves; calls = has.calls; batches = has.batches }) rest (record {
      written = has.written;
      some = has.some;
      few = has.few;
      leaves = omega (arith, has.leaves_fit);
      calls = omega (arith, has.calls_fit);
      batches = omega (arith, has.batches_fit);
    })

pub behind_shorter : {most : ℕ} {text : List ℕ} {head : Head} {rest : List ℕ} → IsHeadThen most text head rest → length rest ≤ length text
behind_shorter {head = head} {rest = rest} is = omega (arith, ap length is.written, length-append (head_line head.workers head.leaves head.calls head.batches) rest)

-- what the test tells whether anything is left
pub empty_left : (left : List ℕ) (empty : Bool) → empty ≡ (length left == 0) → empty ≡ true → left ≡ []
empty_left [] empty is e = refl
empty_left (byte ∷ left) empty is e = absurd (omega (arith, eqb-true (length (byte ∷ left)) 0 (sym is ∙ e)))

pub some_left : (left : List ℕ) (empty : Bool) → empty ≡ (length left == 0) → empty ≡ false → left ≢ []
some_left left empty is e none =
    let zero : length left ≡ 0 = ap length none in
    let full : empty ≡ true = is ∙ ap (λ n. n == 0) zero in
    cc (full, e)
