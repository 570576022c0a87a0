-- Lists of lines of calls, and the lines of a book.
use Rattle.std.proofs.Common.{◌≡◌, ◌≢◌, ℕ, ◌+◌, ◌<◌, ◌≤◌, ◌^◌, true, List, [], ◌∷◌, ◌++◌, length, map, get_or, refl, sym, ap, ◌∙◌, append_assoc, append-nil, length-append, codes, arith}
use Rattle.std.specs.List.{flat_map, AllByRecursion}
use Rattle.std.specs.Fmt.{decimal}
use Rattle.std.proofs.lemmas.Grind.{flat_map-append}
use Rattle.batch_history.specs.Book.{flat}
use Rattle.batch_history.specs.Text.{entry_line, batch_lines, book_lines, row_line}
use Rattle.batch_history.specs.declared.batch.Entry.{Entry}
use Rattle.batch_history.specs.declared.row.Row.{Row}
use Rattle.report_reader.specs.Raw.{FitsEntry}
use Rattle.report_reader.specs.Code.Objects.{is_mark, mark_of, names_in}
use Rattle.seq_objects.specs.Verbs.{kind_of_verb}
use Rattle.report_reader.specs.Code.Lines.{line_text, IsLineThen, FitsCall, call_line, IsCallThen}
use Rattle.report_reader.specs.Code.Groups.{numbered_batch, numbered_book}
use Rattle.seq_objects.specs.declared.kind.Kind.{Kind}
use Rattle.report_reader.specs.declared.call.Line.{Line}
use Rattle.report_reader.specs.declared.call.Numbered.{Numbered}
use Rattle.report_reader.specs.declared.table.Table.{Table}
use Rattle.report_reader.proofs.Fields.{some_length}
use Rattle.seq_objects.specs.Parts.{kind_of}
use Rattle.report_reader.proofs.CallLines.{place_from, line_whole, line_of, call_marked, line_at, one_line}
use Rattle.report_reader.proofs.Rows.{worker_from, row_whole}
use Rattle.seq_objects.proofs.Elements.{each_append, each_left, each_right}

-- the line of a call is not empty
some_line : (line : Line) (mark rest : List ℕ) → line_text line mark ++ rest ≡ [] → ⊥
some_line line mark rest none =
    let begins : codes "batch " ++ (decimal line.batch ++ place_from line mark rest) ≡ [] = sym (line_whole line mark rest) ∙ none in
    cc (begins)

some_call : (names : List (List ℕ)) (call : Numbered) (rest : List ℕ) → call_line names call ++ rest ≡ [] → ⊥
some_call names call rest none = some_line (line_of call) (mark_of names call.entry.op) rest (ap (λ (t : List ℕ). t ++ rest) (sym (call_marked names call)) ∙ none)

pub long_call : (names : List (List ℕ)) (call : Numbered) → 0 < length (call_line names call)
long_call names call = some_length (call_line names call) (λ none. some_call names call [] (append-nil (call_line names call) ∙ none))

-- a call as its line tells it: the line without its object, and the mark
abbrev pub told : List (List ℕ) → Numbered → Line × List ℕ
told names call = (line_of call, mark_of names call.entry.op)

-- The text is the lines of these calls with known marks, and then the rest, which does not begin with the line of one.
pub record AreLinesThen (Known : Kind → List ℕ → Type 0) (names : List (List ℕ)) (text : List ℕ) (calls : List Numbered) (rest : List ℕ) : Type 0 where
  pub written : flat_map (call_line names) calls ++ rest ≡ text
  pub fits : AllByRecursion FitsCall calls
  pub marked : AllByRecursion (λ (call : Numbered). is_mark (mark_of names call.entry.op) ≡ true) calls
  pub known : AllByRecursion (λ (call : Numbered). Known (kind_of call.entry.op) (mark_of names call.entry.op)) calls
  pub ends : (line : Line) (mark more : List ℕ) → IsLineThen rest line mark more → Known (kind_of_verb line.spoken.verb) mark → ⊥

same_told : (l l' : Line) (m m' : List ℕ) (xs ys : List (Line × List ℕ)) → l ≡ l' → m ≡ m' → xs ≡ ys → ◌≡◌ {A = List (Line × List ℕ)} ((l, m) ∷ xs) ((l', m') ∷ ys)
same_told l l' m m' xs ys el em es = cc

-- the calls that a text begins with, as far as there are any, are told in one way, with one rest
pub calls_way : (Known : Kind → List ℕ → Type 0) (names names' : List (List ℕ)) (text : List ℕ) (calls calls' : List Numbered) (rest rest' : List ℕ) → AreLinesThen Known names text calls rest → AreLinesThen Known names' text calls' rest'
    → (map (told names) calls ≡ map (told names') calls') × (rest ≡ rest')
calls_way Known names names' text [] [] rest rest' a b = (refl, a.written ∙ sym b.written)
calls_way Known names names' text [] (call ∷ calls') rest rest' a b =
    absurd (a.ends (line_of call) (mark_of names' call.entry.op) (flat_map (call_line names') calls' ++ rest')
    (line_at names' call rest (flat_map (call_line names') calls' ++ rest') b.fits.0 b.marked.0 (sym (append_assoc (call_line names' call) (flat_map (call_line names') calls') rest') ∙ b.written ∙ sym a.written)) b.known.0)
calls_way Known names names' text (call ∷ calls) [] rest rest' a b =
    absurd (b.ends (line_of call) (mark_of names call.entry.op) (flat_map (call_line names) calls ++ rest)
    (line_at names call rest' (flat_map (call_line names) calls ++ rest) a.fits.0 a.marked.0 (sym (append_assoc (call_line names call) (flat_map (call_line names) calls) rest) ∙ a.written ∙ sym b.written)) a.known.0)
calls_way Known names names' text (call ∷ calls) (call' ∷ calls') rest rest' a b =
    let first = one_line text (line_of call) (line_of call') (mark_of names call.entry.op) (mark_of names' call'.entry.op) (flat_map (call_line names) calls ++ rest) (flat_map (call_line names') calls' ++ rest')
    (line_at names call text (flat_map (call_line names) calls ++ rest) a.fits.0 a.marked.0 (sym (append_assoc (call_line names call) (flat_map (call_line names) calls) rest) ∙ a.written))
    (line_at names' call' text (flat_map (call_line names') calls' ++ rest') b.fits.0 b.marked.0 (sym (append_assoc (call_line names' call') (flat_map (call_line names') calls') rest') ∙ b.written)) in
    let more = calls_way Known names names' (flat_map (call_line names') calls' ++ rest') calls calls' rest rest'
    (record { written = first.2; fits = a.fits.1; marked = a.marked.1; known = a.known.1; ends = a.ends }) (record { written = refl; fits = b.fits.1; marked = b.marked.1; known = b.known.1; ends = b.ends }) in
    (same_told (line_of call) (line_of call') (mark_of names call.entry.op) (mark_of names' call'.entry.op) (map (told names) calls) (map (told names') calls') first.0 first.1 more.0, more.1)

-- the lines of rows do not begin with the line of a call
pub rows_no_line : (rows : List Row) (line : Line) (mark rest : List ℕ) → line_text line mark ++ rest ≡ flat_map row_line rows → ⊥
rows_no_line [] line mark rest is = some_line line mark rest is
rows_no_line (row ∷ rows) line mark rest is =
    let wrong : codes "batch " ++ (decimal line.batch ++ place_from line mark rest) ≡ codes "leaf " ++ (decimal row.leaf ++ worker_from row (flat_map row_line rows)) =
    sym (line_whole line mark rest) ∙ is ∙ row_whole row (flat_map row_line rows) in
    let first : 98 ≡ 108 = ap (λ (text : List ℕ). get_or text 0 0) wrong in
    absurd (omega (arith, first))

-- the lines of a book are those of its calls
batch_numbered : (names : List (List ℕ)) (b p : ℕ) (es : List Entry) → batch_lines names b p es ≡ flat_map (call_line names) (numbered_batch b p es)
batch_numbered names b p [] = refl
batch_numbered names b p (e ∷ es) = ap (λ t. entry_line names b p e ++ t) (batch_numbered names b (p + 1) es)

pub book_numbered : (names : List (List ℕ)) (b : ℕ) (book : List (List Entry)) → book_lines names b book ≡ flat_map (call_line names) (numbered_book b book)
book_numbered names b [] = refl
book_numbered names b (es ∷ book) =
    ap (λ t. t ++ book_lines names (b + 1) book) (batch_numbered names b 0 es) ∙ ap (λ t. flat_map (call_line names) (numbered_batch b 0 es) ++ t) (book_numbered names (b + 1) book)
    ∙ sym (flat_map-append (call_line names) (numbered_batch b 0 es) (numbered_book (b + 1) book))

pub few_batch_calls : (names : List (List ℕ)) (b p : ℕ) (es : List Entry) → length es ≤ length (batch_lines names b p es)
few_batch_calls names b p [] = omega arith
few_batch_calls names b p (e ∷ es) =
    omega (arith, length-append (entry_line names b p e) (batch_lines names b (p + 1) es), few_batch_calls names b (p + 1) es, long_call names (record { batch = b; place = p; entry = e }))

pub few_calls : (names : List (List ℕ)) (b : ℕ) (book : List (List Entry)) → length (flat book) ≤ length (book_lines names b book)
few_calls names b [] = omega arith
few_calls names b (es ∷ book) = omega (arith, length-append (batch_lines names b 0 es) (book_lines names (b + 1) book), length-append es (flat book), few_batch_calls names b 0 es, few_calls names (b + 1) book)

-- how many calls and batches there are
batch_count : (b p : ℕ) (es : List Entry) → length (numbered_batch b p es) ≡ length es
batch_count b p [] = refl
batch_count b p (e ∷ es) = omega (arith, batch_count b (p + 1) es)

pub call_count : (b : ℕ) (book : List (List Entry)) → length (numbered_book b book) ≡ length (flat book)
call_count b [] = refl
call_count b (es ∷ book) =
    omega (arith, length-append (numbered_batch b 0 es) (numbered_book (b + 1) book), length-append es (flat book), batch_count b 0 es, call_count (b + 1) book)

pub few_batches : (book : List (List Entry)) → AllByRecursion (λ (entries : List Entry). entries ≢ []) book → length book ≤ length (flat book)
few_batches [] some = omega arith
few_batches ([] ∷ book) some = absurd (some.0 refl)
few_batches ((e ∷ es) ∷ book) some = omega (arith, length-append (e ∷ es) (flat book), few_batches book some.1)

-- the calls of a book fit, where its entries fit and it has not too many
batch_fits : (b p : ℕ) (es : List Entry) → b < 2 ^ 64 → p + length es ≤ 2 ^ 64 → AllByRecursion FitsEntry es → AllByRecursion FitsCall (numbered_batch b p es)
batch_fits b p [] small few fits = tt
batch_fits b p (e ∷ es) small few fits = (record { batch = small; place = omega (arith, few); entry = fits.0 }, batch_fits b (p + 1) es small (omega (arith, few)) fits.1)

pub book_fits : (b : ℕ) (book : List (List Entry)) → b + length book ≤ 2 ^ 64 → length (flat book) ≤ 2 ^ 64 → AllByRecursion FitsEntry (flat book) → AllByRecursion FitsCall (numbered_book b book)
book_fits b [] small few fits = tt
book_fits b (es ∷ book) small few fits =
    let whole = length-append es (flat book) in
    each_append FitsCall (numbered_batch b 0 es) (numbered_book (b + 1) book)
    (batch_fits b 0 es (omega (arith, small)) (omega (arith, few, whole)) (each_left FitsEntry es (flat book) fits))
    (book_fits (b + 1) book (omega (arith, small)) (omega (arith, few, whole)) (each_right FitsEntry es (flat book) fits))

-- the entries of a book fit, where its calls do
batch_entries : (b p : ℕ) (es : List Entry) → AllByRecursion FitsCall (numbered_batch b p es) → AllByRecursion FitsEntry es
batch_entries b p [] fits = tt
batch_entries b p (e ∷ es) fits = (fits.0.entry, batch_entries b (p + 1) es fits.1)

pub book_entries : (b : ℕ) (book : List (List Entry)) → AllByRecursion FitsCall (numbered_book b book) → AllByRecursion FitsEntry (flat book)
book_entries b [] fits = tt
book_entries b (es ∷ book) fits =
    each_append FitsEntry es (flat book) (batch_entries b 0 es (each_left FitsCall (numbered_batch b 0 es) (numbered_book (b + 1) book) fits))
    (book_entries (b + 1) book (each_right FitsCall (numbered_batch b 0 es) (numbered_book (b + 1) book) fits))

-- the entries of a book, by what holds of each of its calls
batch_all : (P : Entry → Type 0) (b p : ℕ) (es : List Entry) → AllByRecursion P es → AllByRecursion (λ (call : Numbered). P call.entry) (numbered_batch b p es)
batch_all P b p [] all = tt
batch_all P b p (e ∷ es) all = (all.0, batch_all P b (p + 1) es all.1)

pub book_all : (P : Entry → Type 0) (b : ℕ) (book : List (List Entry)) → AllByRecursion P (flat book) → AllByRecursion (λ (call : Numbered). P call.entry) (numbered_book b book)
book_all P b [] all = tt
book_all P b (es ∷ book) all =
    each_append (λ (call : Numbered). P call.entry) (numbered_batch b 0 es) (numbered_book (b + 1) book) (batch_all P b 0 es (each_left P es (flat book) all)) (book_all P (b + 1) book (each_right P es (flat book) all))

batch_every : (P : Entry → Type 0) (b p : ℕ) (es : List Entry) → AllByRecursion (λ (call : Numbered). P call.entry) (numbered_batch b p es) → AllByRecursion P es
batch_every P b p [] all = tt
batch_every P b p (e ∷ es) all = (all.0, batch_every P b (p + 1) es all.1)

pub book_every : (P : Entry → Type 0) (b : ℕ) (book : List (List Entry)) → AllByRecursion (λ (call : Numbered). P call.entry) (numbered_book b book) → AllByRecursion P (flat book)
book_every P b [] all = tt
book_every P b (es ∷ book) all =
    each_append P es (flat book) (batch_every P b 0 es (each_left (λ (call : Numbered). P call.entry) (numbered_batch b 0 es) (numbered_book (b + 1) book) all))
    (book_every P (b + 1) book (each_right (λ (call : Numbered). P call.entry) (numbered_batch b 0 es) (numbered_book (b + 1) book) all))

-- each call that is read takes some of the text
pub shorter : (table : Table) (text : List ℕ) (call : Numbered) (rest : List ℕ) → IsCallThen table text call rest → length rest < length text
shorter table text call rest is =
    let whole : length (call_line (names_in table) call ++ rest) ≡ length text = ap length is.written in
    omega (arith, length-append (call_line (names_in table) call) rest, whole, long_call (names_in table) call)
