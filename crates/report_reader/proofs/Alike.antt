-- Reports and names that have one text are one in words.
use Rattle.std.proofs.Common.{◌≡◌, ◌≢◌, ℕ, ◌+◌, ◌≤◌, true, List, [], ◌∷◌, ◌++◌, length, map, refl, sym, ap, ◌∙◌, append_assoc, codes, arith}
use Rattle.std.specs.List.{flat_map, AllByRecursion}
use Rattle.std.specs.Fmt.{decimal}
use Rattle.std.proofs.lemmas.Fmt.{decimal_injective}
use Rattle.std.proofs.lemmas.List.{append_cancel_left}
use Rattle.seq_objects.specs.Objects.{number_of}
use Rattle.seq_objects.specs.Words.{op_words}
use Rattle.seq_objects.specs.declared.reply.Reply.{Reply}
use Rattle.seq_objects.proofs.Elements.{each_so, each_left, each_right}
use Rattle.batch_history.specs.Book.{flat}
use Rattle.batch_history.specs.Text.{entry_line, batch_lines, book_lines, row_line}
use Rattle.batch_history.specs.declared.batch.Entry.{Entry}
use Rattle.batch_history.specs.declared.row.Row.{Row}
use Rattle.report_reader.specs.Raw.{FitsEntry}
use Rattle.report_reader.specs.Texts.{Named, HasNamedText, Worded, worded, AreAlike}
use Rattle.report_reader.specs.Code.Objects.{is_mark, mark_of}
use Rattle.report_reader.specs.Code.Operations.{spoken_words}
use Rattle.report_reader.specs.declared.operation.Spoken.{Spoken}
use Rattle.report_reader.specs.declared.call.Line.{Line}
use Rattle.report_reader.proofs.Digits.{next_decimal}
use Rattle.report_reader.proofs.Fields.{field_apart}
use Rattle.report_reader.proofs.Operations.{spoken_of, words_parts, argument_fits, one_op}
use Rattle.report_reader.proofs.Replies.{one_reply}
use Rattle.report_reader.proofs.CallLines.{place_from, worker_from, leaf_from, blank_from, op_from, reply_from, line_whole, line_of, call_marked}
use Rattle.report_reader.proofs.Calls.{number_marked}
use Rattle.report_reader.proofs.Heads.{heads_apart}
use Rattle.report_reader.proofs.Rows.{one_list}
use Rattle.report_reader.proofs.Books.{rows_no_line}

-- an entry fits, and its object has a mark
pub record CanTell (names : List (List ℕ)) (entry : Entry) : Type 0 where
  pub fits : FitsEntry entry
  pub marked : is_mark (mark_of names entry.op) ≡ true

-- what two lines of entries at the front of one text have in common
pub record AreOneLine (names names' : List (List ℕ)) (b b' : ℕ) (e e' : Entry) (rest rest' : List ℕ) : Type 0 where
  pub batch : decimal b ≡ decimal b'
  pub leaf : e.leaf ≡ e'.leaf
  pub worker : e.worker ≡ e'.worker
  pub spoken : spoken_of e.op ≡ spoken_of e'.op
  pub mark : mark_of names e.op ≡ mark_of names' e'.op
  pub reply : e.reply ≡ e'.reply
  pub behind : rest ≡ rest'

abbrev at : ℕ → ℕ → Entry → Line
at b p e = line_of (record { batch = b; place = p; entry = e })

told_whole : (names : List (List ℕ)) (b p : ℕ) (e : Entry) (rest : List ℕ) → entry_line names b p e ++ rest ≡ codes "batch " ++ (decimal b ++ place_from (at b p e) (mark_of names e.op) rest)
told_whole names b p e rest = ap (λ (t : List ℕ). t ++ rest) (call_marked names (record { batch = b; place = p; entry = e })) ∙ line_whole (at b p e) (mark_of names e.op) rest

pub entries_apart : (names names' : List (List ℕ)) (b b' p p' : ℕ) (e e' : Entry) (rest rest' : List ℕ) → CanTell names e → CanTell names' e' → entry_line names b p e ++ rest ≡ entry_line names' b' p' e' ++ rest'
    → AreOneLine names names' b b' e e' rest rest'
entries_apart names names' b b' p p' e e' rest rest' can can' is =
    let x = at b p e in
    let y = at b' p' e' in
    let m = mark_of names e.op in
    let n = mark_of names' e'.op in
    let batch = field_apart (codes "batch ") b b' (place_from x m rest) (place_from y n rest') refl refl (sym (told_whole names b p e rest) ∙ is ∙ told_whole names' b' p' e' rest') in
    let place = field_apart (codes " place ") p p' (worker_from x m rest) (worker_from y n rest') refl refl batch.1 in
    let worker = field_apart (codes " worker ") e.worker e'.worker (leaf_from x m rest) (leaf_from y n rest') refl refl place.1 in
    let leaf = field_apart (codes " leaf ") e.leaf e'.leaf (blank_from x m rest) (blank_from y n rest') refl refl worker.1 in
    let ops = append_cancel_left (codes " ") (op_from x m rest) (op_from y n rest') leaf.1 in
    let op = one_op (op_from y n rest') x.spoken y.spoken m n (reply_from x rest) (reply_from y rest')
    (record { written = ops; marked = can.marked; argument = argument_fits e.op can.fits.argument }) (record { written = refl; marked = can'.marked; argument = argument_fits e'.op can'.fits.argument }) in
    let reply = one_reply (reply_from y rest') e.reply e'.reply rest rest' (record { written = op.2; fits = can.fits.reply }) (record { written = refl; fits = can'.fits.reply }) in
    record {
      batch = batch.0;
      leaf = decimal_injective e.leaf e'.leaf (omega (arith, can.fits.leaf)) (omega (arith, can'.fits.leaf)) leaf.0;
      worker = decimal_injective e.worker e'.worker (omega (arith, can.fits.worker)) (omega (arith, can'.fits.worker)) worker.0;
      spoken = op.0;
      mark = op.1;
      reply = reply.0;
      behind = reply.1;
    }

same_worded : (l l' w w' : ℕ) (o o' : List ℕ) (r r' : Reply) → l ≡ l' → w ≡ w' → o ≡ o' → r ≡ r'
    → ◌≡◌ {A = Worded} (record { leaf = l; worker = w; words = o; reply = r }) (record { leaf = l'; worker = w'; words = o'; reply = r' })
same_worded l l' w w' o o' r r' el ew eo er = cc

one_wording : (names names' : List (List ℕ)) (b b' : ℕ) (e e' : Entry) (rest rest' : List ℕ) → AreOneLine names names' b b' e e' rest rest' → worded names e ≡ worded names' e'
one_wording names names' b b' e e' rest rest' one =
    same_worded e.leaf e'.leaf e.worker e'.worker (op_words names e.op) (op_words names' e'.op) e.reply e'.reply one.leaf one.worker
    (words_parts names e.op ∙ ap (λ (s : Spoken). spoken_words s (mark_of names e.op)) one.spoken ∙ ap (spoken_words (spoken_of e'.op)) one.mark ∙ sym (words_parts names' e'.op)) one.reply

-- the text does not begin with the line of a call of this batch
abbrev BeginsElsewhere : List (List ℕ) → ℕ → List ℕ → Type 0
BeginsElsewhere names b text = (place : ℕ) (entry : Entry) (rest : List ℕ) → CanTell names entry → entry_line names b place entry ++ rest ≡ text → ⊥

abbrev Tells : List (List ℕ) → List Entry → Type 0
Tells names entries = AllByRecursion (CanTell names) entries

same_words : (x x' : Worded) (xs xs' : List Worded) → x ≡ x' → xs ≡ xs' → ◌≡◌ {A = List Worded} (x ∷ xs) (x' ∷ xs')
same_words x x' xs xs' ex es = cc

-- the lines of a batch are told apart from what follows in one way
batch_apart : (names names' : List (List ℕ)) (b p : ℕ) (es es' : List Entry) (rest rest' : List ℕ) → Tells names es → Tells names' es' → BeginsElsewhere names' b rest → BeginsElsewhere names b rest'
    → batch_lines names b p es ++ rest ≡ batch_lines names' b p es' ++ rest' → (map (worded names) es ≡ map (worded names') es') × (rest ≡ rest')
batch_apart names names' b p [] [] rest rest' can can' ends ends' is = (refl, is)
batch_apart names names' b p [] (e ∷ es') rest rest' can can' ends ends' is =
    absurd (ends p e (batch_lines names' b (p + 1) es' ++ rest') can'.0 (sym (append_assoc (entry_line names' b p e) (batch_lines names' b (p + 1) es') rest') ∙ sym is))
batch_apart names names' b p (e ∷ es) [] rest rest' can can' ends ends' is =
    absurd (ends' p e (batch_lines names b (p + 1) es ++ rest) can.0 (sym (append_assoc (entry_line names b p e) (batch_lines names b (p + 1) es) rest) ∙ is))
batch_apart names names' b p (e ∷ es) (e' ∷ es') rest rest' can can' ends ends' is =
    let first = entries_apart names names' b b p p e e' (batch_lines names b (p + 1) es ++ rest) (batch_lines names' b (p + 1) es' ++ rest') can.0 can'.0
    (sym (append_assoc (entry_line names b p e) (batch_lines names b (p + 1) es) rest) ∙ is ∙ append_assoc (entry_line names' b p e') (batch_lines names' b (p + 1) es') rest') in
    let more = batch_apart names names' b (p + 1) es es' rest rest' can.1 can'.1 ends ends' first.behind in
    (same_words (worded names e) (worded names' e') (map (worded names) es) (map (worded names') es') (one_wording names names' b b e e' (batch_lines names b (p + 1) es ++ rest) (batch_lines names' b (p + 1) es' ++ rest') first) more.0, more.1)

rows_elsewhere : (names : List (List ℕ)) (rows : List Row) (b place : ℕ) (entry : Entry) (rest : List ℕ) → entry_line names b place entry ++ rest ≡ flat_map row_line rows → ⊥
rows_elsewhere names rows b place entry rest is =
    rows_no_line rows (at b place entry) (mark_of names entry.op) rest (ap (λ (t : List ℕ). t ++ rest) (sym (call_marked names (record { batch = b; place = place; entry = entry }))) ∙ is)

-- behind a batch stands no line of its calls
next_elsewhere : (names names' : List (List ℕ)) (b : ℕ) (book : List (List Entry)) (rows : List Row) → AllByRecursion (λ (entries : List Entry). entries ≢ []) book → Tells names (flat book)
    → BeginsElsewhere names' b (book_lines names (b + 1) book ++ flat_map row_line rows)
next_elsewhere names names' b [] rows some can place entry rest own is = rows_elsewhere names' rows b place entry rest is
next_elsewhere names names' b ([] ∷ book) rows some can place entry rest own is = some.0 refl
next_elsewhere names names' b ((e ∷ es) ∷ book) rows some can place entry rest own is =
    let behind : List ℕ = batch_lines names (b + 1) (0 + 1) es ++ (book_lines names (b + 1 + 1) book ++ flat_map row_line rows) in
    let whole : (entry_line names (b + 1) 0 e ++ batch_lines names (b + 1) (0 + 1) es ++ book_lines names (b + 1 + 1) book) ++ flat_map row_line rows ≡ entry_line names (b + 1) 0 e ++ behind = simp append_assoc in
    next_decimal b (entries_apart names' names b (b + 1) place 0 entry e rest behind own can.0 (is ∙ whole)).batch

same_book : (x x' : List Worded) (xs xs' : List (List Worded)) → x ≡ x' → xs ≡ xs' → ◌≡◌ {A = List (List Worded)} (x ∷ xs) (x' ∷ xs')
same_book x x' xs xs' ex es = cc

-- the lines of a book, and those of rows behind them, are those of one book in words, and of one text of rows
books_apart : (names names' : List (List ℕ)) (b : ℕ) (book book' : List (List Entry)) (rows rows' : List Row)
    → AllByRecursion (λ (entries : List Entry). entries ≢ []) book → AllByRecursion (λ (entries : List Entry). entries ≢ []) book' → Tells names (flat book) → Tells names' (flat book')
    → book_lines names b book ++ flat_map row_line rows ≡ book_lines names' b book' ++ flat_map row_line rows'
    → (map (λ batch. map (worded names) batch) book ≡ map (λ batch. map (worded names') batch) book') × (flat_map row_line rows ≡ flat_map row_line rows')
books_apart names names' b [] [] rows rows' some some' can can' is = (refl, is)
books_apart names names' b [] ([] ∷ book') rows rows' some some' can can' is = absurd (some'.0 refl)
books_apart names names' b [] ((e ∷ es) ∷ book') rows rows' some some' can can' is =
    let whole : (entry_line names' b 0 e ++ batch_lines names' b (0 + 1) es ++ book_lines names' (b + 1) book') ++ flat_map row_line rows' ≡ entry_line names' b 0 e ++ (batch_lines names' b (0 + 1) es ++ (book_lines names' (b + 1) book' ++ flat_map row_line rows')) = simp append_assoc in
    absurd (rows_elsewhere names' rows b 0 e (batch_lines names' b (0 + 1) es ++ (book_lines names' (b + 1) book' ++ flat_map row_line rows')) (sym whole ∙ sym is))
books_apart names names' b ([] ∷ book) [] rows rows' some some' can can' is = absurd (some.0 refl)
books_apart names names' b ((e ∷ es) ∷ book) [] rows rows' some some' can can' is =
    let whole : (entry_line names b 0 e ++ batch_lines names b (0 + 1) es ++ book_lines names (b + 1) book) ++ flat_map row_line rows ≡ entry_line names b 0 e ++ (batch_lines names b (0 + 1) es ++ (book_lines names (b + 1) book ++ flat_map row_line rows)) = simp append_assoc in
    absurd (rows_elsewhere names rows' b 0 e (batch_lines names b (0 + 1) es ++ (book_lines names (b + 1) book ++ flat_map row_line rows)) (sym whole ∙ is))
books_apart names names' b (es ∷ book) (es' ∷ book') rows rows' some some' can can' is =
    let first = batch_apart names names' b 0 es es' (book_lines names (b + 1) book ++ flat_map row_line rows) (book_lines names' (b + 1) book' ++ flat_map row_line rows')
    (each_left (CanTell names) es (flat book) can) (each_left (CanTell names') es' (flat book') can')
    (next_elsewhere names names' b book rows some.1 (each_right (CanTell names) es (flat book) can)) (next_elsewhere names' names b book' rows' some'.1 (each_right (CanTell names') es' (flat book') can'))
    (sym (append_assoc (batch_lines names b 0 es) (book_lines names (b + 1) book) (flat_map row_line rows)) ∙ is ∙ append_assoc (batch_lines names' b 0 es') (book_lines names' (b + 1) book') (flat_map row_line rows')) in
    let more = books_apart names names' (b + 1) book book' rows rows' some.1 some'.1 (each_right (CanTell names) es (flat book) can) (each_right (CanTell names') es' (flat book') can') first.1 in
    (same_book (map (worded names) es) (map (worded names') es') (map (λ batch. map (worded names) batch) book) (map (λ batch. map (worded names') batch) book') first.0 more.0, more.1)

tell_both : (names : List (List ℕ)) (entries : List Entry) → AllByRecursion FitsEntry entries → AllByRecursion (λ (entry : Entry). is_mark (mark_of names entry.op) ≡ true) entries → Tells names entries
tell_both names [] fits marked = tt
tell_both names (entry ∷ entries) fits marked = (record { fits = fits.0; marked = marked.0 }, tell_both names entries fits.1 marked.1)

can_tell : (text : List ℕ) (named : Named) → HasNamedText text named → Tells named.names (flat named.report.history)
can_tell text named has = tell_both named.names (flat named.report.history) has.fits.entries
    (each_so (λ (entry : Entry). number_of entry.op ≤ length named.names) (λ (entry : Entry). is_mark (mark_of named.names entry.op) ≡ true)
    (λ entry low. number_marked named.names (number_of entry.op) has.spelled low) (flat named.report.history) has.numbers)

pub alike : (text : List ℕ) (a b : Named) → HasNamedText text a → HasNamedText text b → AreAlike a b
alike text a b has has' =
    let lines = book_lines a.names 0 a.report.history ++ flat_map row_line a.report.rows in
    let lines' = book_lines b.names 0 b.report.history ++ flat_map row_line b.report.rows in
    let heads = heads_apart a.report.workers b.report.workers (length a.report.rows) (length b.report.rows) (length (flat a.report.history)) (length (flat b.report.history)) (length a.report.history) (length b.report.history) lines lines'
    has.fits.few has'.fits.few (sym (append_assoc _ (book_lines a.names 0 a.report.history) (flat_map row_line a.report.rows)) ∙ has.written ∙ sym has'.written ∙ append_assoc _ (book_lines b.names 0 b.report.history) (flat_map row_line b.report.rows)) in
    let books = books_apart a.names b.names 0 a.report.history b.report.history a.report.rows b.report.rows has.fits.batches has'.fits.batches (can_tell text a has) (can_tell text b has') heads.1 in
    record {
      workers = heads.0;
      books = books.0;
      rows = one_list (flat_map row_line b.report.rows) a.report.rows b.report.rows (record { written = books.1; fits = has.fits.rows }) (record { written = refl; fits = has'.fits.rows });
    }
