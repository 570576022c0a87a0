-- A text stops at one line, and the text of a report at none behind its head line.
use Rattle.std.proofs.Common.{◌≡◌, ◌≢◌, ℕ, zero, suc, ◌+◌, ◌<◌, ◌≤◌, ◌^◌, ◌⊎◌, inl, inr, Bool, true, false, List, [], ◌∷◌, ◌++◌, length, refl, sym, ap, subst, ◌∙◌, append_assoc, length-append, arith}
use Rattle.std.specs.Prelude.{nat_lt, ◌==◌, ◌&&◌, ◌||◌}
use Rattle.std.specs.List.{flat_map, AllByRecursion}
use Rattle.std.proofs.lemmas.Bool.{ltb-true, ltb-false, eqb-false}
use Rattle.seq_objects.specs.Objects.{number_of}
use Rattle.seq_objects.proofs.Elements.{each_left, each_right}
use Rattle.job_names.specs.Names.{AreSpelled}
use Rattle.batch_history.specs.Book.{flat}
use Rattle.batch_history.specs.Text.{head_line, HaveNames, entry_line, batch_lines, book_lines, row_line}
use Rattle.batch_history.specs.declared.batch.Entry.{Entry}
use Rattle.batch_history.specs.declared.row.Row.{Row}
use Rattle.report_reader.specs.Raw.{FitsEntry, FitsRow}
use Rattle.report_reader.specs.Texts.{Named, HasNamedText}
use Rattle.report_reader.specs.Stops.{may_follow, Follows, AreLines, no_lines, one_more, HasLines, HasHead, StopsAt, no_head, no_line, other_counts}
use Rattle.report_reader.specs.Code.Objects.{mark_of}
use Rattle.report_reader.specs.declared.stop.Before.{Before}
use Rattle.report_reader.specs.declared.stop.Before.TheVariants as before
use Rattle.report_reader.specs.declared.call.Line.{Line}
use Rattle.report_reader.specs.declared.call.Numbered.{Numbered}
use Rattle.report_reader.proofs.CallLines.{line_of, one_line}
use Rattle.report_reader.proofs.Rows.{one_row}
use Rattle.report_reader.proofs.Heads.{heads_apart}
use Rattle.report_reader.proofs.Books.{few_calls, few_batches}
use Rattle.report_reader.proofs.Stopping.{call_then, row_then, two_kinds, shorter}

-- one line follows at most, whatever stands before it
next_one : (last last' next next' : Before) (left rest rest' : List ℕ) → Follows last left next rest → Follows last' left next' rest' → (next ≡ next') × (rest ≡ rest')
next_one last last' before.Head next' left rest rest' follows follows' = absurd follows
next_one last last' (before.Call batch place) before.Head left rest rest' follows follows' = absurd follows'
next_one last last' before.Row before.Head left rest rest' follows follows' = absurd follows'
next_one last last' (before.Call batch place) (before.Call batch' place') left rest rest' follows follows' =
    let call : Numbered = record { batch = batch; place = place; entry = follows.1.entry } in
    let call' : Numbered = record { batch = batch'; place = place'; entry = follows'.1.entry } in
    let same = one_line left (line_of call) (line_of call') (mark_of follows.1.names follows.1.entry.op) (mark_of follows'.1.names follows'.1.entry.op) rest rest' (call_then follows.1) (call_then follows'.1) in
    let batches : batch ≡ batch' = ap (λ (l : Line). l.batch) same.0 in
    let places : place ≡ place' = ap (λ (l : Line). l.place) same.0 in
    (cc (batches, places), same.2)
next_one last last' (before.Call batch place) before.Row left rest rest' follows follows' = absurd (two_kinds (call_then follows.1) (row_then follows'))
next_one last last' before.Row (before.Call batch place) left rest rest' follows follows' = absurd (two_kinds (call_then follows'.1) (row_then follows))
next_one last last' before.Row before.Row left rest rest' follows follows' = (refl, (one_row left follows.row follows'.row rest rest' (row_then follows) (row_then follows')).1)

-- as many lines have one last line, and leave one rest
same_lines : {text : List ℕ} (count : ℕ) (last last' : Before) (left left' : List ℕ) → AreLines text count last left → AreLines text count last' left' → (last ≡ last') × (left ≡ left')
same_lines zero last last' left left' no_lines no_lines = (refl, refl)
same_lines (suc count) next next' rest rest' (one_more {last = last} {left = left} are follows) (one_more {last = last'} {left = left'} are' follows') =
    let same = same_lines count last last' left left' are are' in
    next_one last' last' next next' left' rest rest' (subst (λ t. Follows last' t next rest) same.1 (subst (λ l. Follows l left next rest) same.0 follows)) follows'

-- where there are more lines, one follows
record Longer (text : List ℕ) (count : ℕ) : Type 0 where
  last : Before
  left : List ℕ
  next : Before
  rest : List ℕ
  are : AreLines text count last left
  follows : Follows last left next rest

nearer : (a b : ℕ) (less : Bool) → nat_lt a b ≡ less → a < suc b → (b ≡ a) ⊎ (a < b)
nearer a b true is below = inr (ltb-true a b is)
nearer a b false is below = inl (omega (arith, ltb-false a b is, below))

longer : (text : List ℕ) (count count' : ℕ) (last : Before) (left : List ℕ) → AreLines text count' last left → count < count' → Longer text count
longer text count zero last left no_lines less = absurd (omega (arith, less))
longer text count (suc count') next rest (one_more {last = last} {left = left} are follows) less = elim (nearer count count' (nat_lt count count') refl less) [
  | inl same ↦ record { last = last; left = left; next = next; rest = rest; are = subst (λ n. AreLines text n last left) same are; follows = follows }
  | inr more ↦ longer text count count' last left are more
]

-- no text begins with more lines than it has
no_more : (text : List ℕ) (count count' : ℕ) (rest left : List ℕ) (last : Before) → HasLines text count rest → AreLines text count' last left → count < count' → ⊥
no_more text count count' rest left last has are less =
    let more = longer text count count' last left are less in
    let same = same_lines count more.last has.last more.left rest more.are has.are in
    has.ends more.next more.rest (subst (λ t. Follows has.last t more.next more.rest) same.1 (subst (λ l. Follows l more.left more.next more.rest) same.0 more.follows))

one_count : (text : List ℕ) (count count' : ℕ) (rest rest' : List ℕ) → HasLines text count rest → HasLines text count' rest' → (count ≡ count') × (rest ≡ rest')
one_count text count count' rest rest' has has' =
    let same : count ≡ count' = by (nat_lt count count') (nat_lt count' count) refl refl in
    (same, (same_lines count' has.last has'.last rest rest' (subst (λ n. AreLines text n has.last rest) same has.are) has'.are).1)
  where
    by : (a b : Bool) → nat_lt count count' ≡ a → nat_lt count' count ≡ b → count ≡ count'
    by true b is is' = absurd (no_more text count count' rest rest' has'.last has has'.are (ltb-true count count' is))
    by false true is is' = absurd (no_more text count' count rest' rest has.last has' has.are (ltb-true count' count is'))
    by false false is is' = omega (arith, ltb-false count count' is, ltb-false count' count is')

-- a text has one head line at most, with one rest
one_head : (text rest rest' : List ℕ) → HasHead text rest → HasHead text rest' → rest ≡ rest'
one_head text rest rest' has has' =
    (heads_apart has.workers has'.workers has.leaves has'.leaves has.calls has'.calls has.batches has'.batches rest rest' has.few has'.few (has.written ∙ sym has'.written)).1

-- whether a text stops at one line, by what stands behind its head line
lines_one : (text behind behind' rest rest' : List ℕ) (count count' : ℕ) → HasHead text behind → HasHead text behind' → HasLines behind count rest → HasLines behind' count' rest' → (count ≡ count') × (rest ≡ rest')
lines_one text behind behind' rest rest' count count' head head' has has' =
    one_count behind' count count' rest rest' (subst (λ t. HasLines t count rest) (one_head text behind behind' head head') has) has'

pub one_stop : (text : List ℕ) (line line' : ℕ) → StopsAt text line → StopsAt text line' → line ≡ line'
one_stop text line line' (no_head none) (no_head none') = refl
one_stop text line line' (no_head none) (no_line {behind = behind} head has some) = absurd (none behind head)
one_stop text line line' (no_head none) (other_counts head has) = refl
one_stop text line line' (no_line {behind = behind} head has some) (no_head none) = absurd (none behind head)
one_stop text line line' (no_line {behind = b} {left = l} {count = c} head has some) (no_line {behind = b'} {left = l'} {count = c'} head' has' some') =
    ap (λ (n : ℕ). n + 2) (lines_one text b b' l l' c c' head head' has has').0
one_stop text line line' (no_line {behind = b} {left = l} {count = c} head has some) (other_counts {behind = b'} {count = c'} head' has') =
    absurd (some (lines_one text b b' l [] c c' head head' has has').1)
one_stop text line line' (other_counts head has) (no_head none) = refl
one_stop text line line' (other_counts {behind = b} {count = c} head has) (no_line {behind = b'} {left = l'} {count = c'} head' has' some') =
    absurd (some' (lines_one text b' b l' [] c' c head' head has' has).1)
one_stop text line line' (other_counts head has) (other_counts head' has') = refl

-- the lines of a report follow one another

-- the text behind a head line is lines that follow one another, and then the rest
record Followed (text rest : List ℕ) : Type 0 where
  count : ℕ
  last : Before
  are : AreLines text count last rest

one_again : (n : ℕ) → (n == n) ≡ true
one_again n = same (n == n) refl
  where
    same : (b : Bool) → (n == n) ≡ b → b ≡ true
    same true is = refl
    same false is = absurd (eqb-false n n is refl)

-- the next of a batch, and the first of the next batch
next_in : (batch place : ℕ) → may_follow (before.Call batch place) batch (place + 1) ≡ true
next_in batch place = rw (one_again batch, one_again (place + 1)) refl

next_first : (batch place : ℕ) → may_follow (before.Call batch place) (batch + 1) 0 ≡ true
next_first batch place = rw (one_again (batch + 1)) (by ((batch + 1 == batch) && (0 == place + 1)))
  where
    by : (b : Bool) → (b || true) ≡ true
    by true = refl
    by false = refl

rows_follow : (text : List ℕ) (rows : List Row) (count : ℕ) (last : Before) → AllByRecursion FitsRow rows → AreLines text count last (flat_map row_line rows) → Followed text []
rows_follow text [] count last fit are = record { count = count; last = last; are = are }
rows_follow text (row ∷ rows) count last fit are =
    rows_follow text rows (suc count) before.Row fit.1 (one_more are (record { row = row; written = refl; fits = fit.0 }))

module _ (names : List (List ℕ)) (spelled : AreSpelled names) (text : List ℕ) (rows : List Row) (rows_fit : AllByRecursion FitsRow rows) where
  module _ (batch : ℕ) (small : batch < 2 ^ 64) (more : List ℕ) (behind : (count place : ℕ) → AreLines text count (before.Call batch place) more → Followed text []) where
    -- the calls of a batch behind one of it
    batch_goes_on : (place : ℕ) (entries : List Entry) (count : ℕ) → place + 1 + length entries ≤ 2 ^ 64 → AllByRecursion FitsEntry entries → HaveNames names entries
        → AreLines text count (before.Call batch place) (batch_lines names batch (place + 1) entries ++ more) → Followed text []
    batch_goes_on place [] count few fit named are = behind count place are
    batch_goes_on place (entry ∷ entries) count few fit named are =
        let e = append_assoc (entry_line names batch (place + 1) entry) (batch_lines names batch (place + 1 + 1) entries) more in
        batch_goes_on (place + 1) entries (suc count) (omega (arith, few)) fit.1 named.1
        (one_more are (next_in batch place, record { names = names; entry = entry; written = sym e; batch_fits = small; place_fits = omega (arith, few); fits = fit.0; named = named.0; spelled = spelled }))

    batch_begins : (entries : List Entry) (count : ℕ) (last : Before) → entries ≢ [] → may_follow last batch 0 ≡ true → length entries ≤ 2 ^ 64 → AllByRecursion FitsEntry entries → HaveNames names entries
        → AreLines text count last (batch_lines names batch 0 entries ++ more) → Followed text []
    batch_begins [] count last some turn few fit named are = absurd (some refl)
    batch_begins (entry ∷ entries) count last some turn few fit named are =
        let e = append_assoc (entry_line names batch 0 entry) (batch_lines names batch (0 + 1) entries) more in
        batch_goes_on 0 entries (suc count) (omega (arith, few)) fit.1 named.1
        (one_more are (turn, record { names = names; entry = entry; written = sym e; batch_fits = small; place_fits = omega arith; fits = fit.0; named = named.0; spelled = spelled }))

  book_follows : (batch : ℕ) (book : List (List Entry)) (count : ℕ) (last : Before) → may_follow last batch 0 ≡ true → batch + length book ≤ 2 ^ 64 → length (flat book) ≤ 2 ^ 64
      → AllByRecursion (λ (entries : List Entry). entries ≢ []) book → AllByRecursion FitsEntry (flat book) → HaveNames names (flat book)
      → AreLines text count last (book_lines names batch book ++ flat_map row_line rows) → Followed text []
  book_follows batch [] count last turn small few some fit named are = rows_follow text rows count last rows_fit are
  book_follows batch (entries ∷ book) count last turn small few some fit named are =
      let long = length-append entries (flat book) in
      let more = book_lines names (batch + 1) book ++ flat_map row_line rows in
      batch_begins batch (omega (arith, small)) more
      (λ n place behind. book_follows (batch + 1) book n (before.Call batch place) (next_first batch place) (omega (arith, small)) (omega (arith, few, long)) some.1 (each_right FitsEntry entries (flat book) fit)
      (each_right (λ entry. number_of entry.op ≤ length names) entries (flat book) named) behind)
      entries count last some.0 turn (omega (arith, few, long)) (each_left FitsEntry entries (flat book) fit) (each_left (λ entry. number_of entry.op ≤ length names) entries (flat book) named)
      (subst (AreLines text count last) (append_assoc (batch_lines names batch 0 entries) (book_lines names (batch + 1) book) (flat_map row_line rows)) are)

-- all of the text of a report is a head line and lines that follow one another
pub report_follows : (text : List ℕ) (named : Named) → length text < 2 ^ 64 → HasNamedText text named → (behind rest : List ℕ) (count : ℕ) → HasHead text behind → HasLines behind count rest → rest ≡ []
report_follows text named small has behind rest count head lines =
    let report = named.report in
    let own = book_lines named.names 0 report.history ++ flat_map row_line report.rows in
    let front = head_line report.workers (length report.rows) (length (flat report.history)) (length report.history) in
    let whole : front ++ own ≡ text = sym (append_assoc front (book_lines named.names 0 report.history) (flat_map row_line report.rows)) ∙ has.written in
    let same : own ≡ behind =
    (heads_apart report.workers head.workers (length report.rows) head.leaves (length (flat report.history)) head.calls (length report.history) head.batches own behind has.fits.few head.few (whole ∙ sym head.written)).1 in
    let calls : length (flat report.history) ≤ length text =
    omega (arith, few_calls named.names 0 report.history, length-append (book_lines named.names 0 report.history) (flat_map row_line report.rows), length-append front own, ap length whole) in
    let batches : length report.history ≤ length text = omega (arith, few_batches report.history has.fits.batches, calls) in
    let all = book_follows named.names has.spelled own report.rows has.fits.rows 0 report.history 0 before.Head refl (omega (arith, batches, small)) (omega (arith, calls, small)) has.fits.batches has.fits.entries has.numbers no_lines in
    (one_count own count all.count rest [] (subst (λ t. HasLines t count rest) (sym same) lines) (record { last = all.last; are = all.are; ends = nothing_behind all.last })).1
  where
    nothing_behind : (last next : Before) (left : List ℕ) → Follows last [] next left → ⊥
    nothing_behind last before.Head left follows = follows
    nothing_behind last (before.Call batch place) left follows = absurd (omega (arith, shorter last [] (before.Call batch place) left follows))
    nothing_behind last before.Row left follows = absurd (omega (arith, shorter last [] before.Row left follows))
