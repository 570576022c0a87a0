-- The batches of numbered calls: calls are those of one book.
use Rattle.std.proofs.Common.{◌≡◌, ◌≢◌, ℕ, suc, ◌+◌, ◌<◌, List, [], ◌∷◌, ◌++◌, length, refl, sym, ap, ◌∙◌, add-zero, append_assoc, append-nil, length-append, arith}
use Rattle.std.specs.List.{AllByRecursion}
use Rattle.report_reader.specs.Code.Groups.{numbered_batch, numbered_book, AreCallsOf, IsNotNext, BeginWith}
use Rattle.batch_history.specs.declared.batch.Entry.{Entry}
use Rattle.report_reader.specs.declared.call.Numbered.{Numbered}

-- a batch is told apart from what follows in one way
pub one_batch : (b p n n' : ℕ) (es es' : List Entry) (rest rest' : List Numbered) → p + length es ≡ n → p + length es' ≡ n' → numbered_batch b p es ++ rest ≡ numbered_batch b p es' ++ rest' → IsNotNext b n rest → IsNotNext b n' rest' → (es ≡ es') × (rest ≡ rest')
one_batch b p n n' [] [] rest rest' at at' is ends ends' = (refl, is)
one_batch b p n n' [] (e ∷ es') [] rest' at at' is ends ends' = cc
one_batch b p n n' [] (e ∷ es') (call ∷ rest) rest' at at' is ends ends' =
    let same : call ≡ record { batch = b; place = p; entry = e } = cc in
    absurd (ends (ap (λ (c : Numbered). c.batch) same) (ap (λ (c : Numbered). c.place) same ∙ omega (arith, at)))
one_batch b p n n' (e ∷ es) [] rest [] at at' is ends ends' = cc
one_batch b p n n' (e ∷ es) [] rest (call ∷ rest') at at' is ends ends' =
    let same : call ≡ record { batch = b; place = p; entry = e } = cc in
    absurd (ends' (ap (λ (c : Numbered). c.batch) same) (ap (λ (c : Numbered). c.place) same ∙ omega (arith, at')))
one_batch b p n n' (e ∷ es) (e' ∷ es') rest rest' at at' is ends ends' =
    let head : ◌≡◌ {A = Numbered} (record { batch = b; place = p; entry = e }) (record { batch = b; place = p; entry = e' }) = cc in
    let tail : numbered_batch b (p + 1) es ++ rest ≡ numbered_batch b (p + 1) es' ++ rest' = cc in
    let more = one_batch b (p + 1) n n' es es' rest rest' (omega (arith, at)) (omega (arith, at')) tail ends ends' in
    let same : e ≡ e' = ap (λ (c : Numbered). c.entry) head in
    (cc (same, more.0), more.1)

-- behind a batch stands none of its calls
pub next_is_other : (b n : ℕ) (book : List (List Entry)) → AllByRecursion (λ (entries : List Entry). entries ≢ []) book → IsNotNext b n (numbered_book (b + 1) book)
next_is_other b n [] some = tt
next_is_other b n ([] ∷ book) some = absurd (some.0 refl)
next_is_other b n ((e ∷ es) ∷ book) some = λ same at. omega (arith, same)

-- a book whose calls begin with those of a batch begins with this batch
pub first_of : (b : ℕ) (calls more : List Numbered) (batch es : List Entry) (book : List (List Entry)) → BeginWith calls b batch more → AreCallsOf calls b (es ∷ book) → (es ≡ batch) × AreCallsOf more (b + 1) book
first_of b calls more batch es book begins are =
    let same = one_batch b 0 (length es) (length batch) es batch (numbered_book (b + 1) book) more (omega arith) (omega arith) (are.numbered ∙ sym begins.parts) (next_is_other b (length es) book are.some.1) begins.ends in
    (same.0, record { numbered = same.1; some = are.some.1 })

pub left_more : (b : ℕ) (calls more : List Numbered) (batch : List Entry) (left : List (List Entry)) → (calls ≡ [] → ⊥) → BeginWith calls b batch more → AreCallsOf calls b left → (others : List (List Entry)) × AreCallsOf more (b + 1) others
left_more b calls more batch [] some begins are = absurd (some (sym are.numbered))
left_more b calls more batch (es ∷ book) some begins are = (book, (first_of b calls more batch es book begins are).1)

pub none_left : (b : ℕ) (calls more : List Numbered) (batch : List Entry) (left : List (List Entry)) → (calls ≡ [] → ⊥) → BeginWith calls b batch more → batch ≡ [] → AreCallsOf calls b left → ⊥
none_left b calls more batch [] some begins empty are = some (sym are.numbered)
none_left b calls more batch (es ∷ book) some begins empty are = are.some.0 ((first_of b calls more batch es book begins are).0 ∙ empty)

pub one_book : (b : ℕ) (calls : List Numbered) (book book' : List (List Entry)) → AreCallsOf calls b book → AreCallsOf calls b book' → book ≡ book'
one_book b calls [] [] a a' = refl
one_book b calls [] ([] ∷ book') a a' = absurd (a'.some.0 refl)
one_book b calls [] ((e ∷ es) ∷ book') a a' = let wrong : numbered_book b ((e ∷ es) ∷ book') ≡ [] = a'.numbered ∙ sym a.numbered in cc (wrong)
one_book b calls ([] ∷ book) [] a a' = absurd (a.some.0 refl)
one_book b calls ((e ∷ es) ∷ book) [] a a' = let wrong : numbered_book b ((e ∷ es) ∷ book) ≡ [] = a.numbered ∙ sym a'.numbered in cc (wrong)
one_book b calls (es ∷ book) (es' ∷ book') a a' =
    let begins : BeginWith calls b es' (numbered_book (b + 1) book') = record { parts = a'.numbered; ends = next_is_other b (length es') book' a'.some.1 } in
    let first = first_of b calls (numbered_book (b + 1) book') es' es book begins a in
    let more = one_book (b + 1) (numbered_book (b + 1) book') book book' first.1 (record { numbered = refl; some = a'.some.1 }) in
    cc (first.0, more)

same_call : (b p : ℕ) (call : Numbered) → b ≡ call.batch → p ≡ call.place → ◌≡◌ {A = Numbered} (record { batch = b; place = p; entry = call.entry }) call
same_call b p call is at = rw (is, at)

batch_append : (b p : ℕ) (es : List Entry) (e : Entry) → numbered_batch b p (es ++ e ∷ []) ≡ numbered_batch b p es ++ record { batch = b; place = p + length es; entry = e } ∷ []
batch_append b p [] e = rw add-zero
batch_append b p (first ∷ es) e =
    let at : p + 1 + length es ≡ p + suc (length es) = omega arith in
    ap (λ cs. record { batch = b; place = p; entry = first } ∷ cs) (batch_append b (p + 1) es e ∙ ap (λ k. numbered_batch b (p + 1) es ++ record { batch = b; place = k; entry = e } ∷ []) at)

-- one call more of the batch
pub call_more : (b : ℕ) (es : List Entry) (calls rest more : List Numbered) (call : Numbered) → numbered_batch b 0 es ++ rest ≡ calls → rest ≡ call ∷ more → call.batch ≡ b → call.place ≡ length es → numbered_batch b 0 (es ++ call.entry ∷ []) ++ more ≡ calls
call_more b es calls rest more call is front batch place =
    let same : ◌≡◌ {A = Numbered} (record { batch = b; place = 0 + length es; entry = call.entry }) call = same_call b (0 + length es) call (sym batch) (omega (arith, place)) in
    ap (λ cs. cs ++ more) (batch_append b 0 es call.entry) ∙ append_assoc (numbered_batch b 0 es) (record { batch = b; place = 0 + length es; entry = call.entry } ∷ []) more
    ∙ ap (λ (c : Numbered). numbered_batch b 0 es ++ c ∷ more) same ∙ ap (λ cs. numbered_batch b 0 es ++ cs) (sym front) ∙ is

book_append : (b : ℕ) (book : List (List Entry)) (batch : List Entry) → numbered_book b (book ++ batch ∷ []) ≡ numbered_book b book ++ numbered_batch (b + length book) 0 batch
book_append b [] batch = rw add-zero (append-nil (numbered_batch b 0 batch))
book_append b (es ∷ book) batch =
    let at : b + 1 + length book ≡ b + suc (length book) = omega arith in
    ap (λ cs. numbered_batch b 0 es ++ cs) (book_append (b + 1) book batch ∙ ap (λ k. numbered_book (b + 1) book ++ numbered_batch k 0 batch) at) ∙ sym (append_assoc (numbered_batch b 0 es) (numbered_book (b + 1) book) (numbered_batch (b + suc (length book)) 0 batch))

pub read_more : (book : List (List Entry)) (batch : List Entry) (calls rest more : List Numbered) → numbered_book 0 book ++ rest ≡ calls → BeginWith rest (length book) batch more → numbered_book 0 (book ++ batch ∷ []) ++ more ≡ calls
read_more book batch calls rest more is begins =
    let at : 0 + length book ≡ length book = omega arith in
    ap (λ cs. cs ++ more) (book_append 0 book batch) ∙ ap (λ k. (numbered_book 0 book ++ numbered_batch k 0 batch) ++ more) at ∙ append_assoc (numbered_book 0 book) (numbered_batch (length book) 0 batch) more ∙ ap (λ cs. numbered_book 0 book ++ cs) begins.parts ∙ is

pub some_more : (book : List (List Entry)) (batch : List Entry) → AllByRecursion (λ (entries : List Entry). entries ≢ []) book → batch ≢ [] → AllByRecursion (λ (entries : List Entry). entries ≢ []) (book ++ batch ∷ [])
some_more [] batch some one = (one, tt)
some_more (es ∷ book) batch some one = (some.0, some_more book batch some.1 one)

pub shorter : (calls more : List Numbered) (b : ℕ) (batch : List Entry) → BeginWith calls b batch more → batch ≢ [] → length more < length calls
shorter calls more b [] begins some = absurd (some refl)
shorter calls more b (e ∷ es) begins some =
    let whole : length (numbered_batch b 0 (e ∷ es) ++ more) ≡ length calls = ap length begins.parts in
    omega (arith, whole, length-append (numbered_batch b (0 + 1) es) more)
