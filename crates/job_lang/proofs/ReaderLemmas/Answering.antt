-- A text has one job or one fault, and so what a reader may answer is determined.
use Rattle.std.proofs.Common.{◌≡◌, ℕ, ◌<◌, ◌≤◌, List, Option, Some, None, Result, Ok, Err, refl, sym, ap, ◌∙◌, arith, subst, inl, inr, ◌⊎◌}
use Rattle.std.specs.Prelude.{IfOk}
use Rattle.std.proofs.lemmas.Bool.{cases_lt}
use Rattle.sp_order.specs.Jobs.{JobValue}
use Rattle.job_syntax.specs.declared.fault.JobFault.{JobFault}
use Rattle.job_syntax.specs.declared.fault.JobFault.TheVariants as fault
use Rattle.job_syntax.specs.declared.error.JobErr.{JobErr}
use Rattle.job_syntax.specs.declared.error.JobErr.TheVariants.{Bad, Memory}
use Rattle.job_syntax.specs.Text.{forbidden_line, last_line}
use Rattle.job_syntax.specs.Words.{words_on_lines}
use Rattle.job_syntax.specs.Grammar.{Items}
use Rattle.job_syntax.specs.Faults.{IsReadingFault}
use Rattle.job_lang.specs.Counts.{count}
use Rattle.job_lang.specs.Meaning.{job_of}
use Rattle.job_lang.specs.Limits.{IsLeavesLine, argument_line}
use Rattle.job_syntax.specs.ItemsOf.{AreItemsOf}
use Rattle.job_lang.specs.Language.{IsJobOf, Accepts, IsFaultOf, HasTooManyLeaves, HasArgumentOutOfRange}
use Rattle.job_syntax.proofs.ParserLemmas.ReadingLaws.{one_items, one_reading_fault, items_or_fault, items_or_reading_fault}
use Rattle.job_lang.proofs.ReaderLemmas.ReadingFaults.{reading_fault}
use Rattle.job_lang.proofs.LimitLemmas.TooManyLeaves.{too_many, one_line, some_line}

pub one_job : (text : List ℕ) (job job' : JobValue) → IsJobOf text job → IsJobOf text job' → job ≡ job'
one_job text job job' is also = is.means ∙ ap job_of (one_items (words_on_lines text) is.items also.items is.read also.read) ∙ sym also.means

-- a text with a job has no fault

reads_well : (text : List ℕ) (found : JobFault) (job : JobValue) → IsJobOf text job → IsReadingFault (last_line text) (words_on_lines text) found → ⊥
reads_well text found job is read = items_or_fault (last_line text) (words_on_lines text) is.items found is.read read

pub not_both : (text : List ℕ) (job : JobValue) (found : JobFault) → IsJobOf text job → IsFaultOf text found → ⊥
not_both text job (fault.Byte line) is has = let allowed = is.allowed in cc (allowed, has)
not_both text job (fault.Grammar line) is has = reads_well text (fault.Grammar line) job is has.1
not_both text job (fault.Number line) is has = reads_well text (fault.Number line) job is has.1
not_both text job (fault.Nesting line) is has = reads_well text (fault.Nesting line) job is has.1
not_both text job (fault.Name line) is has = reads_well text (fault.Name line) job is has.1
not_both text job (fault.Leaves line) is has =
    let same = ap count (one_items (words_on_lines text) is.items has.items is.read has.read) in
    let many = too_many (words_on_lines text) has.items line has.where_it_is in
    absurd (omega (arith, is.few, same, many))
not_both text job (fault.Argument line) is has =
    let same = ap (argument_line (words_on_lines text)) (one_items (words_on_lines text) is.items has.items is.read has.read) in
    let small = is.small in
    let large = has.where_it_is in
    cc (same, small, large)

-- a text has one fault

abbrev IsRead : List ℕ → JobFault → Type 0
IsRead text found = (forbidden_line text ≡ None) × IsReadingFault (last_line text) (words_on_lines text) found

same_read : (text : List ℕ) (a b : JobFault) → IsRead text a → IsRead text b → a ≡ b
same_read text a b has also = one_reading_fault (last_line text) (words_on_lines text) a b has.1 also.1

leaves_read : (text : List ℕ) (found : JobFault) (line : ℕ) → IsRead text found → HasTooManyLeaves text line → ⊥
leaves_read text found line has also = items_or_fault (last_line text) (words_on_lines text) also.items found also.read has.1

argument_read : (text : List ℕ) (found : JobFault) (line : ℕ) → IsRead text found → HasArgumentOutOfRange text line → ⊥
argument_read text found line has also = items_or_fault (last_line text) (words_on_lines text) also.items found also.read has.1

leaves_argument : (text : List ℕ) (line line' : ℕ) → HasTooManyLeaves text line → HasArgumentOutOfRange text line' → ⊥
leaves_argument text line line' has also =
    let same = ap count (one_items (words_on_lines text) has.items also.items has.read also.read) in
    let many = too_many (words_on_lines text) has.items line has.where_it_is in
    absurd (omega (arith, same, many, also.few))

one_leaves : (text : List ℕ) (line line' : ℕ) → HasTooManyLeaves text line → HasTooManyLeaves text line' → line ≡ line'
one_leaves text line line' has also =
    let same = one_items (words_on_lines text) also.items has.items also.read has.read in
    one_line (words_on_lines text) has.items line line' has.where_it_is (subst (λ items. IsLeavesLine (words_on_lines text) items line') same also.where_it_is)

one_argument : (text : List ℕ) (line line' : ℕ) → HasArgumentOutOfRange text line → HasArgumentOutOfRange text line' → line ≡ line'
one_argument text line line' has also =
    let same = ap (argument_line (words_on_lines text)) (one_items (words_on_lines text) has.items also.items has.read also.read) in
    let here = has.where_it_is in
    let there = also.where_it_is in
    cc (same, here, there)

pub one_fault : (text : List ℕ) (a b : JobFault) → IsFaultOf text a → IsFaultOf text b → a ≡ b
one_fault text (fault.Byte l) (fault.Name m) has also = let allowed = also.0 in absurd (cc (has, allowed))
one_fault text (fault.Grammar l) (fault.Name m) has also = same_read text (fault.Grammar l) (fault.Name m) has also
one_fault text (fault.Name l) (fault.Grammar m) has also = same_read text (fault.Name l) (fault.Grammar m) has also
one_fault text (fault.Number l) (fault.Name m) has also = same_read text (fault.Number l) (fault.Name m) has also
one_fault text (fault.Name l) (fault.Number m) has also = same_read text (fault.Name l) (fault.Number m) has also
one_fault text (fault.Nesting l) (fault.Name m) has also = same_read text (fault.Nesting l) (fault.Name m) has also
one_fault text (fault.Name l) (fault.Nesting m) has also = same_read text (fault.Name l) (fault.Nesting m) has also
one_fault text (fault.Name l) (fault.Name m) has also = same_read text (fault.Name l) (fault.Name m) has also
one_fault text (fault.Name l) (fault.Byte m) has also = let allowed = has.0 in absurd (cc (also, allowed))
one_fault text (fault.Name l) (fault.Leaves m) has also = absurd (leaves_read text (fault.Name l) m has also)
one_fault text (fault.Name l) (fault.Argument m) has also = absurd (argument_read text (fault.Name l) m has also)
one_fault text (fault.Leaves l) (fault.Name m) has also = absurd (leaves_read text (fault.Name m) l also has)
one_fault text (fault.Argument l) (fault.Name m) has also = absurd (argument_read text (fault.Name m) l also has)
one_fault text (fault.Byte l) (fault.Byte m) has also = ap (λ line. fault.Byte line) (cc (has, also))
one_fault text (fault.Byte l) (fault.Grammar m) has also = let allowed = also.0 in absurd (cc (has, allowed))
one_fault text (fault.Byte l) (fault.Number m) has also = let allowed = also.0 in absurd (cc (has, allowed))
one_fault text (fault.Byte l) (fault.Nesting m) has also = let allowed = also.0 in absurd (cc (has, allowed))
one_fault text (fault.Byte l) (fault.Leaves m) has also = let allowed = also.allowed in absurd (cc (has, allowed))
one_fault text (fault.Byte l) (fault.Argument m) has also = let allowed = also.allowed in absurd (cc (has, allowed))
one_fault text (fault.Grammar l) (fault.Byte m) has also = let allowed = has.0 in absurd (cc (also, allowed))
one_fault text (fault.Grammar l) (fault.Grammar m) has also = same_read text (fault.Grammar l) (fault.Grammar m) has also
one_fault text (fault.Grammar l) (fault.Number m) has also = same_read text (fault.Grammar l) (fault.Number m) has also
one_fault text (fault.Grammar l) (fault.Nesting m) has also = same_read text (fault.Grammar l) (fault.Nesting m) has also
one_fault text (fault.Grammar l) (fault.Leaves m) has also = absurd (leaves_read text (fault.Grammar l) m has also)
one_fault text (fault.Grammar l) (fault.Argument m) has also = absurd (argument_read text (fault.Grammar l) m has also)
one_fault text (fault.Number l) (fault.Byte m) has also = let allowed = has.0 in absurd (cc (also, allowed))
one_fault text (fault.Number l) (fault.Grammar m) has also = same_read text (fault.Number l) (fault.Grammar m) has also
one_fault text (fault.Number l) (fault.Number m) has also = same_read text (fault.Number l) (fault.Number m) has also
one_fault text (fault.Number l) (fault.Nesting m) has also = same_read text (fault.Number l) (fault.Nesting m) has also
one_fault text (fault.Number l) (fault.Leaves m) has also = absurd (leaves_read text (fault.Number l) m has also)
one_fault text (fault.Number l) (fault.Argument m) has also = absurd (argument_read text (fault.Number l) m has also)
one_fault text (fault.Nesting l) (fault.Byte m) has also = let allowed = has.0 in absurd (cc (also, allowed))
one_fault text (fault.Nesting l) (fault.Grammar m) has also = same_read text (fault.Nesting l) (fault.Grammar m) has also
one_fault text (fault.Nesting l) (fault.Number m) has also = same_read text (fault.Nesting l) (fault.Number m) has also
one_fault text (fault.Nesting l) (fault.Nesting m) has also = same_read text (fault.Nesting l) (fault.Nesting m) has also
one_fault text (fault.Nesting l) (fault.Leaves m) has also = absurd (leaves_read text (fault.Nesting l) m has also)
one_fault text (fault.Nesting l) (fault.Argument m) has also = absurd (argument_read text (fault.Nesting l) m has also)
one_fault text (fault.Leaves l) (fault.Byte m) has also = let allowed = has.allowed in absurd (cc (also, allowed))
one_fault text (fault.Leaves l) (fault.Grammar m) has also = absurd (leaves_read text (fault.Grammar m) l also has)
one_fault text (fault.Leaves l) (fault.Number m) has also = absurd (leaves_read text (fault.Number m) l also has)
one_fault text (fault.Leaves l) (fault.Nesting m) has also = absurd (leaves_read text (fault.Nesting m) l also has)
one_fault text (fault.Leaves l) (fault.Leaves m) has also = ap (λ line. fault.Leaves line) (one_leaves text l m has also)
one_fault text (fault.Leaves l) (fault.Argument m) has also = absurd (leaves_argument text l m has also)
one_fault text (fault.Argument l) (fault.Byte m) has also = let allowed = has.allowed in absurd (cc (also, allowed))
one_fault text (fault.Argument l) (fault.Grammar m) has also = absurd (argument_read text (fault.Grammar m) l also has)
one_fault text (fault.Argument l) (fault.Number m) has also = absurd (argument_read text (fault.Number m) l also has)
one_fault text (fault.Argument l) (fault.Nesting m) has also = absurd (argument_read text (fault.Nesting m) l also has)
one_fault text (fault.Argument l) (fault.Leaves m) has also = absurd (leaves_argument text m l also has)
one_fault text (fault.Argument l) (fault.Argument m) has also = ap (λ line. fault.Argument line) (one_argument text l m has also)

-- each text has a job or a fault

abbrev IsOne : List ℕ → Type 0
IsOne text = Accepts text ⊎ ((found : JobFault) × IsFaultOf text found)

small_or_not : (text : List ℕ) (items : Items) (line : Option ℕ) → forbidden_line text ≡ None → AreItemsOf (words_on_lines text) items → count items ≤ 20000 → argument_line (words_on_lines text) items ≡ line → IsOne text
small_or_not text items None allowed read few small = inl (job_of items, record { allowed = allowed; items = items; read = read; few = few; small = small; means = refl })
small_or_not text items (Some line) allowed read few large = inr (fault.Argument line, record { allowed = allowed; items = items; read = read; few = few; where_it_is = large })

few_or_not : (text : List ℕ) (items : Items) → forbidden_line text ≡ None → AreItemsOf (words_on_lines text) items → (20000 < count items) ⊎ (count items ≤ 20000) → IsOne text
few_or_not text items allowed read (inl many) =
    let at = some_line (words_on_lines text) items read.derives.writes many in
    inr (fault.Leaves at.0, record { allowed = allowed; items = items; read = read; where_it_is = at.1 })
few_or_not text items allowed read (inr few) = small_or_not text items (argument_line (words_on_lines text) items) allowed read few refl

read_or_not : (text : List ℕ) → forbidden_line text ≡ None → ((items : Items) × AreItemsOf (words_on_lines text) items) ⊎ ((found : JobFault) × IsReadingFault (last_line text) (words_on_lines text) found) → IsOne text
read_or_not text allowed (inl read) = few_or_not text read.0 allowed read.1 (cases_lt 20000 (count read.0))
read_or_not text allowed (inr read) = inr (read.0, reading_fault text read.0 allowed read.1)

allowed_or_not : (text : List ℕ) (line : Option ℕ) → forbidden_line text ≡ line → IsOne text
allowed_or_not text None allowed = read_or_not text allowed (items_or_reading_fault (last_line text) (words_on_lines text))
allowed_or_not text (Some line) forbidden = inr (fault.Byte line, forbidden)

pub job_or_fault : (text : List ℕ) → Accepts text ⊎ ((found : JobFault) × IsFaultOf text found)
job_or_fault text = allowed_or_not text (forbidden_line text) refl

-- A reader whose jobs and faults are right answers the job of each text that has one, and the fault of each text that
-- has one, unless memory runs out.

pub answers_job : (text : List ℕ) (result : Result JobValue JobErr) → IfOk result (λ job. IsJobOf text job) → ((found : JobFault) → result ≡ Err (Bad found) → IsFaultOf text found) → (job : JobValue) → IsJobOf text job → (result ≡ Ok job) ⊎ (result ≡ Err Memory)
answers_job text (Ok read) right wrong job is = inl (ap (λ job. Ok job) (one_job text read job right is))
answers_job text (Err Memory) right wrong job is = inr refl
answers_job text (Err (Bad found)) right wrong job is = absurd (not_both text job found is (wrong found refl))

pub answers_fault : (text : List ℕ) (result : Result JobValue JobErr) → IfOk result (λ job. IsJobOf text job) → ((found : JobFault) → result ≡ Err (Bad found) → IsFaultOf text found) → (found : JobFault) → IsFaultOf text found → (result ≡ Err (Bad found)) ⊎ (result ≡ Err Memory)
answers_fault text (Ok read) right wrong found has = absurd (not_both text read found right has)
answers_fault text (Err Memory) right wrong found has = inr refl
answers_fault text (Err (Bad other)) right wrong found has = inl (ap (λ found. Err (Bad found)) (one_fault text other found (wrong other refl) has))
