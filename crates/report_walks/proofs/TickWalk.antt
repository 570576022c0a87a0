-- The walk over a book, with the latest start so far.
use Rattle.std.proofs.Common.{◌≡◌, ℕ, ◌+◌, ◌<◌, ◌≤◌, ◌⊎◌, inl, inr, List, length, get_or, max, Option, Some, None, refl, sym, ap, subst, ◌∙◌, arith}
use Rattle.std.specs.Prelude.{slice_get, Contains, IsSomeAnd}
use Rattle.std.proofs.lemmas.Bool.{cases_lt}
use Rattle.std.proofs.lemmas.Option.{slice_get_within, slice_get-get_or, get_or_from_slice_get}
use Rattle.batch_history.specs.Lawful.{KeepsTicks}
use Rattle.report_walks.specs.Parts.{of_calls}
use Rattle.report_walks.specs.Code.Ticks.{IsCallAt, HaveRows, IsLatest, EndFrom, IsCallIn, HasKept}
use Rattle.batch_history.specs.declared.row.Row.{Row}
use Rattle.batch_history.specs.declared.batch.Entry.{Entry}

-- the entry stands in the batch of that number
abbrev pub InBook : List (List Entry) → ℕ → Entry → Type 0
InBook book number entry = IsSomeAnd (slice_get book number) (λ batch. Contains batch entry)

-- the row that the code reads for the entry at a place
pub call_at : (rows : List Row) (entries : List Entry) (place : ℕ) (e : Entry) (r : Row) → place < length entries → (get_or entries place e).leaf < length rows
    → IsCallAt rows entries place (get_or rows (get_or entries place e).leaf r)
call_at rows entries place e r inside inside' = (get_or entries place e, slice_get-get_or entries place e inside, slice_get-get_or rows (get_or entries place e).leaf r inside')

pub has_row : (rows : List Row) (entries : List Entry) (place : ℕ) (e : Entry) → HaveRows rows entries → place < length entries → (get_or entries place e).leaf < length rows
has_row rows entries place e have inside = have place (get_or entries place e) (slice_get-get_or entries place e inside)

-- one entry has one row
pub same_call : (rows : List Row) (entries : List Entry) (place : ℕ) (row row' : Row) → IsCallAt rows entries place row → IsCallAt rows entries place row' → row ≡ row'
same_call rows entries place row row' a b =
    let same : a.0 ≡ b.0 = cc (a.1, b.1) in
    let at : slice_get rows b.0.leaf ≡ Some row = subst (λ (e : Entry). slice_get rows e.leaf ≡ Some row) same a.2 in
    cc (at, b.2)

-- below one more: below, or it
below : (k n : ℕ) → k < n + 1 → (k < n) ⊎ (k ≡ n)
below k n low = elim (cases_lt k n) [ inl less ↦ inl less | inr more ↦ inr (omega (arith, low, more)) ]

pub latest_more : (rows : List Row) (entries : List Entry) (count from latest : ℕ) (row : Row) → IsLatest rows entries count from latest → IsCallAt rows entries count row → IsLatest rows entries (count + 1) from (max latest row.start)
latest_more rows entries count from latest row is at = record {
  later = omega (arith, is.later);
  above = λ place row' low at'. elim (below place count low) [
    | inl less ↦ omega (arith, is.above place row' less at')
    | inr here ↦ (let same : row' ≡ row = same_call rows entries count row' row (subst (λ (k : ℕ). IsCallAt rows entries k row') here at') at in omega (arith, ap (λ (r : Row). r.start) same))
  ];
  reached = elim (cases_lt latest row.start) [
    | inl less ↦ inr (count, row, omega arith, at, omega (arith, less))
    | inr more ↦ elim is.reached [
      | inl none ↦ inl (omega (arith, none, more))
      | inr some ↦ inr (some.0, some.1, omega (arith, some.2), some.3, omega (arith, some.4, more))
    ]
  ];
}

pub end_more : (rows : List Row) (entries : List Entry) (count tick : ℕ) (row : Row) → EndFrom rows entries count tick → IsCallAt rows entries count row → tick ≤ row.end → EndFrom rows entries (count + 1) tick
end_more rows entries count tick row is at late place row' low at' = elim (below place count low) [
  | inl less ↦ is place row' less at'
  | inr here ↦ (let same : row' ≡ row = same_call rows entries count row' row (subst (λ (k : ℕ). IsCallAt rows entries k row') here at') at in omega (arith, ap (λ (r : Row). r.end) same, late))
]

same_batch : (book : List (List Entry)) (rows : List Row) (number : ℕ) (entries : List Entry) (row : Row) → slice_get book number ≡ Some entries → IsCallIn book rows number row → (place : ℕ) × IsCallAt rows entries place row × (place < length entries)
same_batch book rows number entries row is call =
    let same : call.0 ≡ entries = cc (call.2, is) in
    let at : IsCallAt rows entries call.1 row = subst (λ (es : List Entry). IsCallAt rows es call.1 row) same call.3 in
    (call.1, at, slice_get_within entries call.1 at.0 at.1)

-- the walk past one batch more
module _ (book : List (List Entry)) (rows : List Row) (count latest later : ℕ) (entries : List Entry) (kept : HasKept book rows count latest) (is : slice_get book count ≡ Some entries) (next : IsLatest rows entries (length entries) latest later) where
  above_more : (number : ℕ) (row : Row) → number < count + 1 → IsCallIn book rows number row → row.start ≤ later
  above_more number row low call = elim (below number count low) [
    | inl less ↦ omega (arith, kept.above number row less call, next.later)
    | inr here ↦ (let at = same_batch book rows count entries row is (subst (λ (n : ℕ). IsCallIn book rows n row) here call) in next.above at.0 row at.2 at.1)
  ]

  pub reached_more : (later ≡ 0) ⊎ ((number : ℕ) × (row : Row) × (number < count + 1) × IsCallIn book rows number row × (row.start ≡ later))
  reached_more = elim next.reached [
    | inl same ↦ elim kept.reached [
      | inl none ↦ inl (same ∙ none)
      | inr some ↦ inr (some.0, some.1, omega (arith, some.2), some.3, some.4 ∙ sym same)
    ]
    | inr here ↦ inr (count, here.1, omega arith, (entries, here.0, is, here.3), here.4)
  ]

  pub keeps_more : EndFrom rows entries (length entries) later → HasKept book rows (count + 1) later
  keeps_more ends = record {
    above = above_more;
    reached = reached_more;
    keeps = λ b c row row' low low' call call' before. elim (below b count low) [
      | inl less ↦ elim (below c count low') [
        | inl less' ↦ kept.keeps b c row row' less less' call call' before
        | inr here' ↦ omega (arith, less, here')
      ]
      | inr here ↦ (let at = same_batch book rows count entries row is (subst (λ (n : ℕ). IsCallIn book rows n row) here call) in
          absurd (omega (arith, ends at.0 row at.2 at.1, above_more c row' low' call', before)))
    ];
  }

-- a call is an entry of its batch
some_batch : (found : Option (List Entry)) (entry : Entry) → IsSomeAnd found (λ batch. Contains batch entry) → (batch : List Entry) × (found ≡ Some batch) × Contains batch entry
some_batch None entry has = absurd has
some_batch (Some batch) entry has = (batch, refl, has)

contained : (entries : List Entry) (entry : Entry) → Contains entries entry → (place : ℕ) × (slice_get entries place ≡ Some entry)
contained entries entry has = (has.0, slice_get-get_or entries has.0 entry has.1 ∙ ap Some has.2)

contains : (entries : List Entry) (place : ℕ) (entry : Entry) → slice_get entries place ≡ Some entry → Contains entries entry
contains entries place entry is = (place, slice_get_within entries place entry is, get_or_from_slice_get entries place entry entry is)

call_in : (book : List (List Entry)) (rows : List Row) (number : ℕ) (entry : Entry) (row : Row) → InBook book number entry → slice_get rows entry.leaf ≡ Some row → IsCallIn book rows number row
call_in book rows number entry row has is =
    let found = some_batch (slice_get book number) entry has in
    let place = contained found.0 entry found.2 in
    (found.0, place.0, found.1, (entry, place.1, is))

pub in_batch : (book : List (List Entry)) (number : ℕ) (entries : List Entry) (place : ℕ) (entry : Entry) → slice_get book number ≡ Some entries → slice_get entries place ≡ Some entry → InBook book number entry
in_batch book number entries place entry is at = rw is (contains entries place entry at)

-- the whole book keeps the ticks
pub all_kept : (book : List (List Entry)) (rows : List Row) (count latest : ℕ) → HasKept book rows count latest → length book ≤ count → KeepsTicks (of_calls book rows)
all_kept book rows count latest kept far b c first second in_b in_c row is row' is' before =
    let call = call_in book rows b first row in_b is in
    let call' = call_in book rows c second row' in_c is' in
    let low : b < count = omega (arith, slice_get_within book b call.0 call.2, far) in
    let low' : c < count = omega (arith, slice_get_within book c call'.0 call'.2, far) in
    kept.keeps b c row row' low low' call call' before

-- where the book keeps the ticks, no call ends before the latest start so far
module _ (book : List (List Entry)) (rows : List Row) (count later : ℕ) (entries : List Entry) (is : slice_get book count ≡ Some entries)
    (reached : (later ≡ 0) ⊎ ((number : ℕ) × (row : Row) × (number < count + 1) × IsCallIn book rows number row × (row.start ≡ later))) (keeps : KeepsTicks (of_calls book rows)) where
  too_early : (place : ℕ) (row : Row) → IsCallAt rows entries place row → row.end < later → ⊥
  too_early place row at early = elim reached [
    | inl none ↦ omega (arith, none, early)
    | inr some ↦ (let call = some.3 in
        let wrong : count < some.0 = keeps count some.0 at.0 call.3.0 (in_batch book count entries place at.0 is at.1) (in_batch book some.0 call.0 call.1 call.3.0 call.2 call.3.1) row at.2 some.1 call.3.2 (omega (arith, early, some.4)) in
        omega (arith, wrong, some.2))
  ]

  pub must_end : EndFrom rows entries (length entries) later
  must_end place row low at = elim (cases_lt row.end later) [ inl early ↦ absurd (too_early place row at early) | inr fine ↦ fine ]

-- a call that ends before the tick
pub ended_early : (rows : List Row) (entries : List Entry) (count tick place : ℕ) (row : Row) → place < count → IsCallAt rows entries place row → row.end < tick → EndFrom rows entries count tick → ⊥
ended_early rows entries count tick place row low at early ends = omega (arith, ends place row low at, early)
