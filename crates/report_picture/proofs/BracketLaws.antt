-- The brackets over the calls of a book.
use Rattle.std.proofs.Common.{ℕ, zero, suc, ◌≡◌, ◌+◌, ◌-◌, ◌<◌, ◌≤◌, ◌⊎◌, inl, inr, List, [], ◌∷◌, ◌++◌, length, Some, refl, sym, ap, arith}
use Rattle.std.specs.Prelude.{slice_get}
use Rattle.batch_history.specs.Book.{flat}
use Rattle.batch_history.specs.declared.batch.Entry.{Entry}
use Rattle.batch_history.specs.declared.report.Report.{Report}
use Rattle.report_picture.specs.Boxes.{Bracket, brackets_from}
use Rattle.report_picture.specs.Meaning.{IsOver, HasBrackets, KeepsBrackets}

-- an element of two lists is one of the first, or of the second
split : {X : Type 0} (xs ys : List X) (i : ℕ) (x : X) → slice_get (xs ++ ys) i ≡ Some x
    → ((i < length xs) × (slice_get xs i ≡ Some x)) ⊎ ((length xs ≤ i) × (slice_get ys (i - length xs) ≡ Some x))
split [] ys i x is = let e : i - 0 ≡ i = omega arith in inr (omega arith, rw e is)
split (y ∷ xs) ys zero x is = inl (omega arith, is)
split (y ∷ xs) ys (suc i) x is = elim (split xs ys i x is) [
  | inl h ↦ inl (omega (arith, h.0), h.1)
  | inr h ↦ let e : suc i - length (y ∷ xs) ≡ i - length xs = omega arith in inr (omega (arith, h.0), rw e h.1)
]

-- the bracket of the i-th entry of a book, whose first batch has the number `batch` and `first` calls before it
record Found (batch first : ℕ) (book : List (List Entry)) (i : ℕ) (entry : Entry) : Type 0 where
  k : ℕ
  bracket : Bracket
  is : slice_get (brackets_from batch first book) k ≡ Some bracket
  numbered : bracket.batch ≡ batch + k
  calls : slice_get book k ≡ Some bracket.entries
  from : bracket.first ≤ first + i
  to : first + i < bracket.first + length bracket.entries
  place : slice_get bracket.entries (first + i - bracket.first) ≡ Some entry

find : (batch first : ℕ) (book : List (List Entry)) (i : ℕ) (entry : Entry) → slice_get (flat book) i ≡ Some entry → Found batch first book i entry
find batch first [] i entry is = cc
find batch first (entries ∷ book) i entry is = elim (split entries (flat book) i entry is) [
  | inl h ↦ let e : first + i - first ≡ i = omega arith in record {
    k = 0;
    bracket = record { batch = batch; first = first; entries = entries };
    is = refl;
    numbered = omega arith;
    calls = refl;
    from = omega arith;
    to = omega (arith, h.0);
    place = rw e h.1;
  }
  | inr h ↦
      let found = find (batch + 1) (first + length entries) book (i - length entries) entry h.1 in
      let e : first + length entries + (i - length entries) ≡ first + i = omega (arith, h.0) in
      record {
        k = suc found.k;
        bracket = found.bracket;
        is = found.is;
        numbered = omega (arith, found.numbered);
        calls = found.calls;
        from = omega (arith, h.0, found.from);
        to = omega (arith, h.0, found.to);
        place = rw e at found.place;
      }
]

pub has_brackets : (report : Report) → HasBrackets report
has_brackets report serial entry is =
    let found = find 0 0 report.history serial entry is in
    let e : 0 + serial ≡ serial = omega arith in
    record {
      batch = found.k;
      bracket = found.bracket;
      is = found.is;
      numbered = omega (arith, found.numbered);
      calls = found.calls;
      over = record { from = omega (arith, found.from); to = omega (arith, found.to) };
      place = rw e at found.place;
    }

-- a bracket has at least the calls before it that its book has
late : (batch first : ℕ) (book : List (List Entry)) (k : ℕ) (bracket : Bracket) → slice_get (brackets_from batch first book) k ≡ Some bracket → first ≤ bracket.first
late batch first [] k bracket is = cc
late batch first (entries ∷ book) zero bracket is =
    let same : record { batch = batch; first = first; entries = entries } ≡ bracket = cc in
    omega (arith, ap (λ (b : Bracket). b.first) same)
late batch first (entries ∷ book) (suc k) bracket is =
    omega (arith, late (batch + 1) (first + length entries) book k bracket is)

-- the first bracket ends where the others begin
early : (batch first : ℕ) (entries : List Entry) (book : List (List Entry)) (bracket : Bracket)
    → slice_get (brackets_from batch first (entries ∷ book)) 0 ≡ Some bracket → bracket.first + length bracket.entries ≡ first + length entries
early batch first entries book bracket is =
    let same : record { batch = batch; first = first; entries = entries } ≡ bracket = cc in
    ap (λ (b : Bracket). b.first + length b.entries) (sym same)

one : (batch first : ℕ) (book : List (List Entry)) (serial b c : ℕ) (bracket other : Bracket)
    → slice_get (brackets_from batch first book) b ≡ Some bracket → slice_get (brackets_from batch first book) c ≡ Some other
    → IsOver bracket serial → IsOver other serial → b ≡ c
one batch first [] serial b c bracket other is is' over over' = cc
one batch first (entries ∷ book) serial zero zero bracket other is is' over over' = refl
one batch first (entries ∷ book) serial zero (suc c) bracket other is is' over over' =
    absurd (omega (arith, early batch first entries book bracket is, late (batch + 1) (first + length entries) book c other is', over.to, over'.from))
one batch first (entries ∷ book) serial (suc b) zero bracket other is is' over over' =
    absurd (omega (arith, early batch first entries book other is', late (batch + 1) (first + length entries) book b bracket is, over'.to, over.from))
one batch first (entries ∷ book) serial (suc b) (suc c) bracket other is is' over over' =
    ap suc (one (batch + 1) (first + length entries) book serial b c bracket other is is' over over')

pub keeps_brackets : (report : Report) → KeepsBrackets report
keeps_brackets report serial b c bracket other is is' over over' = one 0 0 report.history serial b c bracket other is is' over over'
