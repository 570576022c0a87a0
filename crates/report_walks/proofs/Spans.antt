-- Spans of two parts, and what they say of the order of their leaves.
use Rattle.std.proofs.Common.{◌≡◌, ℕ, ◌+◌, ◌<◌, ◌≤◌, ◌⊎◌, inl, inr, List, min, max, ◌∙◌, arith}
use Rattle.std.proofs.lemmas.Bool.{cases_lt}
use Rattle.sp_order.specs.Precedence.{Tree, seq, par, leaves, IsLeafOf}
use Rattle.report_walks.specs.Code.Spans.{KeepsBefore, IsRow, IsSpanOf}
use Rattle.batch_history.specs.declared.row.Row.{Row}
use Rattle.report_walks.specs.declared.order.Span.{Span}

abbrev pub both : Span → Span → Span
both left right = record { next = right.next; least = min left.least right.least; greatest = max left.greatest right.greatest }

module _ (rows : List Row) (first : ℕ) (left right : Tree) (a b : Span) (is_left : IsSpanOf rows first left a) (is_right : IsSpanOf rows (first + leaves left) right b) where
  -- a leaf of both parts is one of the left or of the right part
  side : (u : ℕ) → first ≤ u → u < first + (leaves left + leaves right) → IsLeafOf left first u ⊎ IsLeafOf right (first + leaves left) u
  side u from to = elim (cases_lt u (first + leaves left)) [ inl low ↦ inl (from, low) | inr high ↦ inr (high, omega (arith, to)) ]

  within_both : (u : ℕ) (row : Row) → (first ≤ u) × (u < first + (leaves left + leaves right)) → IsRow rows u row → ((both a b).least ≤ row.start) × (row.end ≤ (both a b).greatest)
  within_both u row of is = elim (side u of.0 of.1) [
    | inl low ↦ (let in_left = is_left.within u row low is in (omega (arith, in_left.0), omega (arith, in_left.1)))
    | inr high ↦ (let in_right = is_right.within u row high is in (omega (arith, in_right.0), omega (arith, in_right.1)))
  ]

  least_both : (u : ℕ) × (row : Row) × ((first ≤ u) × (u < first + (leaves left + leaves right))) × IsRow rows u row × (row.start ≡ (both a b).least)
  least_both = elim (cases_lt b.least a.least) [
    | inl less ↦ (let w = is_right.least in (w.0, w.1, (omega (arith, w.2.0), omega (arith, w.2.1)), w.3, omega (arith, w.4, less)))
    | inr more ↦ (let w = is_left.least in (w.0, w.1, (omega (arith, w.2.0), omega (arith, w.2.1)), w.3, omega (arith, w.4, more)))
  ]

  greatest_both : (u : ℕ) × (row : Row) × ((first ≤ u) × (u < first + (leaves left + leaves right))) × IsRow rows u row × (row.end ≡ (both a b).greatest)
  greatest_both = elim (cases_lt a.greatest b.greatest) [
    | inl more ↦ (let w = is_right.greatest in (w.0, w.1, (omega (arith, w.2.0), omega (arith, w.2.1)), w.3, omega (arith, w.4, more)))
    | inr less ↦ (let w = is_left.greatest in (w.0, w.1, (omega (arith, w.2.0), omega (arith, w.2.1)), w.3, omega (arith, w.4, less)))
  ]

  pub span_of_seq : IsSpanOf rows first (seq left right) (both a b)
  span_of_seq = record { next = omega (arith, is_right.next); within = within_both; least = least_both; greatest = greatest_both }

  pub span_of_par : IsSpanOf rows first (par left right) (both a b)
  span_of_par = record { next = omega (arith, is_right.next); within = within_both; least = least_both; greatest = greatest_both }

  pub seq_keeps : a.greatest < b.least → KeepsBefore rows first left → KeepsBefore rows (first + leaves left) right → KeepsBefore rows first (seq left right)
  seq_keeps apart keeps_left keeps_right u v before row is row' is' = elim before [
    | inl in_left ↦ keeps_left u v in_left row is row' is'
    | inr other ↦ elim other [
      | inl in_right ↦ keeps_right u v in_right row is row' is'
      | inr across ↦ omega (arith, (is_left.within u row across.0 is).1, (is_right.within v row' across.1 is').0, apart)
    ]
  ]

  pub par_keeps : KeepsBefore rows first left → KeepsBefore rows (first + leaves left) right → KeepsBefore rows first (par left right)
  par_keeps keeps_left keeps_right u v before row is row' is' = elim before [
    | inl in_left ↦ keeps_left u v in_left row is row' is'
    | inr in_right ↦ keeps_right u v in_right row is row' is'
  ]

-- the same, where the right part was walked from the number that the left part gave
pub seq_spanned : (rows : List Row) (first mid : ℕ) (left right : Tree) (a b : Span) → IsSpanOf rows first left a → mid ≡ a.next → IsSpanOf rows mid right b → a.greatest < b.least → KeepsBefore rows first left → KeepsBefore rows mid right
    → IsSpanOf rows first (seq left right) (both a b) × KeepsBefore rows first (seq left right)
seq_spanned rows first mid left right a b is_left at is_right apart keeps_left keeps_right =
    let mid_is : mid ≡ first + leaves left = at ∙ is_left.next in
    let is_right' : IsSpanOf rows (first + leaves left) right b = rw mid_is at is_right in
    (span_of_seq rows first left right a b is_left is_right', seq_keeps rows first left right a b is_left is_right' apart keeps_left (rw mid_is at keeps_right))

pub par_spanned : (rows : List Row) (first mid : ℕ) (left right : Tree) (a b : Span) → IsSpanOf rows first left a → mid ≡ a.next → IsSpanOf rows mid right b → KeepsBefore rows first left → KeepsBefore rows mid right
    → IsSpanOf rows first (par left right) (both a b) × KeepsBefore rows first (par left right)
par_spanned rows first mid left right a b is_left at is_right keeps_left keeps_right =
    let mid_is : mid ≡ first + leaves left = at ∙ is_left.next in
    let is_right' : IsSpanOf rows (first + leaves left) right b = rw mid_is at is_right in
    (span_of_par rows first left right a b is_left is_right', par_keeps rows first left right a b is_left is_right' keeps_left (rw mid_is at keeps_right))
