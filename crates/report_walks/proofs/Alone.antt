-- The walk over the ticks, with the first tick from which each worker is free.
use Rattle.std.proofs.Common.{◌≡◌, ◌≢◌, ℕ, ◌+◌, ◌<◌, ◌≤◌, ◌⊎◌, inl, inr, List, length, get_or, Option, Some, sym, ap, subst, ◌∙◌, arith}
use Rattle.std.specs.Prelude.{slice_get, set}
use Rattle.std.proofs.lemmas.Bool.{cases_lt, cases_eq}
use Rattle.std.proofs.lemmas.List.{get_or-set_other, get_or-set_same, length-set}
use Rattle.std.proofs.lemmas.Option.{slice_get_within}
use Rattle.report_walks.specs.Code.Spans.{KeepsAlone, IsRow, AreStarts, AreTimed}
use Rattle.batch_history.specs.declared.row.Row.{Row}

-- the walk has come to this tick: of the leaves that started before it, those of each worker are apart, and ended
-- before the tick from which it is free
pub record HasWalked (rows : List Row) (free_from : List ℕ) (tick : ℕ) : Type 0 where
  pub most : length free_from ≡ 32
  pub ended : (u : ℕ) (row : Row) → IsRow rows u row → row.start < tick → row.end < get_or free_from row.worker 0
  pub last : (worker : ℕ) → (get_or free_from worker 0 ≡ 0) ⊎ ((u : ℕ) × (row : Row) × IsRow rows u row × (row.start < tick) × (row.worker ≡ worker) × (row.end + 1 ≡ get_or free_from worker 0))
  pub apart : (u v : ℕ) (row row' : Row) → u ≢ v → IsRow rows u row → IsRow rows v row' → row.start < tick → row'.start < tick → row.worker ≡ row'.worker → (row.end < row'.start) ⊎ (row'.end < row.start)

one_row : (rows : List Row) (u : ℕ) (row row' : Row) → IsRow rows u row → IsRow rows u row' → row ≡ row'
one_row rows u row row' is is' = cc

module _ (rows : List Row) (started : List (Option ℕ)) (timed : AreTimed rows) (starts : AreStarts rows started) where
  -- one leaf starts at a tick
  one_start : (u v : ℕ) (row row' : Row) → IsRow rows u row → IsRow rows v row' → row.start ≡ row'.start → u ≡ v
  one_start u v row row' is is' same =
      let at : slice_get started row.start ≡ Some (Some u) = starts.each u row is in
      let at' : slice_get started row'.start ≡ Some (Some v) = starts.each v row' is' in
      cc

  -- a leaf that starts while its worker is not free overlaps with another of this worker
  pub not_alone : (free_from : List ℕ) (tick u : ℕ) (row : Row) → HasWalked rows free_from tick → IsRow rows u row → row.start ≡ tick → tick < get_or free_from row.worker 0 → KeepsAlone rows → ⊥
  not_alone free_from tick u row walked is at busy alone = elim (walked.last row.worker) [
    | inl free ↦ omega (arith, free, busy)
    | inr other ↦ (let different : other.0 ≢ u = λ same. (let same_row : other.1 ≡ row = one_row rows u other.1 row (subst (λ (v : ℕ). IsRow rows v other.1) same other.2) is in omega (arith, other.3, at, ap (λ (r : Row). r.start) same_row)) in
        elim (alone other.0 u different other.1 other.2 row is other.4) [
          | inl before ↦ omega (arith, before, other.5, busy, at)
          | inr behind ↦ omega (arith, behind, other.3, at, timed.starts_first u row is)
        ])
  ]

  -- past a tick at which no leaf starts
  pub past_none : (free_from : List ℕ) (tick : ℕ) → HasWalked rows free_from tick → ((u : ℕ) → slice_get started tick ≡ Some (Some u) → ⊥) → HasWalked rows free_from (tick + 1)
  past_none free_from tick walked none =
      let before : (u : ℕ) (row : Row) → IsRow rows u row → row.start < tick + 1 → row.start < tick =
      λ u row is low. elim (cases_lt row.start tick) [
        | inl less ↦ less
        | inr more ↦ (let same : row.start ≡ tick = omega (arith, low, more) in absurd (none u (rw same at (starts.each u row is))))
      ] in
      record {
        most = walked.most;
        ended = λ u row is low. walked.ended u row is (before u row is low);
        last = λ worker. elim (walked.last worker) [
          | inl free ↦ inl free
          | inr other ↦ inr (other.0, other.1, other.2, omega (arith, other.3), other.4, other.5)
        ];
        apart = λ u v row row' different is is' low low'. walked.apart u v row row' different is is' (before u row is low) (before v row' is' low');
      }

  -- past the start of a leaf whose worker is free
  module _ (free_from : List ℕ) (tick l : ℕ) (at : Row) (walked : HasWalked rows free_from tick) (is_at : IsRow rows l at) (starts_at : at.start ≡ tick) (free : get_or free_from at.worker 0 ≤ tick) where
    early : (u : ℕ) (row : Row) → IsRow rows u row → row.start < tick + 1 → (row.start < tick) ⊎ (u ≡ l)
    early u row is low = elim (cases_lt row.start tick) [
      | inl less ↦ inl less
      | inr more ↦ (let same : row.start ≡ at.start = omega (arith, low, more, starts_at) in inr (one_start u l row at is is_at same))
    ]

    own : get_or (set free_from at.worker (at.end + 1)) at.worker 0 ≡ at.end + 1
    own = let low : at.worker < length free_from = omega (arith, walked.most, timed.workers l at is_at) in get_or-set_same free_from at.worker (at.end + 1) 0 low

    ended_after : (u : ℕ) (row : Row) → IsRow rows u row → row.start < tick + 1 → row.end < get_or (set free_from at.worker (at.end + 1)) row.worker 0
    ended_after u row is low = elim (cases_eq row.worker at.worker) [
      | inl same ↦ rw (same, own) (elim (early u row is low) [
        | inl less ↦ omega (arith, subst (λ (w : ℕ). row.end < get_or free_from w 0) same (walked.ended u row is less), free, starts_at, timed.starts_first l at is_at)
        | inr here ↦ (let same_row : row ≡ at = one_row rows l row at (subst (λ (v : ℕ). IsRow rows v row) here is) is_at in omega (arith, ap (λ (r : Row). r.end) same_row))
      ])
      | inr other ↦ rw (get_or-set_other free_from at.worker row.worker (at.end + 1) 0 other) (elim (early u row is low) [
        | inl less ↦ walked.ended u row is less
        | inr here ↦ (let same_row : row ≡ at = one_row rows l row at (subst (λ (v : ℕ). IsRow rows v row) here is) is_at in absurd (other (ap (λ (r : Row). r.worker) same_row)))
      ])
    ]

    last_after : (worker : ℕ) → (get_or (set free_from at.worker (at.end + 1)) worker 0 ≡ 0) ⊎ ((u : ℕ) × (row : Row) × IsRow rows u row × (row.start < tick + 1) × (row.worker ≡ worker) × (row.end + 1 ≡ get_or (set free_from at.worker (at.end + 1)) worker 0))
    last_after worker = elim (cases_eq worker at.worker) [
      | inl same ↦ inr (l, at, is_at, omega (arith, starts_at), sym same, rw same (sym own))
      | inr other ↦ rw (get_or-set_other free_from at.worker worker (at.end + 1) 0 other) (elim (walked.last worker) [
        | inl none ↦ inl none
        | inr some ↦ inr (some.0, some.1, some.2, omega (arith, some.3), some.4, some.5)
      ])
    ]

    -- a leaf that started before is apart from the one that starts now
    apart_from : (u : ℕ) (row : Row) → IsRow rows u row → row.start < tick → row.worker ≡ at.worker → row.end < at.start
    apart_from u row is less same = omega (arith, subst (λ (w : ℕ). row.end < get_or free_from w 0) same (walked.ended u row is less), free, starts_at)

    apart_after : (u v : ℕ) (row row' : Row) → u ≢ v → IsRow rows u row → IsRow rows v row' → row.start < tick + 1 → row'.start < tick + 1 → row.worker ≡ row'.worker → (row.end < row'.start) ⊎ (row'.end < row.start)
    apart_after u v row row' different is is' low low' same = elim (early u row is low) [
      | inl less ↦ elim (early v row' is' low') [
        | inl less' ↦ walked.apart u v row row' different is is' less less' same
        | inr here' ↦ (let is_now : row' ≡ at = one_row rows l row' at (subst (λ (w : ℕ). IsRow rows w row') here' is') is_at in
            inl (subst (λ (r : Row). row.end < r.start) (sym is_now) (apart_from u row is less (same ∙ ap (λ (r : Row). r.worker) is_now))))
      ]
      | inr here ↦ elim (early v row' is' low') [
        | inl less' ↦ (let is_now : row ≡ at = one_row rows l row at (subst (λ (w : ℕ). IsRow rows w row) here is) is_at in
            inr (subst (λ (r : Row). row'.end < r.start) (sym is_now) (apart_from v row' is' less' (sym same ∙ ap (λ (r : Row). r.worker) is_now))))
        | inr here' ↦ absurd (different (here ∙ sym here'))
      ]
    ]

    pub past_start : HasWalked rows (set free_from at.worker (at.end + 1)) (tick + 1)
    past_start = record { most = length-set free_from at.worker (at.end + 1) ∙ walked.most; ended = ended_after; last = last_after; apart = apart_after }

  -- at the end of the ticks all leaves have started
  pub all_apart : (free_from : List ℕ) (tick : ℕ) → HasWalked rows free_from tick → length started ≤ tick → KeepsAlone rows
  all_apart free_from tick walked far u v different row is row' is' same =
      let within : (w : ℕ) (r : Row) → IsRow rows w r → r.start < tick = λ w r at. (let inside : r.start < length started = slice_get_within started r.start (Some w) (starts.each w r at) in omega (arith, inside, far)) in
      walked.apart u v row row' different is is' (within u row is) (within v row' is') same

pub opening : (rows : List Row) (free_from : List ℕ) → length free_from ≡ 32 → ((w : ℕ) → get_or free_from w 0 ≡ 0) → HasWalked rows free_from 0
opening rows free_from most zeros = record {
  most = most;
  ended = λ u row is low. absurd (omega (arith, low));
  last = λ worker. inl (zeros worker);
  apart = λ u v row row' different is is' low. absurd (omega (arith, low));
}
