-- The walk over the rows, with the ticks that are taken.
use Rattle.std.proofs.Common.{◌≡◌, ◌≢◌, ℕ, zero, suc, ◌+◌, ◌*◌, ◌<◌, ◌⊎◌, inl, inr, Bool, true, false, List, [], ◌∷◌, length, get_or, map, refl, sym, ap, subst, ◌∙◌, arith}
use Rattle.std.specs.Prelude.{set, replicate, Contains}
use Rattle.std.specs.List.{AllByRecursion, range_with_len}
use Rattle.std.proofs.lemmas.Bool.{cases_eq}
use Rattle.std.proofs.lemmas.List.{get_or-set_other, get_or-set_same, length-set, length-map, get_or-replicate, length-replicate}
use Rattle.seq_objects.specs.Pairs.{AreDistinct}
use Rattle.seq_objects.proofs.Elements.{each_so, each_both}
use Rattle.sp_order.specs.Precedence.{leaf_count}
use Rattle.sp_order.specs.Jobs.{JobValue}
use Rattle.batch_history.specs.Lawful.{ticks_of, HasRows}
use Rattle.batch_history.specs.declared.row.Row.{Row}
use Rattle.batch_history.specs.declared.report.Report.{Report}
use Rattle.report_walks.specs.Parts.{report_of}
use Rattle.report_walks.specs.Code.Rows.{IsFree, with_taken, RowsFrom}
use Rattle.std.proofs.lemmas.List.FromFn.{length-range_with_len}

-- a tick that is free after another was taken was free before, and is not that one
free_before : (taken : List Bool) (t u : ℕ) → IsFree taken t → IsFree (set taken t true) u → IsFree taken u × (t ≢ u)
free_before taken t u at free =
    let low : u < length taken = omega (arith, free.0, length-set taken t true) in
    let other : t ≢ u = λ same. (let is : get_or (set taken t true) u true ≡ true = subst (λ (v : ℕ). get_or (set taken t true) v true ≡ true) same (get_or-set_same taken t true true at.0) in let wrong : true ≡ false = sym is ∙ free.1 in cc (wrong)) in
    ((low, sym (get_or-set_other taken t u true true (λ same. other (sym same))) ∙ free.1), other)

free_after : (taken : List Bool) (t u : ℕ) → IsFree taken u → t ≢ u → IsFree (set taken t true) u
free_after taken t u free other = (omega (arith, free.0, length-set taken t true), get_or-set_other taken t u true true (λ same. other (sym same)) ∙ free.1)

-- a tick that is taken after another was taken is that one, or was taken before
taken_before : (taken : List Bool) (t u : ℕ) → get_or (set taken t true) u true ≡ true → (u ≡ t) ⊎ (get_or taken u true ≡ true)
taken_before taken t u is = elim (cases_eq u t) [
  | inl same ↦ inl same
  | inr other ↦ inr (sym (get_or-set_other taken t u true true other) ∙ is)
]

taken_here : (taken : List Bool) (t u : ℕ) → u < length taken → u ≡ t → get_or (set taken t true) u true ≡ true
taken_here taken t u low same = rw same (get_or-set_same taken t true true (subst (λ (v : ℕ). v < length taken) same low))

taken_after : (taken : List Bool) (t u : ℕ) → u < length taken → get_or taken u true ≡ true → get_or (set taken t true) u true ≡ true
taken_after taken t u low is = elim (cases_eq u t) [
  | inl same ↦ taken_here taken t u low same
  | inr other ↦ get_or-set_other taken t u true true other ∙ is
]

-- an element of a list is its first, or one of the others
first_or_rest : (x : ℕ) (xs : List ℕ) (t : ℕ) → Contains (x ∷ xs) t → (t ≡ x) ⊎ Contains xs t
first_or_rest x xs t (zero, low, is) = inl (sym is)
first_or_rest x xs t (suc k, low, is) = inr (k, omega (arith, low), is)

first_of_list : (x : ℕ) (xs : List ℕ) (t : ℕ) → t ≡ x → Contains (x ∷ xs) t
first_of_list x xs t is = (0, omega arith, sym is)

later_of_list : (x : ℕ) (xs : List ℕ) (t : ℕ) → Contains xs t → Contains (x ∷ xs) t
later_of_list x xs t (k, low, is) = (suc k, omega (arith, low), is)

-- the rows of the leaves from `leaf` on, whose ticks are those that are left
pub record AreRows (workers leaf : ℕ) (taken : List Bool) (rows : List Row) : Type 0 where
  pub leaves : map (λ (row : Row). row.leaf) rows ≡ range_with_len leaf (length rows)
  pub among : AllByRecursion (λ (row : Row). row.worker < workers) rows
  pub starts_first : AllByRecursion (λ (row : Row). row.start < row.end) rows
  pub distinct : AreDistinct (ticks_of rows)
  pub free : AllByRecursion (IsFree taken) (ticks_of rows)
  pub each : (tick : ℕ) → tick < length taken → (get_or taken tick true ≡ true) ⊎ Contains (ticks_of rows) tick

abbrev both_taken : List Bool → Row → List Bool
both_taken taken row = with_taken (with_taken taken row.start) row.end

both_long : (taken : List Bool) (row : Row) → length (both_taken taken row) ≡ length taken
both_long taken row = length-set (set taken row.start true) row.end true ∙ length-set taken row.start true

module _ (taken : List Bool) (row : Row) (start : IsFree taken row.start) (end : IsFree (set taken row.start true) row.end) where
  free_of_both : (u : ℕ) → IsFree (both_taken taken row) u → IsFree taken u × (row.start ≢ u) × (row.end ≢ u)
  free_of_both u free =
      let one = free_before (set taken row.start true) row.end u end free in
      let two = free_before taken row.start u start one.0 in
      (two.0, two.1, one.1)

  taken_of_both : (u : ℕ) → get_or (both_taken taken row) u true ≡ true → (u ≡ row.start) ⊎ ((u ≡ row.end) ⊎ (get_or taken u true ≡ true))
  taken_of_both u is = elim (taken_before (set taken row.start true) row.end u is) [
    | inl at ↦ inr (inl at)
    | inr before ↦ elim (taken_before taken row.start u before) [ inl at ↦ inl at | inr old ↦ inr (inr old) ]
  ]

pub are_rows : (workers leaf : ℕ) (taken : List Bool) (rows : List Row) → RowsFrom workers leaf taken rows → AreRows workers leaf taken rows
are_rows workers leaf taken [] all = record { leaves = refl; among = tt; starts_first = tt; distinct = tt; free = tt; each = λ tick low. inl (all tick low) }
are_rows workers leaf taken (row ∷ rows) from =
    let more = are_rows workers (leaf + 1) (both_taken taken row) rows from.3 in
    let old = free_of_both taken row from.1 from.2 in
    let end = free_before taken row.start row.end from.1 from.2 in
    record {
      leaves = ap (λ (n : ℕ). n ∷ map (λ (r : Row). r.leaf) rows) from.0.leaf_is ∙ ap (λ (ns : List ℕ). leaf ∷ ns) more.leaves;
      among = (from.0.among, more.among);
      starts_first = (from.0.starts_first, more.starts_first);
      distinct = (
        (end.1, each_so (IsFree (both_taken taken row)) (λ u. row.start ≢ u) (λ u free. (old u free).1) (ticks_of rows) more.free),
        (each_so (IsFree (both_taken taken row)) (λ u. row.end ≢ u) (λ u free. (old u free).2) (ticks_of rows) more.free, more.distinct),
      );
      free = (from.1, (end.0, each_so (IsFree (both_taken taken row)) (IsFree taken) (λ u free. (old u free).0) (ticks_of rows) more.free));
      each = λ tick low. elim (more.each tick (omega (arith, low, both_long taken row))) [
        | inl is ↦ elim (taken_of_both taken row from.1 from.2 tick is) [
          | inl at ↦ inr (first_of_list row.start (row.end ∷ ticks_of rows) tick at)
          | inr other ↦ elim other [
            | inl at ↦ inr (later_of_list row.start (row.end ∷ ticks_of rows) tick (first_of_list row.end (ticks_of rows) tick at))
            | inr before ↦ inl before
          ]
        ]
        | inr has ↦ inr (later_of_list row.start (row.end ∷ ticks_of rows) tick (later_of_list row.end (ticks_of rows) tick has))
      ];
    }

pub rows_from : (workers leaf : ℕ) (taken : List Bool) (rows : List Row) → AreRows workers leaf taken rows → RowsFrom workers leaf taken rows
rows_from workers leaf taken [] are = λ tick low. elim (are.each tick low) [
  | inl is ↦ is
  | inr has ↦ absurd (omega (arith, has.1))
]
rows_from workers leaf taken (row ∷ rows) are =
    let leaf_is : row.leaf ≡ leaf = let all = are.leaves in cc in
    let rest : map (λ (r : Row). r.leaf) rows ≡ range_with_len (leaf + 1) (length rows) = let all = are.leaves in cc in
    let apart : row.start ≢ row.end = are.distinct.0.0 in
    let start : IsFree taken row.start = are.free.0 in
    let end : IsFree (set taken row.start true) row.end = free_after taken row.start row.end are.free.1.0 apart in (
      record { leaf_is = leaf_is; among = are.among.0; starts_first = are.starts_first.0 },
      start,
      end,
      rows_from workers (leaf + 1) (both_taken taken row) rows (record {
        leaves = rest;
        among = are.among.1;
        starts_first = are.starts_first.1;
        distinct = are.distinct.1.1;
        free = each_so (λ u. IsFree taken u × ((row.start ≢ u) × (row.end ≢ u))) (IsFree (both_taken taken row))
            (λ u is. free_after (set taken row.start true) row.end u (free_after taken row.start u is.0 is.1.0) is.1.1) (ticks_of rows)
            (each_both (IsFree taken) (λ u. (row.start ≢ u) × (row.end ≢ u)) (ticks_of rows) are.free.1.1
            (each_both (λ u. row.start ≢ u) (λ u. row.end ≢ u) (ticks_of rows) are.distinct.0.1 are.distinct.1.0));
        each = λ tick long. (
            let low : tick < length taken = omega (arith, long, both_long taken row) in
            let low' : tick < length (set taken row.start true) = omega (arith, low, length-set taken row.start true) in
            elim (are.each tick low) [
              | inl is ↦ inl (taken_after (set taken row.start true) row.end tick low' (taken_after taken row.start tick low is))
              | inr has ↦ elim (first_or_rest row.start (row.end ∷ ticks_of rows) tick has) [
                | inl at ↦ inl (taken_after (set taken row.start true) row.end tick low' (taken_here taken row.start tick low at))
                | inr other ↦ elim (first_or_rest row.end (ticks_of rows) tick other) [
                  | inl at ↦ inl (taken_here (set taken row.start true) row.end tick low' at)
                  | inr later ↦ inr later
                ]
              ]
            ]);
      }),
    )

-- there are as many rows as leaves
pub rows_long : (job : JobValue) (workers : ℕ) (report : Report) → HasRows job workers report → length report.rows ≡ leaf_count job.shape
rows_long job workers report has = sym (length-map report.rows (λ (r : Row). r.leaf)) ∙ ap length has.leaves ∙ length-range_with_len 0 (leaf_count job.shape)

module _ (job : JobValue) (workers : ℕ) (rows : List Row) (long : length rows ≡ leaf_count job.shape) where
  abbrev none_taken : List Bool
  none_taken = replicate (2 * length rows) false

  none_long : length none_taken ≡ 2 * leaf_count job.shape
  none_long = length-replicate (2 * length rows) false ∙ ap (λ n. 2 * n) long

  pub has_rows_of : RowsFrom workers 0 none_taken rows → HasRows job workers (report_of workers [] rows)
  has_rows_of from =
      let are = are_rows workers 0 none_taken rows from in
      record {
        names = refl;
        leaves = are.leaves ∙ ap (range_with_len 0) long;
        among = are.among;
        starts_first = are.starts_first;
        ticks = record {
          distinct = are.distinct;
          only = each_so (IsFree none_taken) (λ t. t < 2 * leaf_count job.shape) (λ t free. omega (arith, free.0, none_long)) (ticks_of rows) are.free;
          each = λ tick low. elim (are.each tick (omega (arith, low, none_long))) [
            | inl is ↦ (let not : get_or none_taken tick true ≡ false = get_or-replicate (2 * length rows) tick false true (omega (arith, low, long)) in absurd (let wrong : true ≡ false = sym is ∙ not in cc (wrong)))
            | inr has ↦ has
          ];
        };
      }

  pub rows_of_has : HasRows job workers (report_of workers [] rows) → RowsFrom workers 0 none_taken rows
  rows_of_has has = rows_from workers 0 none_taken rows (record {
    leaves = has.leaves ∙ ap (range_with_len 0) (sym long);
    among = has.among;
    starts_first = has.starts_first;
    distinct = has.ticks.distinct;
    free = each_so (λ t. t < 2 * leaf_count job.shape) (IsFree none_taken) (λ t low. (omega (arith, low, none_long), get_or-replicate (2 * length rows) t false true (omega (arith, low, long)))) (ticks_of rows) has.ticks.only;
    each = λ tick low. inr (has.ticks.each tick (omega (arith, low, none_long)));
  })
