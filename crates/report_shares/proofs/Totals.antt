-- All shares together.
use Rattle.std.proofs.Common.{ℕ, zero, suc, ◌≡◌, ◌≢◌, ◌+◌, ◌*◌, ◌-◌, ◌==◌, ◌&&◌, ◌<◌, ◌≤◌, Bool, true, false, not, cond, min, max, List, [], ◌∷◌, map, refl, sym, ap, ◌∙◌, arith, length}
use Rattle.std.specs.List.{AllByRecursion, filter, flat_map, range_with_len, sum_by}
use Rattle.std.proofs.lemmas.List.Sums.{sum_by-cons, sum_by-append}
use Rattle.sp_order.specs.Jobs.{JobValue}
use Rattle.batch_history.specs.Lawful.{Lawful, ticks_of}
use Rattle.batch_history.specs.declared.row.Row.{Row}
use Rattle.batch_history.specs.declared.report.Report.{Report}
use Rattle.report_shares.specs.Shares.{edge, lasts_in, ticks_in, calls, works, calls_in, share_in, lane_shares, shares_of}
use Rattle.report_shares.specs.Meaning.{AreAllTicks}
use Rattle.report_shares.specs.declared.share.Share.{Share}
use Rattle.report_shares.proofs.Edges.{take_each_tick}
use Rattle.seq_objects.proofs.Numbers.{same_number}
use Rattle.batch_history.proofs.TallyLemmas.Pairs.{rows_long}

unlike : (m n : ℕ) → (m == n) ≡ false → m ≢ n
unlike m n e same = grind (arith, e, same)

-- how many of the ticks a row lasts, if it is of this worker
abbrev pub lasts_for : ℕ → ℕ → ℕ → Row → ℕ
lasts_for worker from to row = cond (row.worker == worker) (lasts_in from to row) 0

one_row : (mine calling : Bool) (row : Row) (rest rest' : List Row) (f : Row → ℕ)
    → sum_by f (cond (mine && not calling) (row ∷ rest) rest) + sum_by f (cond (mine && calling) (row ∷ rest') rest') ≡ cond mine (f row) 0 + (sum_by f rest + sum_by f rest')
one_row true true row rest rest' f = omega (arith, sum_by-cons f row rest')
one_row true false row rest rest' f = omega (arith, sum_by-cons f row rest)
one_row false true row rest rest' f = omega arith
one_row false false row rest rest' f = omega arith

-- what a worker's rows of both kinds last
pub both : (calling : ℕ → Bool) (worker : ℕ) (rows : List Row) (from to : ℕ)
    → ticks_in from to (filter (works calling worker) rows) + ticks_in from to (filter (calls_in calling worker) rows) ≡ sum_by (lasts_for worker from to) rows
both calling worker [] from to = refl
both calling worker (row ∷ rows) from to =
    let h = both calling worker rows from to in
    let one = one_row (row.worker == worker) (calling row.leaf) row (filter (works calling worker) rows) (filter (calls_in calling worker) rows) (lasts_in from to) in
    one ∙ (ap (λ n. lasts_for worker from to row + n) h ∙ sym (sum_by-cons (lasts_for worker from to) row rows))

same_sums : {X : Type 0} → (f g : X → ℕ) (xs : List X) → AllByRecursion (λ x. f x ≡ g x) xs → sum_by f xs ≡ sum_by g xs
same_sums f g [] each = refl
same_sums f g (x ∷ xs) each =
    let h = same_sums f g xs each.1 in
    let e = each.0 in
    omega (arith, e, h, sum_by-cons f x xs, sum_by-cons g x xs)

always : {X : Type 0} → (P : X → Type 0) → ((x : X) → P x) → (xs : List X) → AllByRecursion P xs
always P each [] = tt
always P each (x ∷ xs) = (each x, always P each xs)

no_sum : {X : Type 0} → (xs : List X) → sum_by (λ (x : X). 0) xs ≡ 0
no_sum [] = refl
no_sum {X} (x ∷ xs) = let h = no_sum xs in omega (arith, h, sum_by-cons (λ (y : X). 0) x xs)

two_sums : {X : Type 0} → (f g : X → ℕ) (xs : List X) → sum_by (λ x. f x + g x) xs ≡ sum_by f xs + sum_by g xs
two_sums f g [] = refl
two_sums f g (x ∷ xs) =
    let h = two_sums f g xs in
    omega (arith, h, sum_by-cons (λ x. f x + g x) x xs, sum_by-cons f x xs, sum_by-cons g x xs)

mapped_sum : {X Y : Type 0} → (g : Y → ℕ) (f : X → Y) (xs : List X) → sum_by g (map f xs) ≡ sum_by (λ x. g (f x)) xs
mapped_sum g f [] = refl
mapped_sum g f (x ∷ xs) =
    let h = mapped_sum g f xs in
    omega (arith, h, sum_by-cons g (f x) (map f xs), sum_by-cons (λ x. g (f x)) x xs)

flat_sum : {X Y : Type 0} → (g : Y → ℕ) (f : X → List Y) (xs : List X) → sum_by g (flat_map f xs) ≡ sum_by (λ x. sum_by g (f x)) xs
flat_sum g f [] = refl
flat_sum g f (x ∷ xs) =
    let h = flat_sum g f xs in
    omega (arith, h, sum_by-append g (f x) (flat_map f xs), sum_by-cons (λ x. sum_by g (f x)) x xs)

-- sums of sums, the other way round
swapped : {X Y : Type 0} → (f : X → Y → ℕ) (xs : List X) (ys : List Y) → sum_by (λ x. sum_by (λ y. f x y) ys) xs ≡ sum_by (λ y. sum_by (λ x. f x y) xs) ys
swapped f [] ys = sym (no_sum ys)
swapped f (x ∷ xs) ys =
    let h = swapped f xs ys in
    let e = sum_by-cons (λ x. sum_by (λ y. f x y) ys) x xs in
    let d = two_sums (λ y. f x y) (λ y. sum_by (λ x. f x y) xs) ys in
    let g = same_sums (λ y. sum_by (λ x. f x y) (x ∷ xs)) (λ y. f x y + sum_by (λ x. f x y) xs) ys
    (always (λ y. sum_by (λ x. f x y) (x ∷ xs) ≡ f x y + sum_by (λ x. f x y) xs) (λ y. sum_by-cons (λ x. f x y) x xs) ys) in
    omega (arith, h, e, d, g)

module _ (edge_at : ℕ → ℕ) (up : (c : ℕ) → edge_at c ≤ edge_at (c + 1)) where
  far : (c k : ℕ) → edge_at c ≤ edge_at (c + k)
  far c zero = let e : c + 0 ≡ c = omega arith in rw e (omega arith)
  far c (suc k) =
      let h = far (c + 1) k in
      let e : c + 1 + k ≡ c + suc k = omega arith in
      let h' : edge_at (c + 1) ≤ edge_at (c + suc k) = rw e at h in
      let one = up c in
      omega (arith, h', one)

  -- what a row lasts in columns that follow one another
  in_columns : (row : Row) (a k : ℕ) → sum_by (λ c. lasts_in (edge_at c) (edge_at (c + 1)) row) (range_with_len a k) ≡ lasts_in (edge_at a) (edge_at (a + k)) row
  in_columns row a zero = let e : a + 0 ≡ a = omega arith in rw e (empty (edge_at a) row.start row.end)
    where
      empty : (at start end : ℕ) → 0 ≡ min at end - max at start
      empty at start end = omega arith
  in_columns row a (suc k) =
      let h = in_columns row (a + 1) k in
      let e : a + 1 + k ≡ a + suc k = omega arith in
      let h' : sum_by (λ c. lasts_in (edge_at c) (edge_at (c + 1)) row) (range_with_len (a + 1) k) ≡ lasts_in (edge_at (a + 1)) (edge_at (a + suc k)) row = rw e at h in
      let reach = far (a + 1) k in
      let further : edge_at (a + 1) ≤ edge_at (a + suc k) = rw e at reach in
      let joined = join (edge_at a) (edge_at (a + 1)) (edge_at (a + suc k)) row.start row.end (up a) further in
      sum_by-cons (λ c. lasts_in (edge_at c) (edge_at (c + 1)) row) a (range_with_len (a + 1) k) ∙ (ap (λ n. lasts_in (edge_at a) (edge_at (a + 1)) row + n) h' ∙ joined)
    where
      join : (from mid to start end : ℕ) → from ≤ mid → mid ≤ to → (min mid end - max from start) + (min to end - max mid start) ≡ min to end - max from start
      join from mid to start end h h' = omega (arith, h, h')

-- of several workers one alone has a row
none : (worker x a k : ℕ) → worker < a → sum_by (λ w. cond (worker == w) x 0) (range_with_len a k) ≡ 0
none worker x a zero below = refl
none worker x a (suc k) below =
    let h = none worker x (a + 1) k (omega (arith, below)) in
    let e = other (worker == a) refl in
    omega (arith, h, e, sum_by-cons (λ w. cond (worker == w) x 0) a (range_with_len (a + 1) k))
  where
    other : (is : Bool) → (worker == a) ≡ is → cond is x 0 ≡ 0
    other true e = absurd (omega (arith, below, same_number worker a e))
    other false e = refl

one : (worker x a k : ℕ) → a ≤ worker → worker < a + k → sum_by (λ w. cond (worker == w) x 0) (range_with_len a k) ≡ x
one worker x a zero from to = absurd (omega (arith, from, to))
one worker x a (suc k) from to =
    sum_by-cons (λ w. cond (worker == w) x 0) a (range_with_len (a + 1) k)
    ∙ chosen (worker == a) refl (sum_by (λ w. cond (worker == w) x 0) (range_with_len (a + 1) k)) (λ below. none worker x (a + 1) k below)
    (λ above. one worker x (a + 1) k above (omega (arith, to)))
  where
    chosen : (is : Bool) → (worker == a) ≡ is → (rest : ℕ) → (worker < a + 1 → rest ≡ 0) → (a + 1 ≤ worker → rest ≡ x) → cond is x 0 + rest ≡ x
    chosen true e rest nothing all = let h = nothing (omega (arith, same_number worker a e)) in omega (arith, h)
    chosen false e rest nothing all = let h = all (omega (arith, from, unlike worker a e)) in omega (arith, h)

chosen_sum : (mine : Bool) (f : ℕ → ℕ) (xs : List ℕ) → sum_by (λ x. cond mine (f x) 0) xs ≡ cond mine (sum_by f xs) 0
chosen_sum true f xs = refl
chosen_sum false f xs = no_sum xs

-- what a worker does in all columns
lane_total : (report : Report) (worker : ℕ) → sum_by (λ share. share.work + share.calls) (lane_shares (calls report.history) report.rows worker)
    ≡ sum_by (λ row. cond (row.worker == worker) (lasts_in 0 (2 * length report.rows) row) 0) report.rows
lane_total report worker =
    let calling = calls report.history in
    let rows = report.rows in
    let leaves = length rows in
    let share : ℕ → Share = λ column. share_in leaves worker column (filter (works calling worker) rows) (filter (calls_in calling worker) rows) in
    let done : Share → ℕ = λ share. share.work + share.calls in
    let columns = range_with_len 0 120 in
    let taken = take_each_tick leaves in
    mapped_sum done share columns
    ∙ (same_sums (λ column. done (share column)) (λ column. sum_by (lasts_for worker (edge leaves column) (edge leaves (column + 1))) rows) columns
    (always (λ column. done (share column) ≡ sum_by (lasts_for worker (edge leaves column) (edge leaves (column + 1))) rows)
    (λ column. both calling worker rows (edge leaves column) (edge leaves (column + 1))) columns)
    ∙ (swapped (λ column row. lasts_for worker (edge leaves column) (edge leaves (column + 1)) row) columns rows
    ∙ same_sums (λ row. sum_by (λ column. lasts_for worker (edge leaves column) (edge leaves (column + 1)) row) columns)
    (λ row. cond (row.worker == worker) (lasts_in 0 (2 * leaves) row) 0) rows
    (always (λ row. sum_by (λ column. lasts_for worker (edge leaves column) (edge leaves (column + 1)) row) columns ≡ cond (row.worker == worker) (lasts_in 0 (2 * leaves) row) 0)
    (λ row. chosen_sum (row.worker == worker) (λ column. lasts_in (edge leaves column) (edge leaves (column + 1)) row) columns
    ∙ ap (λ n. cond (row.worker == worker) n 0) (in_columns (edge leaves) taken.rising row 0 120
    ∙ (ap (λ from. lasts_in from (edge leaves 120) row) taken.first ∙ ap (λ to. lasts_in 0 to row) taken.last))) rows)))

-- the row's worker is one of these, and its last tick is below `ticks`
record Within (workers ticks : ℕ) (row : Row) : Type 0 where
  among : row.worker < workers
  ends : row.end < ticks

within : (workers ticks : ℕ) (rows : List Row) → AllByRecursion (λ row. row.worker < workers) rows → AllByRecursion (λ tick. tick < ticks) (ticks_of rows)
    → AllByRecursion (Within workers ticks) rows
within workers ticks [] among ends = tt
within workers ticks (row ∷ rows) among ends = (record { among = among.0; ends = ends.1.0 }, within workers ticks rows among.1 ends.1.1)

whole : (workers ticks : ℕ) (rows : List Row) → AllByRecursion (Within workers ticks) rows
    → AllByRecursion (λ row. sum_by (λ worker. cond (row.worker == worker) (lasts_in 0 ticks row) 0) (range_with_len 0 workers) ≡ row.end - row.start) rows
whole workers ticks [] are = tt
whole workers ticks (row ∷ rows) are =
    let h = one row.worker (lasts_in 0 ticks row) 0 workers (omega arith) (omega (arith, are.0.among)) in
    let e : lasts_in 0 ticks row ≡ row.end - row.start = omega (arith, are.0.ends) in
    (h ∙ e, whole workers ticks rows are.1)

pub are_all_ticks : (job : JobValue) (workers : ℕ) (report : Report) → Lawful job workers report → AreAllTicks report
unfolding shares_of
are_all_ticks job workers report lawful =
    let rows = report.rows in
    let ticks = 2 * length rows in
    let all = range_with_len 0 report.workers in
    let done : Share → ℕ = λ share. share.work + share.calls in
    let lane : ℕ → List Share = lane_shares (calls report.history) rows in
    let part : ℕ → Row → ℕ = λ worker row. cond (row.worker == worker) (lasts_in 0 ticks row) 0 in
    let names = lawful.rows.names in
    let among : AllByRecursion (λ row. row.worker < report.workers) rows = rw (← names) at lawful.rows.among in
    let ends : AllByRecursion (λ tick. tick < ticks) (ticks_of rows) = rw (← rows_long job workers report lawful) at lawful.rows.ticks.only in
    flat_sum done lane all
    ∙ (same_sums (λ worker. sum_by done (lane worker)) (λ worker. sum_by (part worker) rows) all
    (always (λ worker. sum_by done (lane worker) ≡ sum_by (part worker) rows) (lane_total report) all)
    ∙ (swapped part all rows
    ∙ same_sums (λ row. sum_by (λ worker. part worker row) all) (λ row. row.end - row.start) rows
    (whole report.workers ticks rows (within report.workers ticks rows among ends))))
