use Rattle.std.proofs.Common.{rules, ◌≡◌, ℕ, ◌*◌, ◌<◌, List, [], ◌∷◌, length, get_or, Option, Some, None, true, false, IsTrue, refl, sym, ap, ◌∙◌, arith}
use Rattle.std.specs.Prelude.{slice_get, zero, suc}
use Rattle.std.specs.List.{AllByRecursion}
use Rattle.std.proofs.lemmas.Option.{slice_get_within, slice_get-get_or, get_or_from_slice_get}
use Rattle.report_walks.specs.Code.Spans.{KeepsAlone, IsRow, AreStarts}
use Rattle.batch_history.specs.declared.row.Row.{Row}
use Rattle.report_walks.proofs.Alone.{not_alone, past_none, past_start, all_apart, opening}
use Rattle.report_walks.proofs.order.are_alone.Goals as goal
use Rattle.report_walks.proofs.order.are_alone.Goals.{in-Some+else-tick-free_from, in_default}

-- the row of the leaf that starts at a tick
abbrev no_row : Row
no_row = record { leaf = 0; worker = 0; start = 0; end = 0; value = 0 }

row_at : (rows : List Row) (started : List (Option ℕ)) (tick leaf : ℕ) (d : Option ℕ) → AreStarts rows started → tick < length started → get_or started tick d ≡ Some leaf
    → IsRow rows leaf (get_or rows leaf no_row) × ((get_or rows leaf no_row).start ≡ tick) × (leaf < length rows)
row_at rows started tick leaf d starts inside is =
    let at : slice_get started tick ≡ Some (Some leaf) = slice_get-get_or started tick d inside ∙ ap Some is in
    let found = starts.only tick leaf at in
    let same : get_or rows leaf no_row ≡ found.0 = get_or_from_slice_get rows leaf found.0 no_row found.1 in
    (found.1 ∙ ap Some (sym same), ap (λ (r : Row). r.start) same ∙ found.2, slice_get_within rows leaf found.0 found.1)

not_true : (P : Type 0) → (P → ⊥) → (IsTrue false → P) × (P → IsTrue false)
not_true P never = (λ is. absurd (let wrong : false ≡ true = is in cc (wrong)), λ p. absurd (never p))

all_zero : (xs : List ℕ) → AllByRecursion (λ x. x ≡ 0) xs → (w : ℕ) → get_or xs w 0 ≡ 0
all_zero [] all w = refl
all_zero (x ∷ xs) all zero = all.0
all_zero (x ∷ xs) all (suc w) = all_zero xs all.1 w

zeros_32 : List ℕ
zeros_32 = 0 ∷ 0 ∷ 0 ∷ 0 ∷ 0 ∷ 0 ∷ 0 ∷ 0 ∷ 0 ∷ 0 ∷ 0 ∷ 0 ∷ 0 ∷ 0 ∷ 0 ∷ 0 ∷ 0 ∷ 0 ∷ 0 ∷ 0 ∷ 0 ∷ 0 ∷ 0 ∷ 0 ∷ 0 ∷ 0 ∷ 0 ∷ 0 ∷ 0 ∷ 0 ∷ 0 ∷ 0 ∷ []

zeros : (w : ℕ) → get_or zeros_32 w 0 ≡ 0
unfolding zeros_32
zeros w = all_zero zeros_32 (search rules) w

pub loop-tick-init : goal.loop-tick-init
unfolding zeros_32
loop-tick-init c = opening c.args.rows.now zeros_32 refl zeros

pub bounds-rows-leaf : goal.bounds-rows-leaf
bounds-rows-leaf c = (row_at c.args.rows.now c.args.started.now c.loop-tick.tick c.in-Some.leaf _ c.requires.starts c.loop-tick-test.true c.in-Some.is).2

pub bounds-free_from-worker : goal.bounds-free_from-worker
bounds-free_from-worker c =
    let at = row_at c.args.rows.now c.args.started.now c.loop-tick.tick c.in-Some.leaf _ c.requires.starts c.loop-tick-test.true c.in-Some.is in
    c.requires.timed.workers c.in-Some.leaf _ at.0

pub returns-then-tick-free_from : goal.returns-then-tick-free_from
returns-then-tick-free_from c =
    let at = row_at c.args.rows.now c.args.started.now c.loop-tick.tick c.in-Some.leaf _ c.requires.starts c.loop-tick-test.true c.in-Some.is in
    not_true (KeepsAlone c.args.rows.now) (not_alone c.args.rows.now c.args.started.now c.requires.timed c.requires.starts c.loop-tick.free_from c.loop-tick.tick c.in-Some.leaf (get_or c.args.rows.now c.in-Some.leaf no_row) c.loop-tick.invariant at.0 at.1 c.if-tick-free_from.true)

pub overflow_add-free_from : goal.overflow_add-free_from
overflow_add-free_from c =
    let at = row_at c.args.rows.now c.args.started.now c.loop-tick.tick c.in-Some.leaf _ c.requires.starts c.loop-tick-test.true c.in-Some.is in
    let small : (get_or c.args.rows.now c.in-Some.leaf no_row).end < 2 * length c.args.rows.now = c.requires.timed.small c.in-Some.leaf _ at.0 in
    omega (arith, small, c.requires.timed.few)

pub bounds-free_from-worker-in-Some : goal.bounds-free_from-worker-in-Some
bounds-free_from-worker-in-Some c =
    let at = row_at c.args.rows.now c.args.started.now c.loop-tick.tick c.in-Some.leaf _ c.requires.starts c.loop-tick-test.true c.in-Some.is in
    c.requires.timed.workers c.in-Some.leaf _ at.0

pub loop-tick-preserved : goal.loop-tick-preserved
loop-tick-preserved c = elim c.match-leaf.branch [
  | in-Some+else-tick-free_from w ↦ (
      let at = row_at c.args.rows.now c.args.started.now c.loop-tick.tick w.in-Some.leaf None c.requires.starts c.loop-tick-test.true w.in-Some.is in
      rw w.free_from-is (past_start c.args.rows.now c.args.started.now c.requires.timed c.requires.starts c.loop-tick.free_from c.loop-tick.tick w.in-Some.leaf (get_or c.args.rows.now w.in-Some.leaf no_row) c.loop-tick.invariant at.0 at.1 w.if-tick-free_from.false))
  | in_default w ↦ rw w.free_from-is (past_none c.args.rows.now c.args.started.now c.requires.timed c.requires.starts c.loop-tick.free_from c.loop-tick.tick c.loop-tick.invariant
      (λ u is. let at : get_or c.args.started.now c.loop-tick.tick None ≡ Some u = get_or_from_slice_get c.args.started.now c.loop-tick.tick (Some u) None is in w.in_default.not-Some u at))
]

pub returns : goal.returns
returns c = (λ _. all_apart c.args.rows.now c.args.started.now c.requires.timed c.requires.starts c.loop-tick.free_from c.loop-tick.tick c.loop-tick.invariant c.loop-tick-test.false, λ _. refl)
