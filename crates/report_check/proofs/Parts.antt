-- From what the walks decide to the first flaw of a report.
use Rattle.std.proofs.Common.{◌≡◌, ℕ, zero, suc, ◌+◌, ◌<◌, ◌≤◌, inl, inr, List, [], refl, sym, ap, subst, ◌∙◌, arith}
use Rattle.std.specs.List.{AllByRecursion}
use Rattle.std.proofs.lemmas.Bool.{cases_lt}
use Rattle.sp_order.specs.Jobs.{JobValue}
use Rattle.batch_history.specs.Book.{IsLegal, IsBatch}
use Rattle.batch_history.specs.Lawful.{HasRows, KeepsOrder, HasCalls, KeepsTicks, HasValues, Lawful}
use Rattle.batch_history.specs.declared.batch.Entry.{Entry}
use Rattle.batch_history.specs.declared.report.Report.{Report}
use Rattle.batch_history.specs.declared.row.Row.{Row}
use Rattle.report_walks.specs.Parts.{report_of, of_rows, of_calls}
use Rattle.report_check.specs.declared.flaw.Flaw.{Flaw}
use Rattle.report_check.specs.declared.flaw.Flaw.TheVariants.{Text, Rows, Order, Calls, Replies, Ticks, Batches, Values}
use Rattle.report_check.specs.Flaws.{Part, rank, FailsFirst}

-- the flaw with a rank
abbrev flaw_at : ℕ → Flaw
flaw_at (suc (suc zero)) = Rows
flaw_at (suc (suc (suc zero))) = Order
flaw_at (suc (suc (suc (suc zero)))) = Calls
flaw_at (suc (suc (suc (suc (suc zero))))) = Replies
flaw_at (suc (suc (suc (suc (suc (suc zero)))))) = Ticks
flaw_at (suc (suc (suc (suc (suc (suc (suc zero))))))) = Batches
flaw_at (suc (suc (suc (suc (suc (suc (suc (suc more)))))))) = Values
flaw_at number = Text

at_rank : (flaw : Flaw) → flaw_at (rank flaw) ≡ flaw
at_rank Text = refl
at_rank Rows = refl
at_rank Order = refl
at_rank Calls = refl
at_rank Replies = refl
at_rank Ticks = refl
at_rank Batches = refl
at_rank Values = refl

from_one : (flaw : Flaw) → 1 ≤ rank flaw
from_one Text = omega arith
from_one Rows = omega arith
from_one Order = omega arith
from_one Calls = omega arith
from_one Replies = omega arith
from_one Ticks = omega arith
from_one Batches = omega arith
from_one Values = omega arith

-- two flaws with one rank are one
pub same_flaw : (flaw other : Flaw) → rank flaw ≡ rank other → flaw ≡ other
same_flaw flaw other same = sym (at_rank flaw) ∙ ap flaw_at same ∙ at_rank other

-- the number of workers, the batches and the rows that are read from a report
pub record Sees (report : Report) : Type 0 where
  pub workers : ℕ
  pub book : List (List Entry)
  pub rows : List Row
  pub workers_are : workers ≡ report.workers
  pub book_is : book ≡ report.history
  pub rows_are : rows ≡ report.rows

module _ (job : JobValue) (report : Report) where
  -- the parts of all flaws below a rank
  abbrev Holds : ℕ → Type 0
  Holds n = (flaw : Flaw) → rank flaw < n → Part job report flaw

  one_more : (flaw : Flaw) → Holds (rank flaw) → Part job report flaw → Holds (rank flaw + 1)
  one_more flaw before part other low = elim (cases_lt (rank other) (rank flaw)) [
    | inl less ↦ before other less
    | inr more ↦ subst (Part job report) (same_flaw flaw other (omega (arith, low, more))) part
  ]

  none_before : Holds 2
  none_before = one_more Text (λ flaw low. absurd (omega (arith, low, from_one flaw))) tt

  pub lawful_part : Lawful job report.workers report → (flaw : Flaw) → Part job report flaw
  lawful_part lawful Text = tt
  lawful_part lawful Rows = lawful.rows
  lawful_part lawful Order = lawful.order
  lawful_part lawful Calls = lawful.calls
  lawful_part lawful Replies = lawful.replies
  lawful_part lawful Ticks = lawful.ticks
  lawful_part lawful Batches = lawful.batches
  lawful_part lawful Values = lawful.values

  -- what the walks decide, of what they see of the report
  module _ (sees : Sees report) where
    abbrev workers : ℕ
    workers = sees.workers

    abbrev book : List (List Entry)
    book = sees.book

    abbrev rows : List Row
    rows = sees.rows

    abbrev w : workers ≡ report.workers
    w = sees.workers_are

    abbrev b : book ≡ report.history
    b = sees.book_is

    abbrev r : rows ≡ report.rows
    r = sees.rows_are

    abbrev RowsWalk : Type 0
    RowsWalk = HasRows job workers (report_of workers [] rows)

    abbrev OrderWalk : Type 0
    OrderWalk = KeepsOrder job (of_rows rows)

    abbrev CallsWalk : Type 0
    CallsWalk = HasCalls job (of_calls book rows)

    abbrev TicksWalk : Type 0
    TicksWalk = KeepsTicks (of_calls book rows)

    abbrev ValuesWalk : Type 0
    ValuesWalk = HasValues job (of_calls book rows)

    pub rows_part : RowsWalk → HasRows job report.workers report
    rows_part walk =
        let is = subst (λ (rs : List Row). HasRows job report.workers (report_of report.workers [] rs)) r (subst (λ (n : ℕ). HasRows job n (report_of n [] rows)) w walk) in
        record { names = refl; leaves = is.leaves; among = is.among; starts_first = is.starts_first; ticks = is.ticks }

    rows_walk : HasRows job report.workers report → RowsWalk
    rows_walk is = subst (λ (n : ℕ). HasRows job n (report_of n [] rows)) (sym w) (subst (λ (rs : List Row). HasRows job report.workers (report_of report.workers [] rs)) (sym r)
        (record { names = refl; leaves = is.leaves; among = is.among; starts_first = is.starts_first; ticks = is.ticks }))

    pub order_part : OrderWalk → KeepsOrder job report
    order_part walk = let is = subst (λ (rs : List Row). KeepsOrder job (of_rows rs)) r walk in record { before = is.before; alone = is.alone }

    order_walk : KeepsOrder job report → OrderWalk
    order_walk is = subst (λ (rs : List Row). KeepsOrder job (of_rows rs)) (sym r) (record { before = is.before; alone = is.alone })

    pub calls_part : CallsWalk → HasCalls job report
    calls_part walk =
        let is = subst (λ (rs : List Row). HasCalls job (of_calls report.history rs)) r (subst (λ (bs : List (List Entry)). HasCalls job (of_calls bs rows)) b walk) in
        record { leaves = is.leaves; operations = is.operations; workers = is.workers }

    calls_walk : HasCalls job report → CallsWalk
    calls_walk is = subst (λ (bs : List (List Entry)). HasCalls job (of_calls bs rows)) (sym b) (subst (λ (rs : List Row). HasCalls job (of_calls report.history rs)) (sym r)
        (record { leaves = is.leaves; operations = is.operations; workers = is.workers }))

    pub ticks_part : TicksWalk → KeepsTicks report
    ticks_part walk = subst (λ (rs : List Row). KeepsTicks (of_calls report.history rs)) r (subst (λ (bs : List (List Entry)). KeepsTicks (of_calls bs rows)) b walk)

    ticks_walk : KeepsTicks report → TicksWalk
    ticks_walk is = subst (λ (bs : List (List Entry)). KeepsTicks (of_calls bs rows)) (sym b) (subst (λ (rs : List Row). KeepsTicks (of_calls report.history rs)) (sym r) is)

    values_part : ValuesWalk → HasValues job report
    values_part walk =
        let is = subst (λ (rs : List Row). HasValues job (of_calls report.history rs)) r (subst (λ (bs : List (List Entry)). HasValues job (of_calls bs rows)) b walk) in
        record { work = is.work; calls = is.calls }

    values_walk : HasValues job report → ValuesWalk
    values_walk is = subst (λ (bs : List (List Entry)). HasValues job (of_calls bs rows)) (sym b) (subst (λ (rs : List Row). HasValues job (of_calls report.history rs)) (sym r)
        (record { work = is.work; calls = is.calls }))

    -- the first flaw, by the walks that decided for the parts before it
    pub fails_rows : (RowsWalk → ⊥) → FailsFirst job report Rows
    fails_rows never = record { earlier = none_before; failed = λ is. never (rows_walk is) }

    module _ (has_rows : RowsWalk) where
      holds_rows : Holds 3
      holds_rows = one_more Rows none_before (rows_part has_rows)

      pub fails_order : (OrderWalk → ⊥) → FailsFirst job report Order
      fails_order never = record { earlier = holds_rows; failed = λ is. never (order_walk is) }

      module _ (order : OrderWalk) where
        holds_order : Holds 4
        holds_order = one_more Order holds_rows (order_part order)

        pub fails_calls : (CallsWalk → ⊥) → FailsFirst job report Calls
        fails_calls never = record { earlier = holds_order; failed = λ is. never (calls_walk is) }

        module _ (calls : CallsWalk) where
          holds_calls : Holds 5
          holds_calls = one_more Calls holds_order (calls_part calls)

          pub fails_replies : (IsLegal book → ⊥) → FailsFirst job report Replies
          fails_replies never = record { earlier = holds_calls; failed = λ is. never (subst IsLegal (sym b) is) }

          module _ (replies : IsLegal book) where
            holds_replies : Holds 6
            holds_replies = one_more Replies holds_calls (subst IsLegal b replies)

            pub fails_ticks : (TicksWalk → ⊥) → FailsFirst job report Ticks
            fails_ticks never = record { earlier = holds_replies; failed = λ is. never (ticks_walk is) }

            module _ (ticks : TicksWalk) where
              holds_ticks : Holds 7
              holds_ticks = one_more Ticks holds_replies (ticks_part ticks)

              pub fails_batches : (AllByRecursion IsBatch report.history → ⊥) → FailsFirst job report Batches
              fails_batches never = record { earlier = holds_ticks; failed = never }

              module _ (batches : AllByRecursion IsBatch report.history) where
                pub fails_values : (ValuesWalk → ⊥) → FailsFirst job report Values
                fails_values never = record { earlier = one_more Batches holds_ticks batches; failed = λ is. never (values_walk is) }

                pub is_lawful : ValuesWalk → Lawful job report.workers report
                is_lawful values = record {
                  rows = rows_part has_rows;
                  order = order_part order;
                  calls = calls_part calls;
                  replies = subst IsLegal b replies;
                  ticks = ticks_part ticks;
                  batches = batches;
                  values = values_part values;
                }
