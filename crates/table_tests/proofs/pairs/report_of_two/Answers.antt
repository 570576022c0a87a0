use Rattle.std.proofs.Common.{ℕ, ◌≡◌, ◌<◌, List, length, slice_get, slice_index_or, arith, sym, ap, subst, ◌∙◌}
use Rattle.std.specs.Prelude.{IfSome}
use Rattle.std.proofs.lemmas.Option.{slice_get_read}
use Rattle.table_rule.specs.declared.view.View.{View}
use Rattle.core_table.specs.declared.table.CoreTable.{CoreTable}
use Rattle.core_table.specs.declared.table.Pass.{Pass}
use Rattle.core_table.specs.Passes.{IsPassOf, opening_view, view}
use Rattle.table_tests.specs.Tables.{HasNoFlag}
use Rattle.table_tests.proofs.pairs.report_of_two.Goals as goal

-- a pass of a new table, by its place among the two
new_pass : {B : Type 0} (t : CoreTable B) (ps : List Pass) (w : ℕ) (p : Pass) → length ps ≡ 2 → ((u : ℕ) → IfSome (slice_get ps u) (λ pass. IsPassOf t pass × (view pass ≡ opening_view t u)))
    → w < 2 → p ≡ slice_index_or ps w p → HasNoFlag t p
new_pass t ps w p two each low is =
    let new = subst (λ o. IfSome o (λ pass. IsPassOf t pass × (view pass ≡ opening_view t w))) (slice_get_read ps 2 w p (sym two) low is) (each w) in
    (new.0, ap (λ (v : View). v.own.hold) new.1)

-- worker 0 is the first, also after worker 1 has been taken out
pub both_are_served-requires-clause-zero : goal.both_are_served-requires-clause-zero
both_are_served-requires-clause-zero c =
    new_pass c.in_ok-table.table c.in_ok-table.passes.items 0 c.remove-zero.result c.in_ok-table.ensures.count c.in_ok-table.ensures.passes (omega (arith))
    (c.remove-zero.ensures.value ∙ c.remove-one.ensures.by_index.0 0 c.remove-zero.result (omega (arith)))

pub both_are_served-requires-clause-one : goal.both_are_served-requires-clause-one
both_are_served-requires-clause-one c =
    new_pass c.in_ok-table.table c.in_ok-table.passes.items 1 c.remove-one.result c.in_ok-table.ensures.count c.in_ok-table.ensures.passes (omega (arith)) c.remove-one.ensures.value
