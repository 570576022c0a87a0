-- The passes of a table that was just made have nothing in hand.
use Rattle.std.proofs.Common.{◌≡◌, ℕ, ◌<◌, ◌∙◌, List, length, get_or, slice_get, Some, Option, IfSome, sym, ap, subst, arith}
use Rattle.std.proofs.lemmas.Option.{slice_get-get_or}
use Rattle.table_rule.specs.declared.view.View.{View}
use Rattle.core_table.specs.declared.table.CoreTable.{CoreTable}
use Rattle.core_table.specs.declared.table.Pass.{Pass}
use Rattle.core_table.specs.Passes.{IsPassOf, view, pass_view, opening_view}
use Rattle.table_rule.specs.Passes.{unused}

-- it is a pass of the table, as it was made
abbrev IsOpeningPass : {B : Type 0} → CoreTable B → ℕ → Pass → Type 0
IsOpeningPass table w pass = IsPassOf table pass × (view pass ≡ opening_view table w)

pub seat_at : {B : Type 0} (table : CoreTable B) (passes : List Pass) (count : ℕ) → length passes ≡ count
    → ((w : ℕ) → IfSome (slice_get passes w) (IsOpeningPass table w))
    → (w : ℕ) (pass : Pass) → w < count → pass ≡ get_or passes w pass
    → IsPassOf table pass × (pass_view pass ≡ unused w)
seat_at table passes count long made w pass lt at =
    let there : slice_get passes w ≡ Some pass =
    slice_get-get_or passes w pass (omega (arith, lt, long)) ∙ ap (λ (p : Pass). Some p) (sym at) in
    let opening : IsOpeningPass table w pass =
    subst (λ (o : Option Pass). IfSome o (IsOpeningPass table w)) there (made w) in
    (opening.0, ap (λ (v : View). v.own) opening.1)
