-- The table of a pair of workers, and its passes.
use Rattle.std.specs.Prelude.{ℕ, ◌≡◌, List, None, Some, IfSome, slice_get}
use Rattle.sp_order.specs.Precedence.{leaf, par}
use Rattle.core_table.specs.declared.table.CoreTable.{CoreTable}
use Rattle.core_table.specs.declared.table.Pass.{Pass}
use Rattle.core_table.specs.Passes.{IsPassOf, opening_view, planned_in, job_in, pass_view, view}

-- the pass is one of the table, and has done nothing
abbrev pub IsUnused : {B : Type 0} → CoreTable B → Pass → Type 0
IsUnused table pass = IsPassOf table pass × (view pass ≡ opening_view table (view pass).own.worker)

abbrev pub AreUnused : {B : Type 0} → CoreTable B → List Pass → Type 0
AreUnused table passes = (w : ℕ) → IfSome (slice_get passes w) (IsUnused table)

-- the pass is one of the table, and does not have the flag
abbrev pub HasNoFlag : {B : Type 0} → CoreTable B → Pass → Type 0
HasNoFlag table pass = IsPassOf table pass × ((pass_view pass).hold ≡ None)

-- the table is for two workers, and for a job of two leaves that run side by side
abbrev pub IsForTwo : {B : Type 0} → CoreTable B → Type 0
IsForTwo table = ((job_in table).workers ≡ 2) × ((planned_in table).shape ≡ Some (par leaf leaf))
