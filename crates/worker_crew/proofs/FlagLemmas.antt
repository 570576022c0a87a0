-- A pass of a table has the flag only while its call is outstanding.
use Rattle.std.proofs.Common.{◌≡◌, ◌≢◌, false, refl}
use Rattle.core_table.specs.declared.table.CoreTable.{CoreTable}
use Rattle.core_table.specs.declared.table.Pass.{Pass}
use Rattle.core_table.specs.Passes.{IsPassOf, IsNotTrapped, pass_view}
use Rattle.worker_crew.specs.Words.{CallState, NotCalled, Out, Got}
use Rattle.worker_crew.specs.Passes.{is_trapped, IsFree}

not_trapped : (call : CallState) → call ≢ Out → is_trapped call ≡ false
not_trapped NotCalled ne = refl
not_trapped Out ne = absurd (ne refl)
not_trapped (Got receipt) ne = refl

pub free_of : {B : Type 0} (table : CoreTable B) (pass : Pass) → IsPassOf table pass → IsNotTrapped pass → IsFree (pass_view pass)
free_of table pass own ne = (not_trapped (pass_view pass).call ne, (own.7.free ne).0)
