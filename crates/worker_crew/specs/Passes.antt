-- Whether a worker is free or trapped, by what contracts see of its pass.
use Rattle.std.specs.Prelude.{◌≡◌, Bool, true, false, None}
use Rattle.table_rule.specs.declared.view.PassView.{PassView}
use Rattle.worker_crew.specs.Words.{CallState, NotCalled, Out, Got}

-- whether the call is outstanding: posted, and not yet left with a receipt
abbrev pub is_trapped : CallState → Bool
is_trapped NotCalled = false
is_trapped Out = true
is_trapped (Got receipt) = false

-- no call is outstanding, and the worker does not have the flag: it may do program work
abbrev pub IsFree : PassView → Type 0
IsFree p = (is_trapped p.call ≡ false) × (p.hold ≡ None)

-- the call is outstanding, and the worker does not have the flag
abbrev pub IsTrapped : PassView → Type 0
IsTrapped p = (is_trapped p.call ≡ true) × (p.hold ≡ None)
