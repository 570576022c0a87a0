-- The work that is due for a worker, and its value.
use Rattle.core_model.specs.Next.{next_act}
use Rattle.core_model.specs.Operations.{number_from}
use Rattle.core_model.specs.State.{CoreJob}
use Rattle.core_model.specs.Words.{Entry}
use Rattle.core_model.specs.declared.next.Next.{Next}
use Rattle.core_model.specs.declared.next.Next.TheVariants as acts
use Rattle.core_state.specs.Words.{CallState, Task}
use Rattle.std.specs.Prelude.{List, None, Option, Some, ℕ, ◌≡◌}

-- the number of the work that an act asks for: that of its leaf under the book
abbrev pub number_asked : CoreJob → List (List Entry) → Option Next → Option ℕ
number_asked job book None = None
number_asked job book (Some (acts.Spin n start leaf steps)) = number_from book steps (job.source leaf)
number_asked job book (Some act) = None

-- the number of the work that the next act of a worker with this task and this call state asks for
abbrev pub work_due : CoreJob → List (List Entry) → Task → CallState → Option ℕ
work_due job book task call = number_asked job book (next_act job task call)

-- If work is due, `value` has it: its own clause `has` holds of the number.
abbrev pub CanGive : {V : Type 0} → (V → ℕ → Type 0) → V → Option ℕ → Type 0
CanGive has value due = (number : ℕ) → due ≡ Some number → has value number
