-- What the opening of structures promises.
use Rattle.std.specs.Prelude.{◌≡◌, ℕ, ◌==◌, None, if◌then◌else◌, List, [], ◌∷◌, ◌++◌}
use Rattle.seq_objects.specs.declared.call.Call.{Call}
use Rattle.seq_objects.specs.Objects.{Objects}
use Rattle.seq_objects.specs.Pieces.{BatchContext}
use Rattle.object_rows.specs.declared.row.Called.{Called}
use Rattle.object_rows.specs.declared.row.Row.{Row}
use Rattle.object_rows.specs.Contents.{structure_at, store_of}
use Rattle.object_rows.specs.Contexts.{IsOpenFor}

-- one more structure is open, that of the number; all others stay
pub record OpensOne {T R In : Type 0} (content : T → Objects) (is_context_of : R → BatchContext T In → Type 0)
    (was now : Row T R) (number : ℕ) (calls : List Call) (ins : List In) : Type 0 where
  pub called : Called R
  pub opened : now.called.items ≡ was.called.items ++ called ∷ []
  pub numbered : called.number ≡ number
  pub context : IsOpenFor content is_context_of (store_of content was.closed) calls called ins
  pub others : (other : ℕ) → structure_at now.closed other
      ≡ (if other == number then None else structure_at was.closed other)
