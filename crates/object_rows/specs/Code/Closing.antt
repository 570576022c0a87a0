-- What the closing of structures promises.
use Rattle.std.specs.Prelude.{◌≡◌, ℕ, ◌==◌, Some, if◌then◌else◌, List}
use Rattle.seq_objects.specs.declared.call.Call.{Call}
use Rattle.seq_objects.specs.declared.reply.Reply.{Reply}
use Rattle.seq_objects.specs.Objects.{Objects}
use Rattle.seq_objects.specs.Stores.{Store}
use Rattle.seq_objects.specs.Serial.{after_all, replies_to_all}
use Rattle.seq_objects.specs.Batches.{calls_at}
use Rattle.object_rows.specs.declared.by_number.ByNumber.{ByNumber}
use Rattle.object_rows.specs.Contents.{structure_at}

-- the structure of the number has served its calls, with these replies; all others stay
pub record ClosesOne {T : Type 0} (content : T → Objects) (was now : ByNumber T) (number : ℕ) (store : Store)
    (calls : List Call) (replies : List Reply) : Type 0 where
  pub structure : T
  pub after : content structure ≡ after_all (store number) (calls_at number calls)
  pub told : replies ≡ replies_to_all (store number) (calls_at number calls)
  pub others : (other : ℕ) → structure_at now other
      ≡ (if other == number then Some structure else structure_at was other)
