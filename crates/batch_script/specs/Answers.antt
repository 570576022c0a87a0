-- What the reader of a script answers.
use Rattle.std.specs.Prelude.{◌≡◌, List, Result, Ok, Err}
use Rattle.batch_script.specs.declared.fault.ScriptErr.{ScriptErr}
use Rattle.batch_script.specs.declared.fault.ScriptErr.TheVariants.{Bad, Memory}
use Rattle.batch_script.specs.Scripts.{ScriptValue, good, bad}

-- the text is no script, by this fault, or memory ran out
abbrev pub IsBadBy : {C : Type 0} → ScriptValue C → ScriptErr → Type 0
IsBadBy value (Bad fault) = value ≡ bad fault
IsBadBy value Memory = Unit {0}

-- the text is a script with these batches, or it is refused for its first fault, or memory ran out
abbrev pub IsReading : {C : Type 0} → ScriptValue C → Result (List (List C)) ScriptErr → Type 0
IsReading value (Ok batches) = value ≡ good batches
IsReading value (Err e) = IsBadBy value e
