-- What each function of the parser does, in steps of the machine.
use Rattle.std.specs.Prelude.{◌≡◌, ℕ, List, Result, Ok, Err}
use Rattle.job_syntax.specs.declared.lexer.word.WordOnLine.{WordOnLine}
use Rattle.job_syntax.specs.declared.fault.JobFault.{JobFault}
use Rattle.job_syntax.specs.declared.error.JobErr.{JobErr}
use Rattle.job_syntax.specs.declared.error.JobErr.TheVariants.{Bad, Memory}
use Rattle.job_syntax.specs.Grammar.{Items}
use Rattle.job_syntax.specs.Code.Machine.{State, read_from}

-- Reading `tokens` from `state` on is the same as reading `rest` from `new` on; or its answer is the fault found. Where
-- memory ran out nothing is said.
abbrev pub Steps : ℕ → State → List WordOnLine → State → List WordOnLine → Result (Unit {0}) JobErr → Type 0
Steps last state tokens new rest (Ok done) = read_from last state tokens ≡ read_from last new rest
Steps last state tokens new rest (Err (Bad found)) = read_from last state tokens ≡ Err found
Steps last state tokens new rest (Err Memory) = Unit {0}

-- The result is the machine's answer. Where memory ran out nothing is said.
abbrev pub Gives : {X : Type 0} → (X → Items) → Result X JobErr → Result Items JobFault → Type 0
Gives view (Ok read) answer = answer ≡ Ok (view read)
Gives view (Err (Bad found)) answer = answer ≡ Err found
Gives view (Err Memory) answer = Unit {0}
