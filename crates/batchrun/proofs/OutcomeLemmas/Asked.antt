-- What a command's run owes, stated for the command that the words are.
use Rattle.std.proofs.Common.{◌≡◌, ℕ, List, Bool, true, false, Option, Some, IsSome, IsNone, refl, subst}
use Rattle.std.specs.Prelude.{IsTrue}
use Rattle.std.specs.Option.{ForSome}
use Rattle.batch_history.specs.declared.report.Report.{Report}
use Rattle.batchrun.specs.Words.{Command, step, run, gen}
use Rattle.batchrun.specs.Outcomes.{PrintsRun, Prints, FileCause, IsFileAssured, FailsPast}
use Rattle.batchrun.specs.Commands.{HasCause}
use Rattle.batchrun.specs.declared.status.Status.{Status}
use Rattle.batchrun.specs.declared.status.Status.TheVariants.{Usage, ReadFault}
use Rattle.batchrun.proofs.OutcomeLemmas.Ends.{OneJob, NoFault, is_assured}

-- the words are one command only
one_command : (words : Option Command) (command other : Command) → words ≡ Some command → words ≡ Some other → command ≡ other
one_command words command other is is' = cc

-- what holds of the command that the words are holds of every command that they are
pub asked : (words : Option Command) (command : Command) (Owed : Command → Type 0) → words ≡ Some command → Owed command → ForSome words Owed
asked words command Owed is owed other is' = subst Owed (one_command words command other is is') owed

some_held : (held : Option (List ℕ)) (told : List ℕ) → held ≡ Some told → IsSome held
some_held held told is = rw is refl

-- a run is assured where no read of a held file fails
pub assured : OneJob → NoFault → (status : Status) (report : Option Report) (held : Option (List ℕ)) (workers : ℕ) (R W : Type 0) (old new : Option (List ℕ)) (never_fails : Bool) (room : ℕ)
    → FileCause status held R W → Prints (PrintsRun held workers) status report old new
    → (IsTrue never_fails → IsSome held → status ≡ ReadFault → ⊥) → FailsPast (PrintsRun held workers) status report room
    → IsFileAssured status report held never_fails room
assured one_job no_fault status report held workers R W old new never_fails room why line reads past =
    is_assured one_job no_fault status report held workers R W old new never_fails room why line
    (λ never told holds. reads never (some_held held told holds)) past

no_cause : (command : Command) (held : List ℕ → Option (List ℕ)) (status : Status) (R W : Type 0) → HasCause command held status R W → status ≡ Usage → ⊥
no_cause (step file workers schedule) held status R W why is = subst (λ (s : Status). FileCause s (held file) R W) is why
no_cause (run file workers) held status R W why is = subst (λ (s : Status). FileCause s (held file) R W) is why
no_cause (gen size seed workers) held status R W why is = subst (λ (s : Status). HasCause (gen size seed workers) held s R W) is why

-- words that are a command do not end with `Usage`
pub no_usage : (words : Option Command) (command : Command) (held : List ℕ → Option (List ℕ)) (status : Status) (R W : Type 0) → words ≡ Some command → HasCause command held status R W
    → (status ≡ Usage → IsNone words) × (IsNone words → status ≡ Usage)
no_usage words command held status R W is why =
    (λ usage. absurd (no_cause command held status R W why usage), λ none. let wrong : true ≡ false = subst (λ (w : Option Command). IsNone w) is none in cc (wrong))
