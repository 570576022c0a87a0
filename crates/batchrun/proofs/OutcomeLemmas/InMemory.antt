-- Over memory in which no call is told to fail, a run is done, unless memory runs out.
use Rattle.std.proofs.Common.{◌≡◌, ℕ, ◌-◌, List, [], length, Option, Some, None, IfSome, refl}
use Rattle.std.specs.Prelude.{◌==◌}
use Rattle.std.specs.Option.{ForSome, option_and_then}
use Rattle.batch_history.specs.declared.report.Report.{Report}
use Rattle.bt_io.specs.Memory.{File, MemorySink, file_named, room_left_of}
use Rattle.batchrun.specs.Words.{Command, step, run, gen, file_of, IsStep}
use Rattle.batchrun.specs.Outcomes.{HoldsJob, IsUnlessMemory, TextFits, FailsPast}
use Rattle.batchrun.specs.Commands.{Runs, Driven, RunsModel, IsAssured}
use Rattle.batchrun.specs.declared.status.Status.{Status}
use Rattle.batchrun.specs.declared.status.Status.TheVariants.{Done}

-- a sink in memory that no write is told to fail in has the room that it has not used
pub all_room : (out : MemorySink) → out.fails ≡ [] → room_left_of out ≡ out.room - length out.taken
all_room out none = rw none refl

pub in_memory : (words : Option Command) (status : Status) (report : Option Report) (files : List File) (fails : List ℕ) (out : MemorySink) → IsStep words → fails ≡ [] → out.fails ≡ []
    → ForSome words (λ c. IsAssured c (file_named files) status report (length fails == 0) (room_left_of out))
    → ForSome (option_and_then file_of words) (λ file. (holds : HoldsJob (file_named files file)) → TextFits holds.job report (out.room - length out.taken) → IsUnlessMemory status Done)
in_memory None status report files fails out asks none none' assured file is held fits = absurd asks
in_memory (Some (run named workers)) status report files fails out asks none none' assured file is held fits = absurd asks
in_memory (Some (gen size seed workers)) status report files fails out asks none none' assured file is held fits = absurd asks
in_memory (Some (step named workers schedule)) status report files fails out asks none none' assured file is held fits =
    let same : named ≡ file = cc in
    assured (step named workers schedule) refl held.bytes held.job (rw same held.told) held.short held.accepted (rw none refl) (rw (all_room out none') fits)

-- a run by turns fails to write only past the room
pub step_writes : (words : Option Command) (held : List ℕ → Option (List ℕ)) (status : Status) (report : Option Report) (room : ℕ) → IsStep words
    → ForSome words (λ command. FailsPast (Runs (Some command) held) status report room) → FailsPast (Runs words held) status report room
step_writes None held status report room asks past = absurd asks
step_writes (Some command) held status report room asks past = past command refl

pub step_driven : (words : Option Command) (report : Option Report) (held : List ℕ → Option (List ℕ)) → IsStep words
    → ForSome words (λ command. IfSome report (Driven (Some command) held)) → IfSome report (Driven words held)
step_driven None report held asks driven = absurd asks
step_driven (Some command) report held asks driven = driven command refl

pub step_model : (words : Option Command) (report : Option Report) (held : List ℕ → Option (List ℕ)) → IsStep words
    → ForSome words (λ command. IfSome report (RunsModel (Some command) held)) → IfSome report (RunsModel words held)
step_model None report held asks model = absurd asks
step_model (Some command) report held asks model = model command refl
