-- The command line: which words are which command.
use Rattle.std.specs.Prelude.{ℕ, ◌-◌, Bool, ◌&&◌, nat_le, nat_lt, if◌then◌else◌, List, [], ◌∷◌, length, codes, map, Option, None, Some, string_bytes}
use Rattle.std.specs.List.{list_all}
use Rattle.std.specs.Option.{option_map, option_and_then}
use Rattle.std.specs.Str.{bytes_eq}
use Rattle.std.specs.declared.string.String.{String}
use Rattle.std.specs.declared.alloc.Global.{Global}
use Rattle.limits.specs.declared.TheConstants.{MOST_GENERATED, MOST_TURNS, MOST_WORKERS}
use Rattle.decimals.specs.Words.{number_between}

-- The commands. `step` runs the job of a file by turns on one thread: first those of the workers that the schedule
-- names, and then those of all workers round robin. `run` runs it with a thread for each worker. `gen` does the same
-- with a job that it generates from a size and a seed.
pub data Command : Type 0 where
  step : (file : List ℕ) → (workers : ℕ) → (schedule : List ℕ) → Command
  run : (file : List ℕ) → (workers : ℕ) → Command
  gen : (size : ℕ) → (seed : ℕ) → (workers : ℕ) → Command

-- the number of workers: from 1 to the most that a run may have
abbrev pub workers_in : List ℕ → Option ℕ
workers_in word = number_between 1 MOST_WORKERS word

-- the size of a generated job: 1 to `MOST_GENERATED`
abbrev pub size_in : List ℕ → Option ℕ
size_in word = number_between 1 MOST_GENERATED word

-- the seed of a generated job: 0 to 2^64 - 1
abbrev pub seed_in : List ℕ → Option ℕ
seed_in word = number_between 0 18446744073709551615 word

-- the value of a digit: `0` to `9`, and `a` to `v` for 10 to 31; the most workers, which names none, for a byte that is
-- not a digit
abbrev pub digit_value : ℕ → ℕ
digit_value byte =
    if nat_le 48 byte && nat_le byte 57 then byte - 48
    else if nat_le 97 byte && nat_le byte 118 then byte - 87
    else MOST_WORKERS

-- a schedule is a digit for each of its turns, which names one of the workers
abbrev pub is_schedule : ℕ → List ℕ → Bool
is_schedule workers word = nat_le (length word) MOST_TURNS && list_all (λ byte. nat_lt (digit_value byte) workers) word

-- the workers that a schedule names
abbrev pub workers_named : List ℕ → List ℕ
workers_named word = map digit_value word

abbrev pub schedule_in : ℕ → List ℕ → Option (List ℕ)
schedule_in workers word = if is_schedule workers word then Some (workers_named word) else None

-- the `step` command of these words; the empty word names no file
abbrev pub step_command : List ℕ → List ℕ → List ℕ → Option Command
step_command file workers schedule =
    if bytes_eq file [] then None
    else option_and_then (λ count. option_map (step file count) (schedule_in count schedule)) (workers_in workers)

abbrev pub run_command : List ℕ → List ℕ → Option Command
run_command file workers = if bytes_eq file [] then None else option_map (run file) (workers_in workers)

abbrev pub gen_command : List ℕ → List ℕ → List ℕ → Option Command
gen_command size seed workers =
    option_and_then (λ of_size. option_and_then (λ from. option_map (gen of_size from) (workers_in workers)) (seed_in seed)) (size_in size)

-- the command of a name and two more words
abbrev pub short_command : List ℕ → List ℕ → List ℕ → Option Command
short_command name file workers =
    if bytes_eq name (codes "step") then step_command file workers []
    else if bytes_eq name (codes "run") then run_command file workers
    else None

-- the command of a name and three more words
abbrev pub long_command : List ℕ → List ℕ → List ℕ → List ℕ → Option Command
long_command name first second third =
    if bytes_eq name (codes "step") then step_command first second third
    else if bytes_eq name (codes "gen") then gen_command first second third
    else None

-- The commands are `step FILE WORKERS`, `step FILE WORKERS SCHEDULE`, `run FILE WORKERS` and `gen SIZE SEED WORKERS`. A
-- `step` command of three words has the empty schedule.
abbrev pub command_of : List (List ℕ) → Option Command
command_of (name ∷ first ∷ second ∷ []) = short_command name first second
command_of (name ∷ first ∷ second ∷ third ∷ []) = long_command name first second third
command_of _ = None

-- the bytes of the words
abbrev pub spelled : List (String Global) → List (List ℕ)
spelled words = map string_bytes words

-- the file that a command names, if it names one
abbrev pub file_of : Command → Option (List ℕ)
file_of (step file workers schedule) = Some file
file_of (run file workers) = Some file
file_of (gen size seed workers) = None

-- the words are a `step` command
abbrev pub IsStep : Option Command → Type 0
IsStep (Some (step file workers schedule)) = Unit {0}
IsStep _ = ⊥
