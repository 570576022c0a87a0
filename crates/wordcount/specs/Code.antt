-- What only the code and its proofs cite: the file that the words name, and why a file was not counted.
use Rattle.std.specs.Prelude.{ℕ, ◌<◌, List, length, Option, IfSome}
use Rattle.wordcount.specs.declared.words.Count.{Count}
use Rattle.wordcount.specs.declared.status.CountStatus.{CountStatus}
use Rattle.wordcount.specs.declared.status.CountStatus.TheVariants as status

-- the file whose words are counted
abbrev pub file_in : Count → List ℕ
file_in count = count.file.now

-- why a run stops before it writes
abbrev pub StopsCounting : CountStatus → Option (List ℕ) → Type 0 → Type 0
StopsCounting status.ReadFault held ReadsFailed = ReadsFailed
StopsCounting status.Refused held ReadsFailed = IfSome held (λ text. 67108864 < length text)
StopsCounting status.Memory held ReadsFailed = Unit {0}
StopsCounting _ held ReadsFailed = ⊥

-- a write fault comes only where the lines are longer than the room that out has left
abbrev pub FailsPast : (List ℕ → Type 0) → CountStatus → ℕ → Type 0
FailsPast Counted status.WriteFault room = (lines : List ℕ) × Counted lines × (room < length lines)
FailsPast Counted _ room = Unit {0}
