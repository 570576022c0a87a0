-- What each status says: one definition for each concern, with a line for each status. Below, `held` gives the bytes
-- that the shelf holds under a name, where they are known.
use Rattle.std.specs.Prelude.{◌≡◌, ℕ, ◌<◌, ◌≤◌, ◌⊎◌, List, length, Bool, IsTrue, Option, None, Some, IfSome}
use Rattle.std.specs.Io.KnownBytes.{Appends, Keeps}
use Rattle.bt_io.specs.Bytes.{AppendsFront}
use Rattle.program_io.specs.Reading.{WasRead}
use Rattle.word_counts.specs.Counts.{counts_of, lines_of}
use Rattle.wordcount.specs.declared.status.CountStatus.{CountStatus}
use Rattle.wordcount.specs.declared.status.CountStatus.TheVariants as status

-- these are the lines of the counts of the words of the text that was read, counted one by one
pub record AreCounts (held : Option (List ℕ)) (lines : List ℕ) : Type 0 where
  pub text : List ℕ
  pub read : WasRead 67108864 held text
  pub is : lines ≡ lines_of (counts_of text)

-- the same for the file that the words name; words that name none have no counts
abbrev pub Counts : Option (List ℕ) → (List ℕ → Option (List ℕ)) → List ℕ → Type 0
Counts None held = λ lines. ⊥
Counts (Some file) held = AreCounts (held file)

-- what out took: all lines; at a write fault a front of them; otherwise nothing
abbrev pub Prints : (List ℕ → Type 0) → CountStatus → Option (List ℕ) → Option (List ℕ) → Type 0
Prints Counted status.Done old new = (lines : List ℕ) × Counted lines × Appends old new lines
Prints Counted status.WriteFault old new = (lines : List ℕ) × Counted lines × AppendsFront old new lines
Prints Counted _ old new = Keeps old new

-- Why a status comes where there is a file: by the bytes held, and by whether the fault count of the shelf or of out
-- rose.
abbrev pub HasCause : Option (List ℕ) → CountStatus → Type 0 → Type 0 → Type 0
HasCause held status.Done ReadsFailed WritesFailed = Unit {0}
HasCause held status.Usage ReadsFailed WritesFailed = ⊥
HasCause held status.ReadFault ReadsFailed WritesFailed = ReadsFailed
HasCause held status.Refused ReadsFailed WritesFailed = IfSome held (λ text. 67108864 < length text)
HasCause held status.WriteFault ReadsFailed WritesFailed = WritesFailed
HasCause held status.Memory ReadsFailed WritesFailed = Unit {0}

-- the status is `wanted`, or memory ran out
abbrev pub IsUnlessMemory : CountStatus → CountStatus → Type 0
IsUnlessMemory ended wanted = (ended ≡ wanted) ⊎ (ended ≡ status.Memory)

-- Which status comes where the bytes of the file are known and no read fails, and for counts no write: the one that the
-- bytes call for, unless memory runs out.
pub record Completes (held : Option (List ℕ)) (ended : CountStatus) (ReadsFailed WritesFailed : Type 0) : Type 0 where
  pub too_long : (text : List ℕ) → held ≡ Some text → ¬ ReadsFailed
      → 67108864 < length text → IsUnlessMemory ended status.Refused
  pub counted : (text : List ℕ) → held ≡ Some text → ¬ ReadsFailed → ¬ WritesFailed
      → length text ≤ 67108864 → IsUnlessMemory ended status.Done

-- Where the shelf never fails and holds a text that is not too long, and the lines of its counts are within the room
-- that out has left, the words are counted, unless memory runs out.
abbrev pub IsAssured : Option (List ℕ) → CountStatus → Bool → ℕ → Type 0
IsAssured held ended never_fails room =
    (text : List ℕ) → held ≡ Some text → length text ≤ 67108864
    → IsTrue never_fails → length (lines_of (counts_of text)) ≤ room → IsUnlessMemory ended status.Done
