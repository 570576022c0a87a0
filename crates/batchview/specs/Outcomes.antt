-- What each status says: one definition for each concern, with a line for each status. Below, `held` gives the bytes
-- that the shelf holds under a name, where they are known.
use Rattle.std.specs.Prelude.{◌≡◌, ℕ, ◌<◌, ◌≤◌, ◌⊎◌, List, length, Bool, IsTrue, Option, None, Some, IfSome}
use Rattle.std.specs.Io.KnownBytes.{Appends, Keeps}
use Rattle.bt_io.specs.Bytes.{AppendsFront}
use Rattle.limits.specs.declared.TheConstants.{MOST_REPORT_BYTES}
use Rattle.program_io.specs.Reading.{WasRead}
use Rattle.report_reader.specs.Texts.{Named, HasNamedText}
use Rattle.report_reader.specs.Stops.{StopsAt}
use Rattle.report_picture.specs.Picture.{picture}
use Rattle.batchview.specs.declared.status.ViewRefusal.{ViewRefusal}
use Rattle.batchview.specs.declared.status.ViewRefusal.TheVariants.{TooLong, NoReport}
use Rattle.batchview.specs.declared.status.ViewStatus.{ViewStatus}
use Rattle.batchview.specs.declared.status.ViewStatus.TheVariants as status

-- the text is that of a report with names for its objects, and these bytes are its picture
pub record Pictures (text drawn : List ℕ) : Type 0 where
  pub named : Named
  pub has_text : HasNamedText text named
  pub is : drawn ≡ picture named.names named.report

-- these are the picture of the report whose text was read
pub record IsPicture (held : Option (List ℕ)) (drawn : List ℕ) : Type 0 where
  pub text : List ℕ
  pub read : WasRead MOST_REPORT_BYTES held text
  pub pictures : Pictures text drawn

-- the same for the file that the words name; words that name none have no picture
abbrev pub Draws : Option (List ℕ) → (List ℕ → Option (List ℕ)) → List ℕ → Type 0
Draws None held = λ drawn. ⊥
Draws (Some file) held = IsPicture (held file)

-- what out took: the whole picture; at a write fault a front of it; otherwise nothing
abbrev pub Prints : (List ℕ → Type 0) → ViewStatus → Option (List ℕ) → Option (List ℕ) → Type 0
Prints Drawn status.Done old new = (drawn : List ℕ) × Drawn drawn × Appends old new drawn
Prints Drawn status.WriteFault old new = (drawn : List ℕ) × Drawn drawn × AppendsFront old new drawn
Prints Drawn _ old new = Keeps old new

-- no report has the text, whatever the names of its objects are
abbrev pub HasNoReport : List ℕ → Type 0
HasNoReport text = (named : Named) → HasNamedText text named → ⊥

-- the bytes that were read are the text of no report, and the line with this number is the first that is none of a
-- report's behind those before it
pub record IsRefused (held : Option (List ℕ)) (line : ℕ) : Type 0 where
  pub text : List ℕ
  pub read : WasRead MOST_REPORT_BYTES held text
  pub none : HasNoReport text
  pub stops : StopsAt text line

-- why the file is refused
abbrev pub Refuses : Option (List ℕ) → ViewRefusal → Type 0
Refuses held TooLong = IfSome held (λ text. MOST_REPORT_BYTES < length text)
Refuses held (NoReport line) = IsRefused held line

-- Why a status comes where there is a file: by the bytes held, and by whether the fault count of the shelf or of out
-- rose.
abbrev pub HasCause : Option (List ℕ) → ViewStatus → Type 0 → Type 0 → Type 0
HasCause held status.Done ReadsFailed WritesFailed = Unit {0}
HasCause held status.Usage ReadsFailed WritesFailed = ⊥
HasCause held status.ReadFault ReadsFailed WritesFailed = ReadsFailed
HasCause held (status.Refused refusal) ReadsFailed WritesFailed = Refuses held refusal
HasCause held status.WriteFault ReadsFailed WritesFailed = WritesFailed
HasCause held status.Memory ReadsFailed WritesFailed = Unit {0}

-- the status is `wanted`, or memory ran out
abbrev pub IsUnlessMemory : ViewStatus → ViewStatus → Type 0
IsUnlessMemory ended wanted = (ended ≡ wanted) ⊎ (ended ≡ status.Memory)

-- the status is that no report has the bytes, or memory ran out
abbrev pub IsNoReportUnlessMemory : ViewStatus → Type 0
IsNoReportUnlessMemory ended = ((line : ℕ) × (ended ≡ status.Refused (NoReport line))) ⊎ (ended ≡ status.Memory)

-- Which status comes where the bytes of the file are known and no read fails, and for a report no write: the one that
-- the bytes call for, unless memory runs out.
pub record Completes (held : Option (List ℕ)) (ended : ViewStatus) (ReadsFailed WritesFailed : Type 0) : Type 0 where
  pub too_long : (text : List ℕ) → held ≡ Some text → ¬ ReadsFailed
      → MOST_REPORT_BYTES < length text → IsUnlessMemory ended (status.Refused TooLong)
  pub no_report : (text : List ℕ) → held ≡ Some text → ¬ ReadsFailed
      → length text ≤ MOST_REPORT_BYTES → HasNoReport text → IsNoReportUnlessMemory ended
  pub drawn : (text : List ℕ) (named : Named) → held ≡ Some text → ¬ ReadsFailed → ¬ WritesFailed
      → length text ≤ MOST_REPORT_BYTES → HasNamedText text named → IsUnlessMemory ended status.Done

-- Where the shelf never fails and holds the text of a report, and its picture is within the room that out has left, the
-- picture is drawn, unless memory runs out.
abbrev pub IsAssured : Option (List ℕ) → ViewStatus → Bool → ℕ → Type 0
IsAssured held ended never_fails room =
    (text : List ℕ) (named : Named) → held ≡ Some text → length text ≤ MOST_REPORT_BYTES → HasNamedText text named
    → IsTrue never_fails → length (picture named.names named.report) ≤ room → IsUnlessMemory ended status.Done
