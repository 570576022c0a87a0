-- The job language: which texts are jobs, the job of each, and the fault of a text that is not a job.
use Rattle.std.specs.Prelude.{◌≡◌, ℕ, ◌≤◌, List, None, Some}
use Rattle.limits.specs.declared.TheConstants.{MOST_LEAVES}
use Rattle.sp_order.specs.Jobs.{JobValue}
use Rattle.job_syntax.specs.declared.fault.JobFault.{JobFault}
use Rattle.job_syntax.specs.declared.fault.JobFault.TheVariants as fault
use Rattle.job_syntax.specs.Text.{forbidden_line, last_line}
use Rattle.job_syntax.specs.Words.{words_on_lines}
use Rattle.job_syntax.specs.Grammar.{Items}
use Rattle.job_syntax.specs.ItemsOf.{AreItemsOf}
use Rattle.job_syntax.specs.Faults.{IsReadingFault}
use Rattle.job_lang.specs.Counts.{count}
use Rattle.job_lang.specs.Meaning.{job_of}
use Rattle.job_lang.specs.Limits.{IsLeavesLine, argument_line}

-- The text is a text of the job: no byte outside comments is forbidden, the grammar gives the text items, these make no
-- more leaves than a job may have, no argument is out of range in a copy, and the job is that of the items.
pub record IsJobOf (text : List ℕ) (job : JobValue) : Type 0 where
  pub allowed : forbidden_line text ≡ None
  pub items : Items
  pub read : AreItemsOf (words_on_lines text) items
  pub few : count items ≤ MOST_LEAVES
  pub small : argument_line (words_on_lines text) items ≡ None
  pub means : job ≡ job_of items

-- the text is a text of some job
abbrev pub Accepts : List ℕ → Type 0
Accepts text = (job : JobValue) × IsJobOf text job

-- The grammar gives the text items, but they make too many leaves, which the fault puts on this line.
pub record HasTooManyLeaves (text : List ℕ) (line : ℕ) : Type 0 where
  pub allowed : forbidden_line text ≡ None
  pub items : Items
  pub read : AreItemsOf (words_on_lines text) items
  pub where_it_is : IsLeavesLine (words_on_lines text) items line

-- The grammar gives the text items that make no more leaves than a job may have, but an argument is out of range in
-- some copy, on this line.
pub record HasArgumentOutOfRange (text : List ℕ) (line : ℕ) : Type 0 where
  pub allowed : forbidden_line text ≡ None
  pub items : Items
  pub read : AreItemsOf (words_on_lines text) items
  pub few : count items ≤ MOST_LEAVES
  pub where_it_is : argument_line (words_on_lines text) items ≡ Some line

-- The text has this fault. The first in this order counts: a forbidden byte; a fault of reading, which is a token or
-- the end of the text that does not fit, a bad number, too deep a nesting, or a use of a name that sees no let of it;
-- too many leaves; an argument out of range.
abbrev pub IsFaultOf : List ℕ → JobFault → Type 0
IsFaultOf text (fault.Byte line) = forbidden_line text ≡ Some line
IsFaultOf text (fault.Leaves line) = HasTooManyLeaves text line
IsFaultOf text (fault.Argument line) = HasArgumentOutOfRange text line
IsFaultOf text found = (forbidden_line text ≡ None) × IsReadingFault (last_line text) (words_on_lines text) found
