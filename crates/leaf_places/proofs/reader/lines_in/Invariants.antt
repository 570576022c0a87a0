use Rattle.std.proofs.Common.{◌≡◌, ◌++◌, length}
use Rattle.job_syntax.specs.Words.{words_on_lines}
use Rattle.leaf_places.specs.Places.{lines_of}
use Rattle.leaf_places.proofs.reader.lines_in.Given as goal

-- the lines so far, and those of the words that are left
abbrev pub invariant-loop-word : goal.invariant-loop-word
invariant-loop-word l = l.lines.items ++ lines_of l.words ≡ lines_of (words_on_lines l.text)

abbrev pub decreases-loop-word : goal.decreases-loop-word
decreases-loop-word l = length l.words
