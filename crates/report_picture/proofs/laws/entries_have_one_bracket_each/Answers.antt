use Rattle.report_picture.proofs.BracketLaws.{has_brackets, keeps_brackets}
use Rattle.report_picture.proofs.laws.entries_have_one_bracket_each.Goals as goal

pub returns : goal.returns
returns c = record { some = has_brackets; one = keeps_brackets }
