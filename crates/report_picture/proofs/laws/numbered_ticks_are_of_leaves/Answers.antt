use Rattle.report_picture.proofs.Marks.{ticks_numbered, first_ticks_numbered}
use Rattle.report_picture.proofs.laws.numbered_ticks_are_of_leaves.Goals as goal

pub returns : goal.returns
returns c = record { boxes = ticks_numbered; columns = first_ticks_numbered }
