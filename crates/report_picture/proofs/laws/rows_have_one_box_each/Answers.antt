use Rattle.report_picture.proofs.BoxLaws.{has_boxes}
use Rattle.report_picture.proofs.laws.rows_have_one_box_each.Goals as goal

pub returns : goal.returns
returns c = has_boxes
