use Rattle.report_picture.proofs.Shown.{one_svg, boxes_shown}
use Rattle.report_picture.proofs.laws.pictures_show_their_boxes.Goals as goal

pub returns : goal.returns
returns c = record { one = one_svg; boxes = boxes_shown }
