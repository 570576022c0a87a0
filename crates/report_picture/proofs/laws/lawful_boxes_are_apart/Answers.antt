use Rattle.report_picture.proofs.BoxLaws.{keeps_apart}
use Rattle.report_picture.proofs.laws.lawful_boxes_are_apart.Goals as goal

pub returns : goal.returns
returns c = keeps_apart
