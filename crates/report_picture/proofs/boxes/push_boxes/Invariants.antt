use Rattle.std.proofs.Common.{◌≡◌, ◌++◌, take, map}
use Rattle.job_names.specs.Names.{spelling}
use Rattle.report_picture.specs.Code.Texts.{boxes_text}
use Rattle.report_picture.proofs.boxes.push_boxes.Given as goal

abbrev pub invariant-loop-row : goal.invariant-loop-row
invariant-loop-row l = l.text.items ≡ l.fn.text.items ++ boxes_text (map spelling l.names) l.book (take l.row-index l.rows)
