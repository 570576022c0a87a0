use Rattle.std.proofs.Common.{◌≡◌, ◌++◌}
use Rattle.std.specs.List.{flat_map, range_with_len}
use Rattle.report_picture.specs.Code.Texts.{lane_text}
use Rattle.report_picture.proofs.frame.push_lanes.Given as goal

abbrev pub invariant-loop-worker : goal.invariant-loop-worker
invariant-loop-worker l = l.text.items ≡ l.fn.text.items ++ flat_map (lane_text l.right) (range_with_len 0 l.worker)
