use Rattle.std.proofs.Common.{◌++◌, ap, ◌∙◌, sym, append_assoc}
use Rattle.std.specs.List.{flat_map, range_with_len}
use Rattle.report_picture.specs.Code.Texts.{lane_text}
use Rattle.report_picture.proofs.Ranges.{flat_more}
use Rattle.report_picture.proofs.frame.push_lanes.Goals as goal

pub loop-worker-preserved : goal.loop-worker-preserved
loop-worker-preserved c =
    let line = lane_text c.args.right in
    let n = c.loop-worker.worker in
    c.in_ok-push_lane.ensures
    ∙ (ap (λ t. t ++ line n) c.loop-worker.invariant
    ∙ (append_assoc c.args.text.now.items (flat_map line (range_with_len 0 n)) (line n) ∙ ap (λ t. c.args.text.now.items ++ t) (sym (flat_more line n))))
