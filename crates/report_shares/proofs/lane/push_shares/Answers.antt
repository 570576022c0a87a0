use Rattle.std.proofs.Common.{ℕ, ◌≡◌, ◌+◌, ◌∷◌, [], ◌++◌, map, sym, ap, ◌∙◌, append_assoc, arith}
use Rattle.std.specs.List.{range_with_len}
use Rattle.std.proofs.lemmas.List.FromFn.{map-range_with_len_more}
use Rattle.report_shares.specs.Shares.{share_in}
use Rattle.report_shares.specs.declared.share.Share.{Share}
use Rattle.report_shares.proofs.lane.push_shares.Goals as goal

pub loop-column-preserved : goal.loop-column-preserved
loop-column-preserved c =
    let share : ℕ → Share = λ column. share_in c.args.leaves c.args.worker column c.args.lane.now.work.items c.args.lane.now.calls.items in
    let n = c.loop-column.column in
    let e : 0 + n ≡ n = omega arith in
    c.in_ok-push.ensures.items
    ∙ (ap (λ s. c.loop-column.shares.items ++ s ∷ []) c.share_in.ensures
    ∙ (ap (λ t. t ++ share n ∷ []) c.loop-column.invariant
    ∙ (append_assoc c.args.shares.now.items (map share (range_with_len 0 n)) (share n ∷ [])
    ∙ ap (λ t. c.args.shares.now.items ++ t) (sym (map-range_with_len_more share 0 n n e)))))
