use Rattle.std.proofs.Common.{◌≡◌, ◌<◌, ◌+◌, ◌-◌, ◌∷◌, length, drop, ap, sym, ◌∙◌, arith}
use Rattle.std.proofs.lemmas.List.{drop_more, length-set}
use Rattle.object_rows.proofs.Putting.{put_step}
use Rattle.object_rows.proofs.replies.put_last.Goals as goal

pub loop-index-preserved : goal.loop-index-preserved
loop-index-preserved c =
    let dealt = c.args.dealt.now.items in
    let own = c.args.own.now in
    let index = c.loop-index.index in
    let first = c.len.result - length own in
    let one = c.index.result.now in
    let replies = c.loop-index.replies.items in
    let within : first + index < length dealt = let all = c.args.dealt.now.ok.0 in let end = c.len.ensures in omega (arith, c.loop-index-test.true, c.requires.count, all, end) in
    let one_is : drop (first + index) dealt ≡ one ∷ drop (first + index + 1) dealt = drop_more dealt (first + index) one within ∙ ap (λ d. d ∷ drop (first + index + 1) dealt) (sym c.index.ensures) in
    record {
      put = put_step first index dealt one own _ replies one_is (drop_more own index _ c.loop-index-test.true) ∙ c.loop-index.invariant.put;
      long = length-set replies one.place _ ∙ c.loop-index.invariant.long;
    }
