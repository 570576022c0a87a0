use Rattle.std.proofs.Common.{◌≡◌, ◌++◌, ◌∙◌, ap, append_assoc, take, drop}
use Rattle.std.proofs.lemmas.List.{take-append-drop}
use Rattle.piece_threads.specs.Code.Bundles.{pieces_in}
use Rattle.piece_threads.proofs.BundleLemmas.{pieces_in_more}
use Rattle.piece_threads.proofs.bundles.bundles_of.Goals as goal

pub loop-left-preserved : goal.loop-left-preserved
loop-left-preserved g c =
    let left = c.loop-left.left.items in
    let size = c.args.size in
    let before = pieces_in c.loop-left.bundles.items in
    let pieces_are : pieces_in c.push.new.self.items ≡ before ++ take size left = ap pieces_in c.in_ok-push.ensures.items ∙ pieces_in_more c.loop-left.bundles.items c.split_off.new.self ∙ ap (λ xs. before ++ xs) c.in_ok-rest.ensures.items in
    rw (pieces_are, c.in_ok-rest.ensures.tail) (append_assoc before (take size left) (drop size left) ∙ ap (λ xs. before ++ xs) (take-append-drop size left) ∙ c.loop-left.invariant)

pub returns : goal.returns
returns g c = ap pieces_in c.in_ok-push-2.ensures.items ∙ pieces_in_more c.loop-left.bundles.items c.loop-left.left ∙ c.loop-left.invariant
