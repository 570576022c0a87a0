use Rattle.std.proofs.Common.{rules, ◌≡◌, ◌++◌, [], length, map, sym, ap, ◌∙◌, append-nil}
use Rattle.std.proofs.lemmas.List.{nil_from_length}
use Rattle.leaf_places.specs.Code.Walk.{in_copy}
use Rattle.leaf_places.proofs.Copying.{no_copies, copies_more}
use Rattle.leaf_places.proofs.walk.push_copies.Goals as goal

pub loop-copy-preserved : goal.loop-copy-preserved
loop-copy-preserved c =
    copies_more c.loop-copy.copy (λ k. map (in_copy k) c.args.inside.now) _ _ _ c.loop-copy.invariant c.in_ok-push_copy.ensures

pub returns-then-is_empty : goal.returns-then-is_empty
returns-then-is_empty c =
    let zero : length c.args.inside.now ≡ 0 = search rules in
    let empty : c.args.inside.now ≡ [] = nil_from_length c.args.inside.now zero in
    let none = no_copies c.args.copies (λ k. map (in_copy k) c.args.inside.now) (λ k. ap (map (in_copy k)) empty) in
    sym (ap (λ xs. c.args.places.now.items ++ xs) none ∙ append-nil c.args.places.now.items)
