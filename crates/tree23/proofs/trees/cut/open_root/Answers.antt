use Rattle.std.proofs.Common.{◌≡◌, ◌++◌, ◌∷◌, refl, ap, append_assoc}
use Rattle.tree_nodes.specs.Nodes.{keys}
use Rattle.tree23.proofs.SideBySideLemmas.Cutting.{left_first, left_first_of_three, left_second, left_again}
use Rattle.tree23.proofs.trees.cut.open_root.Goals as goal

pub returns-in_ok-push-in-Two-clause-left : goal.returns-in_ok-push-in-Two-clause-left
returns-in_ok-push-in-Two-clause-left c =
    let r = c.take_two-first.result in
    let e : keys c.args.tree ≡ keys r.0 ++ r.1 ∷ keys r.2 = rw (c.take_two-first.ensures, c.deref_mut.ensures.value) (ap keys c.in-Two.is) in
    let up = c.in_ok-push-in-Two.ensures in
    left_first _ _ _ _ _ _ _ e c.requires.sides c.requires.ascends up.trees up.front up.stack c.if-key-low.true

pub returns-in_ok-put_low-in-Two-clause-left : goal.returns-in_ok-put_low-in-Two-clause-left
returns-in_ok-put_low-in-Two-clause-left c =
    let r = c.take_two-first.result in
    let e : keys c.args.tree ≡ keys r.0 ++ r.1 ∷ keys r.2 = rw (c.take_two-first.ensures, c.deref_mut.ensures.value) (ap keys c.in-Two.is) in
    let down = c.in_ok-put_low-in-Two.ensures in
    left_second _ _ _ _ _ _ _ e c.requires.sides c.requires.ascends down.trees down.high down.keys down.before c.if-key-low.false

pub returns-then-key-low-2-clause-left : goal.returns-then-key-low-2-clause-left
returns-then-key-low-2-clause-left c =
    let r = c.take_three-first.result in
    let e : keys c.args.tree ≡ (keys r.0 ++ r.1 ∷ keys r.2) ++ r.3 ∷ keys r.4 = rw (c.take_three-first.ensures, c.deref_mut-in-Three.ensures.value, append_assoc) (ap keys c.in-Three.is) in
    let up = c.in_ok-push-in-Three.ensures in
    let up' = c.in_ok-push-in-Three-2.ensures in
    let two = left_first_of_three _ _ _ _ _ _ _ _ _ e c.requires.sides c.requires.ascends up.trees up.front up.stack c.if-key-low-2.true in
    left_again _ _ _ _ _ _ two (left_first _ _ _ _ _ _ _ refl two.sides two.ascends up'.trees up'.front up'.stack c.if-key-low-2.true)

pub returns-in_ok-push-in-Three-3-clause-left : goal.returns-in_ok-push-in-Three-3-clause-left
returns-in_ok-push-in-Three-3-clause-left c =
    let r = c.take_three-first.result in
    let e : keys c.args.tree ≡ keys r.0 ++ r.1 ∷ (keys r.2 ++ r.3 ∷ keys r.4) = rw (c.take_three-first.ensures, c.deref_mut-in-Three.ensures.value) (ap keys c.in-Three.is) in
    let down = c.in_ok-put_low-in-Three.ensures in
    let up = c.in_ok-push-in-Three-3.ensures in
    let two = left_second _ _ _ _ _ _ _ e c.requires.sides c.requires.ascends down.trees down.high down.keys down.before c.if-key-low-2.false in
    left_again _ _ _ _ _ _ two (left_first _ _ _ _ _ _ _ refl two.sides two.ascends up.trees up.front up.stack c.if-key-high.true)

pub returns-in_ok-put_low-in-Three-2-clause-left : goal.returns-in_ok-put_low-in-Three-2-clause-left
returns-in_ok-put_low-in-Three-2-clause-left c =
    let r = c.take_three-first.result in
    let e : keys c.args.tree ≡ keys r.0 ++ r.1 ∷ (keys r.2 ++ r.3 ∷ keys r.4) = rw (c.take_three-first.ensures, c.deref_mut-in-Three.ensures.value) (ap keys c.in-Three.is) in
    let down = c.in_ok-put_low-in-Three.ensures in
    let down' = c.in_ok-put_low-in-Three-2.ensures in
    let two = left_second _ _ _ _ _ _ _ e c.requires.sides c.requires.ascends down.trees down.high down.keys down.before c.if-key-low-2.false in
    left_again _ _ _ _ _ _ two (left_second _ _ _ _ _ _ _ refl two.sides two.ascends down'.trees down'.high down'.keys down'.before c.if-key-high.false)
