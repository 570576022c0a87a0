use Rattle.std.proofs.Common.{◌≡◌, ◌+◌, ◌-◌, refl, sym, ◌∙◌, arith, append-nil}
use Rattle.std.proofs.lemmas.List.{take-append-drop}
use Rattle.object_rows.specs.Rows.{members}
use Rattle.object_rows.proofs.Taking.{lasts_step, fronts_step}
use Rattle.object_rows.proofs.rows.take_lasts.Goals as goal

pub loop-place-preserved : goal.loop-place-preserved
loop-place-preserved g c =
    let i = c.loop-place.invariant in
    let n = c.loop-place.place in
    let more : c.args.count - n ≡ (c.args.count - (n + 1)) + 1 = omega (arith, c.loop-place-test.true) in
    record {
      taken = rw (c.in_ok-push_some.ensures, c.take_last-last.ensures.taken, c.take_last-last.ensures.left)
          (lasts_step n (n + 1) (c.args.count - (n + 1)) (c.args.count - n) c.loop-place.taken.items (members c.loop-place.rows.items) refl more ∙ i.taken);
      left = rw c.take_last-last.ensures.left (fronts_step n (n + 1) (c.args.count - (n + 1)) (c.args.count - n) (members c.loop-place.rows.items) refl more ∙ i.left);
    }

pub returns : goal.returns
returns g c =
    let i = c.loop-place.invariant in
    let none : c.args.count - c.loop-place.place ≡ 0 = omega (arith, c.loop-place-test.false) in
    record {
      taken = sym (append-nil c.loop-place.taken.items) ∙ (rw none at i.taken);
      left = sym (take-append-drop c.loop-place.place (members c.loop-place.rows.items)) ∙ (rw none at i.left);
    }
