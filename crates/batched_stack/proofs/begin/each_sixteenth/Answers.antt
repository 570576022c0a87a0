use Rattle.std.proofs.Common.{◌≡◌, ◌+◌, ◌*◌, length, get_or, arith}
use Rattle.std.proofs.lemmas.List.FromFn.{fill_by_all}
use Rattle.batched_stack.specs.Stripes.{stripe_length}
use Rattle.batched_stack.proofs.begin.each_sixteenth.Goals as goal

pub returns : goal.returns
returns c =
    let i = c.loop-at.invariant in
    let long : length c.loop-at.found.items ≡ stripe_length c.args.first (length c.args.items.now) = omega (arith, i.at, i.before, c.loop-at-test.false, c.requires) in
    fill_by_all (λ k. get_or c.args.items.now (16 * k + c.args.first) 0) c.loop-at.found.items (stripe_length c.args.first (length c.args.items.now)) 0 long (λ k less. i.found k (omega (arith, long, less)))
