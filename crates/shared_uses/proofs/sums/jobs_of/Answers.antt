use Rattle.std.proofs.Common.{◌≡◌, ℕ, ◌+◌, ◌-◌, ◌/◌, length, refl, ap, ◌∙◌, arith}
use Rattle.std.proofs.Math.Nat.{div-le_self}
use Rattle.std.proofs.lemmas.Grind.{common_steps}
use Rattle.shared_uses.proofs.Adds.{jobs_more}
use Rattle.shared_uses.proofs.sums.jobs_of.Goals as goal

pub loop-caller-preserved : goal.loop-caller-preserved
loop-caller-preserved c =
    let i = c.loop-caller.invariant in
    let from = c.loop-caller.from in
    let left = c.loop-caller.left in
    let end = c.args.end in
    let to = from + (end - from) / left in
    let within = i.within in
    let same = i.left in
    let more = ap (λ l. length l) c.in-Some.ensures.steps.0 in
    let part = div-le_self (end - from) left in record {
      jobs = rw c.in_ok-push.ensures.items (jobs_more (λ job. job.caller) 0 from c.loop-caller.jobs.items c.loop-caller.yielded (record { caller = c.in-Some.caller; from = from; to = to }) i.jobs refl (omega arith));
      within = omega (arith, within, part);
      left = omega (arith, same, more);
      ends = λ zero.
          let one : left ≡ 1 = omega (arith, same, more, zero) in
          ap (λ (m : ℕ). from + (end - from) / m) one ∙ omega (arith, within);
      all = grind (arith, common_steps, c.in-Some.ensures.steps, i.all);
    }
