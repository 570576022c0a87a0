use Rattle.std.proofs.Common.{◌≡◌, ℕ, ◌+◌, ◌-◌, ◌/◌, length, refl, ap, ◌∙◌, arith}
use Rattle.std.proofs.Math.Nat.{div-le_self}
use Rattle.std.proofs.lemmas.Grind.{common_steps}
use Rattle.word_counts.proofs.Cuts.{parts_more}
use Rattle.word_counts.proofs.parts.parts_of.Goals as goal

pub loop-caller-preserved : goal.loop-caller-preserved
loop-caller-preserved c =
    let i = c.loop-caller.invariant in
    let text = c.args.text.now in
    let from = c.loop-caller.from in
    let left = c.loop-caller.left in
    let to = c.line_end-to.result in
    let within = i.within in
    let same = i.left in
    let more = ap (λ l. length l) c.in-Some.ensures.steps.0 in
    let part = div-le_self (length text - from) left in
    let rise = c.line_end-to.ensures.within.0 in
    let end = c.line_end-to.ensures.within.1 in record {
      parts = rw c.in_ok-push.ensures.items (parts_more (λ part. part.caller) text 0 from c.loop-caller.parts.items c.loop-caller.yielded (record { caller = c.in-Some.caller; from = from; to = to }) i.parts refl (omega (arith, rise)) c.line_end-to.ensures.ends);
      within = end;
      left = omega (arith, same, more);
      ends = λ zero.
          let one : left ≡ 1 = omega (arith, same, more, zero) in
          let all : from + (length text - from) / left ≡ length text = ap (λ (m : ℕ). from + (length text - from) / m) one ∙ omega (arith, within) in
          omega (arith, all, rise, end);
      all = grind (arith, common_steps, c.in-Some.ensures.steps, i.all);
    }
