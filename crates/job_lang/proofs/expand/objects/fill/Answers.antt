use Rattle.std.proofs.Common.{◌++◌, ◌∷◌, [], length, ap, ◌∙◌, arith}
use Rattle.job_lang.proofs.ExpandLemmas.Kept.{zeros_start, zeros_more, zeros_done, at_end}
use Rattle.job_lang.proofs.expand.objects.fill.Goals as goal

pub loop-init : goal.loop-init
loop-init c = record {
  zeros = zeros_start c.args.numbers.now.items c.len-counter.result (omega (arith, c.len-counter.ensures, c.args.numbers.now.ok.0));
  stays = λ less. omega (arith, c.len-counter.ensures, c.args.numbers.now.ok.0);
}

pub loop-preserved : goal.loop-preserved
loop-preserved c =
    let few = c.loop.auto.counter in
    let stays = c.loop.invariant.stays in
    record {
      zeros = c.in_ok-push.ensures.items ∙ ap (λ xs. xs ++ 0 ∷ []) c.loop.invariant.zeros
          ∙ zeros_more c.args.numbers.now.items c.loop.counter (omega (arith, few, c.len-counter.ensures, c.args.numbers.now.ok.0));
      stays = λ less. absurd (omega (arith, stays less, less, c.loop-test.true));
    }

pub returns : goal.returns
returns c =
    let end = c.loop.auto.counter-end in
    c.loop.invariant.zeros
    ∙ zeros_done c.args.numbers.now.items c.loop.counter c.args.count
    (at_end (length c.args.numbers.now.items) c.loop.counter c.args.count (λ h. end (omega (arith, h, c.len-counter.ensures, c.args.numbers.now.ok.0))) c.loop.invariant.stays c.loop-test.false)
