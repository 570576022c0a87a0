use Rattle.std.proofs.Common.{◌≡◌, drop, sym, ap, ◌∙◌, arith}
use Rattle.job_syntax.specs.Words.{words_on_lines}
use Rattle.job_lang.proofs.LimitLemmas.WordPlaces.{one_more, some_word}
use Rattle.job_lang.proofs.text_limits.line_at.Goals as goal

pub loop-preserved : goal.loop-preserved
loop-preserved c = one_more c.next.result (words_on_lines c.args.text.now) c.loop.words c.next.new.self c.loop.counter c.loop.invariant c.next.ensures

pub unreachable-requires : goal.unreachable-requires
unreachable-requires c =
    let at : c.args.place ≡ c.loop.counter = omega (arith, c.loop-test.false, c.loop.auto.counter-end) in
    some_word (words_on_lines c.args.text.now) c.args.place c.requires.within
    (ap (λ n. drop n (words_on_lines c.args.text.now)) at ∙ sym c.loop.invariant ∙ c.in_default.ensures.0)
