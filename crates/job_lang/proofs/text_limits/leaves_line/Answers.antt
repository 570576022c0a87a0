use Rattle.std.proofs.Common.{arith}
use Rattle.job_syntax.specs.declared.lexer.word.Word.TheVariants.{Open}
use Rattle.job_syntax.specs.Words.{words_on_lines}
use Rattle.job_syntax.proofs.LexerLemmas.Fewer.{few_words}
use Rattle.job_lang.proofs.LimitLemmas.Cuts.{count_more}
use Rattle.job_lang.proofs.LimitLemmas.WordCounts.{word_count_more}
use Rattle.job_lang.proofs.LimitLemmas.LeavesLines.{first_word, last_word, leaves_line_of}
use Rattle.job_lang.proofs.text_limits.leaves_line.Goals as goal

pub line_at-requires-clause-within : goal.line_at-requires-clause-within
line_at-requires-clause-within c =
    first_word (words_on_lines c.args.text.now) c.args.items.now c.loop-item.item-index c.loop-item.place c.item-item.result c.requires.writes c.loop-item-test.true c.item-item.is c.loop-item.invariant.place

pub returns-then-leaves-gt-MOST_LEAVES-clause-some :
    goal.returns-then-leaves-gt-MOST_LEAVES-clause-some
returns-then-leaves-gt-MOST_LEAVES-clause-some c =
    leaves_line_of (words_on_lines c.args.text.now) c.args.items.now c.loop-item.item-index c.loop-item.place _ c.item-item.result (record { word = Open; line = 0 }) c.requires.writes c.loop-item-test.true c.item-item.is c.loop-item.invariant.place
    (omega (arith, c.loop-item.invariant.leaves, c.loop-item.invariant.few)) (omega (arith, c.loop-item.invariant.leaves, c.count_item-leaves.ensures, c.if-leaves-gt-MOST_LEAVES.true)) (c.line_at.ensures _)

pub item_word_count-place-requires : goal.item_word_count-place-requires
item_word_count-place-requires c =
    let words = words_on_lines c.args.text.now in
    let last = last_word words c.args.items.now c.loop-item.item-index c.loop-item.place c.item-item.result c.requires.writes c.loop-item-test.true c.item-item.is c.loop-item.invariant.place in
    omega (arith, last, few_words c.args.text.now, c.requires.short)

pub overflow_add-place : goal.overflow_add-place
overflow_add-place c =
    let words = words_on_lines c.args.text.now in
    let last = last_word words c.args.items.now c.loop-item.item-index c.loop-item.place c.item-item.result c.requires.writes c.loop-item-test.true c.item-item.is c.loop-item.invariant.place in
    omega (arith, last, few_words c.args.text.now, c.requires.short, c.item_word_count-place.ensures)

pub loop-item-preserved : goal.loop-item-preserved
loop-item-preserved c =
    let more = count_more c.args.items.now c.loop-item.item-index c.item-item.result c.loop-item-test.true c.item-item.is in
    let word_count = word_count_more c.args.items.now c.loop-item.item-index c.item-item.result c.loop-item-test.true c.item-item.is in
    record {
      leaves = omega (arith, more, c.loop-item.invariant.leaves, c.count_item-leaves.ensures, c.if-leaves-gt-MOST_LEAVES.false);
      few = omega (arith, c.if-leaves-gt-MOST_LEAVES.false);
      place = omega (arith, word_count, c.loop-item.invariant.place, c.item_word_count-place.ensures);
    }
