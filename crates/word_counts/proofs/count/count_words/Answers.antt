use Rattle.std.proofs.Common.{map, sym, ◌∙◌, arith}
use Rattle.shared_calls.specs.Views.{made}
use Rattle.word_counts.specs.Words.{words_of}
use Rattle.word_counts.proofs.Closings.{word}
use Rattle.word_counts.proofs.Cuts.{space_step, letter_step}
use Rattle.word_counts.proofs.count.count_words.Goals.{then-is_space+in_ok-count_word, else-is_space}
use Rattle.word_counts.proofs.count.count_words.Goals as goal

pub loop-i-preserved : goal.loop-i-preserved
loop-i-preserved g c =
    let inv = c.loop-i.invariant in
    let text = c.args.text.now in
    let start = c.loop-i.start in
    let i = c.loop-i.i in
    let within = inv.within in
    let before = map word (made c.loop-i.caller) in
    let test = c.loop-i-test.true in
    elim c.if-is_space.branch [
      | then-is_space+in_ok-count_word w ↦
          let e = w.in_ok-count_word.ensures in rw (w.caller-is, w.start-is) (record {
            caller = e.own.0;
            number = e.own.1 ∙ inv.number;
            sound = e.stays;
            within = omega arith;
            words = space_step text start i before (map word (made w.count_word.new.caller)) (words_of text) (omega (arith, test)) (sym c.is_space.ensures ∙ w.if-is_space.true) e.called inv.words;
          })
      | else-is_space w ↦
          rw (w.caller-is, w.start-is) (record {
            caller = inv.caller;
            number = inv.number;
            sound = inv.sound;
            within = omega (arith, within);
            words = letter_step text start i before (words_of text) within (omega (arith, test)) (sym c.is_space.ensures ∙ w.if-is_space.false) inv.words;
          })
    ]
