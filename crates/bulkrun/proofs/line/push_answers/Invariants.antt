use Rattle.std.proofs.Common.{◌≡◌, ◌++◌, drop, string_bytes}
use Rattle.bulkrun.specs.Text.{answer_words}
use Rattle.bulkrun.proofs.line.push_answers.Given as goal

abbrev pub invariant-loop-answer : goal.invariant-loop-answer
invariant-loop-answer l = string_bytes l.text ++ answer_words (drop l.answer-index l.answers) ≡ string_bytes l.fn.text ++ answer_words l.answers
