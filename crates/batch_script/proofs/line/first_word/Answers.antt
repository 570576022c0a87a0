use Rattle.std.proofs.Common.{◌∙◌, ◌<◌, sym, length, arith}
use Rattle.batch_script.specs.Scripts.{is_blank}
use Rattle.batch_script.proofs.WordLemmas.{words_first, position_within}
use Rattle.batch_script.proofs.line.first_word.Goals as goal

pub split_at-requires : goal.split_at-requires
split_at-requires c = rw c.word_len.ensures (position_within (λ byte. is_blank byte) c.loop-left.left.now)

pub returns-then-not-is_blank-clause-words : goal.returns-then-not-is_blank-clause-words
returns-then-not-is_blank-clause-words c =
    let any : 0 < length c.loop-left.left.now = omega (arith, c.in-len1-up.len_at_least) in
    rw (c.split_at.ensures.front, c.split_at.ensures.back) (sym c.loop-left.invariant.same ∙ words_first c.word_len.result c.loop-left.left.now any c.word_len.ensures (sym c.is_blank.ensures ∙ c.if-not-is_blank.true))
