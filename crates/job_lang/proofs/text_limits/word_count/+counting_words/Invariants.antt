use Rattle.std.proofs.Common.{◌≡◌, ◌+◌, length, take}
use Rattle.job_syntax.specs.Grammar.{items_words}
use Rattle.job_syntax.specs.Views.{items_of, item_of}
use Rattle.job_lang.proofs.Weights.{weight}
use Rattle.job_lang.proofs.text_limits.word_count.+counting_words.Given as goal

abbrev pub invariant-items_word_count-loop-item : goal.invariant-items_word_count-loop-item
invariant-items_word_count-loop-item l = l.word_count ≡ length (items_words (items_of (take l.item-index l.items)))

abbrev pub decreases-items_word_count : goal.decreases-items_word_count
decreases-items_word_count l = weight (items_of l.items.now) + 1

abbrev pub decreases-item_word_count : goal.decreases-item_word_count
decreases-item_word_count l = weight (item_of l.item.now)
