use Rattle.word_counts.specs.Words.{words_of}
use Rattle.word_counts.proofs.Occurrences.{count_words}
use Rattle.word_counts.proofs.laws.counts_are_numbers_of_occurrences.Goals as goal

pub returns : goal.returns
returns c text = count_words (words_of text)
