use Rattle.seq_objects.proofs.Verbs.{kind_found, kind_has_text, kind_letters, kind_some, word_found, word_has_text, word_letters, word_some}
use Rattle.seq_objects.proofs.laws.texts_are_of_one.Goals as goal

pub returns-clause-kind : goal.returns-clause-kind
returns-clause-kind c = kind_found

pub returns-clause-kind_has : goal.returns-clause-kind_has
returns-clause-kind_has c = kind_has_text

pub returns-clause-kind_letters : goal.returns-clause-kind_letters
returns-clause-kind_letters c kind = (kind_some kind, kind_letters kind)

pub returns-clause-word : goal.returns-clause-word
returns-clause-word c = word_found

pub returns-clause-word_has : goal.returns-clause-word_has
returns-clause-word_has c = word_has_text

pub returns-clause-word_letters : goal.returns-clause-word_letters
returns-clause-word_letters c word = (word_some word, word_letters word)
