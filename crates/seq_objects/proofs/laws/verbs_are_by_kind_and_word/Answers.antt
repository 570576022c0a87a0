use Rattle.seq_objects.proofs.Verbs.{verb_found, verb_has_parts}
use Rattle.seq_objects.proofs.laws.verbs_are_by_kind_and_word.Goals as goal

pub returns-clause-found : goal.returns-clause-found
returns-clause-found c = verb_found

pub returns-clause-has : goal.returns-clause-has
returns-clause-has c = verb_has_parts
