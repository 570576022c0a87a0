use Rattle.seq_objects.proofs.Parts.{whole, verb_given, number_given, argument_given, same_parts}
use Rattle.seq_objects.proofs.laws.operations_are_their_parts.Goals as goal

pub returns-clause-whole : goal.returns-clause-whole
returns-clause-whole c = whole

pub returns-clause-verb : goal.returns-clause-verb
returns-clause-verb c = verb_given

pub returns-clause-number : goal.returns-clause-number
returns-clause-number c = number_given

pub returns-clause-argument : goal.returns-clause-argument
returns-clause-argument c = argument_given

pub returns-clause-same : goal.returns-clause-same
returns-clause-same c = same_parts
