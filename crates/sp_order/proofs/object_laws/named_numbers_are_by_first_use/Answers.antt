use Rattle.std.proofs.Common.{length}
use Rattle.sp_order.proofs.ObjectLemmas.{each_used, most_used, all_unnamed}
use Rattle.sp_order.proofs.object_laws.named_numbers_are_by_first_use.Goals as goal

pub returns-clause-most : goal.returns-clause-most
returns-clause-most c = λ acts names are. (most_used acts 0 (length names) are.numbers).1

pub returns-clause-each : goal.returns-clause-each
returns-clause-each c = λ acts names number are above most. each_used acts 0 (length names) number are.numbers above most

pub returns-clause-none : goal.returns-clause-none
returns-clause-none c = λ acts names are none. all_unnamed acts (length names) none (most_used acts 0 (length names) are.numbers).1
